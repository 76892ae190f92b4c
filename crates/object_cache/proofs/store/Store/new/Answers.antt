use Rattle.object_cache.proofs.Names.{refl, stored_of}
use Rattle.object_cache.proofs.Opening.{open_cache, open_over}
use Rattle.object_cache.proofs.store.Store.new.Goals as goal

pub invariant_of-result : goal.invariant_of-result
invariant_of-result g c =
    let r = c.in-Ok.ensures in
    let hs = c.args.headers.items in
    rw (c.new-in-Ok.ensures, r.headers, r.touched, r.dirty, r.pending, r.staging, c.deref.ensures.value)
    (open_cache (stored_of g.D.Device.disk c.args.durable) hs hs refl c.requires.opened c.args.entries c.requires.bodies c.requires.whole)

pub returns-in-Ok-clause-made : goal.returns-in-Ok-clause-made
returns-in-Ok-clause-made g c =
    let r = c.in-Ok.ensures in
    let hs = c.args.headers.items in
    rw (c.new-in-Ok.ensures, r.headers, r.touched, r.dirty, r.pending, r.staging, c.deref.ensures.value)
    (open_over (stored_of g.D.Device.disk c.args.durable) hs hs refl c.requires.opened c.args.entries c.requires.bodies g.D.Device.disk
    c.args.durable refl)
