use Rattle.address_space.proofs.Names.{rules, sym, subst, Capability, MayBeHeld, slot_at, objects_in}
use Rattle.std.proofs.Common.{◌≡◌, ◌-◌, ◌^◌, ◌/◌, ◌%◌}
use Rattle.address_space.proofs.Known.{space_known}
use Rattle.address_space.proofs.walking.next_slot.Goals as goal

pub fetch_one-requires-clause-known : goal.fetch_one-requires-clause-known
fetch_one-requires-clause-known g c = search (rules, space_known)

pub returns-clause-held : goal.returns-clause-held
returns-clause-held g c =
    let os = objects_in (g.F.Frames.parts c.args.frames.now) in
    let slot = c.args.index / 32 ^ (c.args.tree.height - 1) % 32 in
    let is : c.slot.result ≡ slot_at os c.args.tree.node slot = search rules in
    subst (λ (s : Capability). MayBeHeld os s) (sym is) (c.requires.sound.1.sound.slots c.args.tree.node slot)
