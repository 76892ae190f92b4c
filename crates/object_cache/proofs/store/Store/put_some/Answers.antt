use Rattle.object_cache.proofs.Names.{rules, counted_ok, ap, goes_trans}
use Rattle.std.proofs.Common.{◌∙◌, ◌<◌}
use Rattle.object_cache.proofs.Turns.{next_requested, puts_more}
use Rattle.object_cache.proofs.store.Store.put_some.Goals as goal

pub put_one-requires : goal.put_one-requires
put_one-requires g c =
    let lt : c.loop.counter < c.args.count = search rules in
    next_requested g.D.Device.disk c.args.self.now c.loop.self c.args.count c.loop.counter c.requires c.loop.invariant.0 lt

pub returns-in_err-put_one-clause-goes_on : goal.returns-in_err-put_one-clause-goes_on
returns-in_err-put_one-clause-goes_on g c =
    let disk = g.D.Device.disk in
    let before = c.loop.invariant.0 in
    goes_trans (disk c.args.self.now.durable.beneath) (disk c.loop.self.durable.beneath) (disk c.put_one.new.self.durable.beneath)
    c.args.self.now.durable.books c.loop.self.durable.books c.put_one.new.self.durable.books
    (ap (λ a. a.saved) (before.snapshots c.requires.0 c.requires.1)) before.goes_on c.put_one.ensures.goes_on

pub loop-preserved : goal.loop-preserved
loop-preserved g c = (
  puts_more g.D.Device.disk c.args.self.now c.loop.self c.put_one.new.self c.requires.0 c.loop.counter 1 c.requires.1 c.loop.invariant.0
      c.in_ok-put_one.ensures.put,
  counted_ok c.in_ok-put_one.ensures.cause ∙ c.loop.invariant.1,
)
