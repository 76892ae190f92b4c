use Rattle.object_cache.proofs.Names.{arith}
use Rattle.std.proofs.Common.{◌<◌}
use Rattle.model.specs.declared.object.Content.TheVariants as content
use Rattle.object_cache.proofs.Opening.{one_inserted}
use Rattle.object_cache.proofs.saved_objects.insert_all.Goals as goal

pub loop-number-preserved : goal.loop-number-preserved
loop-number-preserved c =
    let below : c.loop-number.number < c.args.count = omega (arith, c.loop-number-test.true) in
    rw c.insert.ensures (one_inserted c.loop-number.entries c.loop-number.number c.args.count c.loop-number.invariant below content.Free)
