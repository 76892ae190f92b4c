use Rattle.image_explainer.proofs.Names.{arith, none_read, entry_read}
use Rattle.image_explainer.proofs.sectors.directory.take_entries.Goals as goal

pub loop-i-init : goal.loop-i-init
loop-i-init c = none_read c.args.bytes.now c.args.into.now

pub loop-i-preserved : goal.loop-i-preserved
loop-i-preserved c =
    entry_read c.args.bytes.now c.loop-i.into c.loop-i.i c.number_at.result c.number_at-in-loop-i.result (omega arith) c.loop-i.invariant
    (omega arith)
    (omega arith)
    c.number_at.ensures.rest c.number_at-in-loop-i.ensures.rest
