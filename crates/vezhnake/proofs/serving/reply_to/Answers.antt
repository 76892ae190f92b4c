use Rattle.vezhnake.proofs.ServedLines.{numbered}
use Rattle.vezhnake.proofs.serving.reply_to.Goals as goal

pub returns : goal.returns
returns g c =
    numbered g.S.ObjectStore.view g.S.Frames.parts c.args.kernel.now c.serve-served.new.kernel c.args.command.now c.serve-served.result
    c.of.result c.serve-served.ensures c.of.ensures
