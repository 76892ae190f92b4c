use Rattle.ckpt_log.proofs.SealedWritten.{root_after}
use Rattle.ckpt_log.proofs.sealed.root.add_last.Goals as goal

pub returns : goal.returns
returns c = root_after c.args.number c.args.seal c.args.root c.add_unit.result c.add_unit.ensures
