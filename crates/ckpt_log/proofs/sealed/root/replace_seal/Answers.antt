use Rattle.ckpt_log.proofs.SealedWritten.{root_with}
use Rattle.ckpt_log.proofs.sealed.root.replace_seal.Goals as goal

pub returns : goal.returns
returns c =
    root_with c.args.number c.args.old c.args.new c.args.root c.remove_unit.result c.add_unit.result c.remove_unit.ensures
    c.add_unit.ensures
