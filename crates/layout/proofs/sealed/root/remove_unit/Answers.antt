use Rattle.std.proofs.Common.{arith}
use Rattle.layout.proofs.Roots.{unit_less}
use Rattle.layout.proofs.sealed.root.remove_unit.Goals as goal

pub returns : goal.returns
returns c = λ us was.
    unit_less c.args.number c.args.seal c.args.root c.take_weighted.result us (omega arith) (omega arith) (omega arith)
    c.take_weighted.ensures was
