use Rattle.layout.proofs.Roots.{unit_more}
use Rattle.layout.proofs.sealed.root.add_unit.Goals as goal

pub returns : goal.returns
returns c = λ us was. unit_more c.args.number c.args.seal c.args.root c.add_weighted.result us c.add_weighted.ensures was
