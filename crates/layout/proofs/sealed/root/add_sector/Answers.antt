use Rattle.layout.proofs.Roots.{sector_more}
use Rattle.layout.proofs.sealed.root.add_sector.Goals as goal

pub returns : goal.returns
returns c = λ ss was. sector_more c.args.seal c.args.sums c.add_weighted.result ss c.add_weighted.ensures was
