use Rattle.devices.proofs.Stored.{is_within, stored_is}
use Rattle.devices.proofs.sector_copy.SectorCopy.sector.Goals as goal

pub has-requires : goal.has-requires
has-requires c = is_within c.self.inside.stored c.self.invariant c.args.self.now c.self.view_is c.args.at c.requires

pub returns-then-has : goal.returns-then-has
returns-then-has c =
    stored_is c.self.inside.stored c.self.invariant c.args.self.now c.self.view_is c.args.at c.requires c.item.result.now c.item.ensures
