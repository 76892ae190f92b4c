use Rattle.devices.proofs.Stored.{IsPut, is_put, is_sector, is_within}
use Rattle.devices.proofs.sector_copy.SectorCopy.put_sector.Goals as goal

pub store-requires-clause-inside : goal.store-requires-clause-inside
store-requires-clause-inside c = is_within c.self.inside.stored c.self.invariant c.args.self.now c.self.view_is c.args.at c.requires.inside

put : (c : goal.After-store) → IsPut c.args.self.now c.args.at c.args.sector.now c.store.new.stored
put c =
    is_put c.self.inside.stored c.self.invariant c.args.self.now c.self.view_is c.store.new.stored c.args.at c.args.sector.now
    c.requires.inside
    (is_sector c.args.sector.now c.requires.size c.type_inv.sector) c.store.ensures.here c.store.ensures.others c.store.ensures.length

pub invariant_of-self : goal.invariant_of-self
invariant_of-self c = (put c).whole

pub returns-clause-here : goal.returns-clause-here
returns-clause-here c = (put c).here

pub returns-clause-others : goal.returns-clause-others
returns-clause-others c = (put c).others

pub returns-clause-length : goal.returns-clause-length
returns-clause-length c = (put c).length

pub returns-clause-fits : goal.returns-clause-fits
returns-clause-fits c = (put c).fits
