use Rattle.migrator.proofs.Names.{arith, sym}
use Rattle.std.proofs.Common.{◌∙◌}
use Rattle.migrator.proofs.PlacesApart.{frame_slot_fits}
use Rattle.migrator.proofs.SealedUnits.{at_most_nine, sector_home, sector_slot}
use Rattle.migrator.proofs.units.frame_sector.Goals as goal

pub slot_sector-requires : goal.slot_sector-requires
slot_sector-requires c = record {
  slot = rw c.new-log.ensures (frame_slot_fits c.args.plan.now c.args.number c.requires.directory
      (sym c.find_frame_slot.ensures ∙ c.in-Some.is));
}

pub returns-in-Some-clause-value : goal.returns-in-Some-clause-value
returns-in-Some-clause-value c =
    sector_slot c.args.plan.now c.args.generation c.args.directory.now c.args.number (sym c.find_frame_slot.ensures ∙ c.in-Some.is)
    (rw c.new-log.ensures at c.slot_sector.ensures.value)

pub returns-in-Some-clause-inside : goal.returns-in-Some-clause-inside
returns-in-Some-clause-inside c =
    let lies = rw c.new-log.ensures at c.slot_sector.ensures.inside in
    omega (arith, lies, at_most_nine c.args.plan.now c.args.number)

pub returns-in-None-clause-value : goal.returns-in-None-clause-value
returns-in-None-clause-value c =
    sector_home c.args.plan.now c.args.generation c.args.directory.now c.args.number (sym c.find_frame_slot.ensures ∙ c.in-None.is)
    (rw c.new-home.ensures at c.place.ensures.value)
