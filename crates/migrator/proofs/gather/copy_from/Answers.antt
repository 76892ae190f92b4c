use Rattle.migrator.proofs.Names.{ap, agrees_is, home_place, slot_sector, sector_or, sym, Option, ℕ, Plan}
use Rattle.std.proofs.Common.{◌∙◌, ◌≡◌}
use Rattle.migrator.proofs.Gathering.{one_copied}
use Rattle.migrator.proofs.gather.copy_from.Goals as goal
use Rattle.migrator.proofs.gather.copy_from.Goals.{in-Some, in-None}

pub returns-clause-copied : goal.returns-clause-copied
returns-clause-copied g c =
    let p = c.args.plan.now in
    let old = (g.D.Device.disk c.args.device.now).seen in
    let new = (g.D.Device.disk c.copy_place.new.device).seen in
    let seen = agrees_is new old c.copy_place.ensures.reads.seen in
    let sector : Option ℕ → ℕ = λ o. sector_or o (slot_sector p c.args.generation) (home_place p c.args.number) in
    let place : c.match-slot.at ≡ sector c.args.slot = elim c.match-slot.branch [
      | in-Some w ↦ w.at-is ∙ w.slot_sector-at.ensures.value ∙ ap (λ (q : Plan). slot_sector q c.args.generation w.in-Some.slot)
          c.new-log.ensures ∙ ap sector (sym w.in-Some.is)
      | in-None w ↦ w.at-is ∙ w.place-at.ensures.value ∙ ap (λ (q : Plan). home_place q c.args.number) c.new-home.ensures
          ∙ ap sector (sym w.in-None.is)
    ] in
    one_copied c.copy_place.result old new p c.args.generation c.args.slot c.args.number c.copy_place.new.block c.shape.ensures.value
    seen place c.copy_place.ensures.copied
