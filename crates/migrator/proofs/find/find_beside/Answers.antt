use Rattle.migrator.proofs.Names.{sym, arith}
use Rattle.std.proofs.Common.{◌∙◌}
use Rattle.migrator.proofs.PlacesApart.{found_there, none_there}
use Rattle.migrator.proofs.find.find_beside.Goals as goal
use Rattle.migrator.proofs.find.find_beside.Goals.{else-at-entries-via-then-at-entries+else-place, else-at-entries-via-else-at-entries}

pub returns-then-place : goal.returns-then-place
returns-then-place c =
    sym (found_there c.args.plan.now c.args.entries.now c.args.number c.first.result c.first_from-at.result
    (rw c.new-home.ensures at c.first.ensures.plan)
    c.requires.directory
    c.requires.object (rw c.new-home.ensures at c.first.ensures.first)
    c.first_from-at.ensures.below c.first_from-at.ensures.from c.if-at-entries.true
    (sym (rw c.new-home.ensures at c.place.ensures.value) ∙ c.if-place.true
    ∙ rw c.new-home.ensures at c.place-then-at-entries.ensures.value))

pub returns-else-at-entries : goal.returns-else-at-entries
returns-else-at-entries c =
    sym (none_there c.args.plan.now c.args.entries.now c.args.number c.first.result c.first_from-at.result
    (rw c.new-home.ensures at c.first.ensures.plan)
    c.requires.directory
    c.requires.object (rw c.new-home.ensures at c.first.ensures.first)
    c.first_from-at.ensures.below c.first_from-at.ensures.from (λ within same. elim c.else-at-entries.branch [
      | else-at-entries-via-then-at-entries+else-place w ↦ w.if-place.false
          (rw c.new-home.ensures at w.place.ensures.value ∙ same ∙ sym (rw c.new-home.ensures at w.place-then-at-entries.ensures.value))
      | else-at-entries-via-else-at-entries w ↦ omega (arith, within, w.if-at-entries.false)
    ]))
