use Rattle.migrator.proofs.Names.{refl, sym, arith}
use Rattle.migrator.proofs.Opening.{found_at, none_at}
use Rattle.migrator.proofs.find.find.Goals as goal
use Rattle.migrator.proofs.find.find.Goals.{else-at-entries-via-then-at-entries+else-entries-at, else-at-entries-via-else-at-entries}

pub returns-then-entries-at : goal.returns-then-entries-at
returns-then-entries-at c = sym (found_at c.args.entries.now c.requires c.if-at-entries.true refl c.if-entries-at.true)

pub returns-else-at-entries : goal.returns-else-at-entries
returns-else-at-entries c =
    sym (none_at c.args.entries.now c.first_from-at.ensures.below c.first_from-at.ensures.from c.requires
    (λ lt same. elim c.else-at-entries.branch [
      | else-at-entries-via-then-at-entries+else-entries-at w ↦ w.if-entries-at.false same
      | else-at-entries-via-else-at-entries w ↦ omega (arith, lt, w.if-at-entries.false)
    ]))
