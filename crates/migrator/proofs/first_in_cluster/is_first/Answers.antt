use Rattle.std.proofs.Common.{◌∙◌, sym}
use Rattle.migrator.proofs.PlacesApart.{first_of, not_same}
use Rattle.migrator.proofs.first_in_cluster.is_first.Goals as goal

pub returns-clause-yes : goal.returns-clause-yes
returns-clause-yes c tested =
    let there = rw c.new-home.ensures at c.place.ensures.value in
    let before = rw c.new-home.ensures at c.place-2.ensures.value in
    first_of (rw c.new-home.ensures at c.place.ensures.plan) c.requires.directory c.requires.within
    (λ some same. not_same tested (there ∙ same ∙ sym before))
