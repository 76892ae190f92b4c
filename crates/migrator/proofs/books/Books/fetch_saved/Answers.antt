use Rattle.migrator.proofs.Names.{IfOk-weaker}
use Rattle.std.proofs.Common.{◌∙◌}
use Rattle.migrator.proofs.Completing.{read_raw, spelt_raw}
use Rattle.migrator.proofs.books.Books.fetch_saved.Goals as goal

pub read_again-requires-clause-spelt : goal.read_again-requires-clause-spelt
read_again-requires-clause-spelt g c = rw c.as_slice-named.ensures (spelt_raw c.requires.stands c.requires.object)

pub returns-clause-found : goal.returns-clause-found
returns-clause-found g c =
    IfOk-weaker c.read_again.result _ _ (λ read e. e ∙ read_raw c.requires.stands c.requires.object)
    (rw c.as_slice-named.ensures at c.read_again.ensures.found)
