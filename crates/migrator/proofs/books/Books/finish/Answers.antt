use Rattle.migrator.proofs.Moving.{finished_stored, may_finish}
use Rattle.migrator.proofs.Publishing.{publishes_as}
use Rattle.migrator.proofs.books.Books.finish.Goals as goal

pub adopt-requires : goal.adopt-requires
adopt-requires g c = rw c.clear.ensures (may_finish c.requires)

pub returns : goal.returns
returns g c = publishes_as (finished_stored c.requires) (rw c.clear.ensures at c.adopt.ensures.publishes)
