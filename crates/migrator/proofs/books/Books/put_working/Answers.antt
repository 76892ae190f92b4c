use Rattle.migrator.proofs.PutFrames.{working_puts}
use Rattle.migrator.proofs.books.Books.put_working.Goals as goal

pub returns : goal.returns
returns g c =
    let is = c.put_frame.ensures in
    let generation = c.working_generation-generation.ensures in
    working_puts c.requires.stands c.requires.object c.requires.room (rw generation at is.writes) is.cause
    c.requires.keepable is.whole is.torn (rw generation at is.written) (rw generation at is.summed)
