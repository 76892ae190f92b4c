use Rattle.migrator.proofs.PutFrames.{frozen_puts, frozen_room}
use Rattle.migrator.proofs.books.Books.put_written.Goals as goal

pub put_frame-requires-clause-room : goal.put_frame-requires-clause-room
put_frame-requires-clause-room g c =
    let may = c.requires.may.1 in
    frozen_room may.stands may.running may.object may.room

pub returns : goal.returns
returns g c =
    let is = c.put_frame.ensures in
    frozen_puts c.requires.may.1 c.requires.written is.writes is.cause is.whole is.torn is.written is.summed
