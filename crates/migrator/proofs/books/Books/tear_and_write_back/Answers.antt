use Rattle.std.proofs.Common.{ap}
use Rattle.migrator.proofs.CompleteSlots.{either_of}
use Rattle.migrator.proofs.PutFrames.{torn_stores, unwritten_low}
use Rattle.migrator.proofs.books.Books.tear_and_write_back.Goals as goal

pub write-requires : goal.write-requires
write-requires g c = record { inside = unwritten_low c.requires.stands }

pub returns-clause-torn : goal.returns-clause-torn
returns-clause-torn g c =
    rw (c.set.ensures, c.slot_for-slot.ensures) (torn_stores c.requires.stands c.requires.room.1 c.requires.object c.requires.room.2
    c.write.ensures.seen c.write.ensures.touches (λ none. ap g.D.Device.disk (c.write.ensures.nothing none))
    (either_of c.write.result c.write.ensures.written c.write.ensures.kept) (g.met.D.Device.only_now c.args.device.now))
