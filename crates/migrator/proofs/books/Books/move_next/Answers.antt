use Rattle.migrator.proofs.Moving.{copied_durable, copied_moved, moved_on, passed_durable, uncopied_durable, uncopied_moved}
use Rattle.migrator.proofs.Publishing.{on_err}
use Rattle.migrator.proofs.books.Books.move_next.Goals as goal

pub returns-then-not-is_first-clause-stands : goal.returns-then-not-is_first-clause-stands
returns-then-not-is_first-clause-stands g c =
    let follows = rw c.as_slice-entries.ensures at (c.is_first.ensures.no c.if-not-is_first.true) in
    passed_durable (g.D.Device.disk c.args.device.now) c.requires.stands c.requires.some follows.0 follows.1

pub returns-then-not-is_first-clause-moved : goal.returns-then-not-is_first-clause-moved
returns-then-not-is_first-clause-moved g c = moved_on (g.met.D.Device.only_now c.args.device.now)

pub copy_home-requires-clause-directory : goal.copy_home-requires-clause-directory
copy_home-requires-clause-directory g c = rw c.as_slice-entries.ensures c.requires.stands.kept.directory

pub returns-in_err-copy_home-clause-stands : goal.returns-in_err-copy_home-clause-stands
returns-in_err-copy_home-clause-stands g c =
    uncopied_durable (g.D.Device.disk c.copy_home.new.device) c.requires.stands c.requires.some
    (rw c.as_slice-entries.ensures at (c.is_first.ensures.yes c.if-not-is_first.false))
    (rw c.as_slice-entries.ensures at c.copy_home.ensures.touches)

pub returns-in_err-copy_home-clause-unmoved : goal.returns-in_err-copy_home-clause-unmoved
returns-in_err-copy_home-clause-unmoved g c =
    on_err c.from_residual.result (uncopied_moved (g.D.Device.disk c.copy_home.new.device) c.requires.stands c.requires.some
    (rw c.as_slice-entries.ensures at (c.is_first.ensures.yes c.if-not-is_first.false))
    (rw c.as_slice-entries.ensures at c.copy_home.ensures.touches))

pub returns-clause-stands : goal.returns-clause-stands
returns-clause-stands g c =
    copied_durable (g.D.Device.disk c.copy_home.new.device) c.requires.stands c.requires.some
    (rw c.as_slice-entries.ensures at (c.is_first.ensures.yes c.if-not-is_first.false))
    (rw c.as_slice-entries.ensures at c.copy_home.ensures.touches)
    (rw c.as_slice-entries.ensures at c.in_ok-copy_home.ensures.copied)

pub returns-clause-moved : goal.returns-clause-moved
returns-clause-moved g c =
    copied_moved (g.D.Device.disk c.copy_home.new.device) c.requires.stands c.requires.some
    (rw c.as_slice-entries.ensures at (c.is_first.ensures.yes c.if-not-is_first.false))
    (rw c.as_slice-entries.ensures at c.copy_home.ensures.touches)
