use Rattle.migrator.proofs.Names.{refl, counted_ok}
use Rattle.std.proofs.Common.{◌∙◌}
use Rattle.migrator.proofs.Moving.{all_number, left_number, migrates_all, migrates_left, migrates_part}
use Rattle.migrator.proofs.books.Books.migrate.Goals as goal

pub returns-in_err-move_some-clause-migrates : goal.returns-in_err-move_some-clause-migrates
returns-in_err-move_some-clause-migrates g c = migrates_part c.move_some.ensures.stands c.requires.sound
    c.in_err-move_some.ensures.unmoved.2 c.from_residual.ensures.0 c.in_err-move_some.ensures.cause

pub returns-in_err-finish-clause-migrates : goal.returns-in_err-finish-clause-migrates
returns-in_err-finish-clause-migrates g c = migrates_all c.requires.stands.kept.few c.share-some.ensures.lesser
    c.in_ok-move_some.ensures.moved
    (c.is_to_finish.ensures.yes c.if-is_to_finish.true).1 c.requires.sound
    (counted_ok c.in_ok-move_some.ensures.cause) c.in_err-finish.ensures c.from_residual-in_err-finish.ensures.0

pub returns-then-is_to_finish-clause-left : goal.returns-then-is_to_finish-clause-left
returns-then-is_to_finish-clause-left g c =
    all_number c.requires.stands.kept.few c.share-some.ensures.lesser c.in_ok-move_some.ensures.moved
    (c.is_to_finish.ensures.yes c.if-is_to_finish.true).1

pub returns-then-is_to_finish-clause-migrates : goal.returns-then-is_to_finish-clause-migrates
returns-then-is_to_finish-clause-migrates g c = migrates_all c.requires.stands.kept.few c.share-some.ensures.lesser
    c.in_ok-move_some.ensures.moved
    (c.is_to_finish.ensures.yes c.if-is_to_finish.true).1 c.requires.sound (counted_ok c.in_ok-move_some.ensures.cause)
    c.in_ok-finish.ensures refl

pub returns-clause-left : goal.returns-clause-left
returns-clause-left g c = c.share-some.ensures.left
    ∙ left_number c.requires.stands.kept.few c.share-some.ensures.lesser c.in_ok-move_some.ensures.moved

pub returns-clause-migrates : goal.returns-clause-migrates
returns-clause-migrates g c =
    migrates_left c.requires.stands.kept.few c.share-some.ensures.lesser c.in_ok-move_some.ensures.moved c.move_some.ensures.stands
    c.requires.sound
    (c.is_to_finish.ensures.no c.if-is_to_finish.false) (counted_ok c.in_ok-move_some.ensures.cause)
