use Rattle.migrator.proofs.Names.{arith, counted_ok}
use Rattle.migrator.proofs.Journaling.{journaled_is, may_save_first}
use Rattle.migrator.proofs.Publishing.{publishes_after, publishes_none}
use Rattle.migrator.proofs.books.Books.save_page.Goals as goal

pub save_first-requires : goal.save_first-requires
save_first-requires g c = may_save_first c.requires.idle c.put_page.ensures.stays c.requires.may
    (c.in_ok-put_page.ensures.spelt c.args.age (omega (arith, c.requires.may.later))) c.in_ok-put_page.ensures.summed

pub returns-in_err-put_page : goal.returns-in_err-put_page
returns-in_err-put_page g c =
    publishes_none c.put_page.ensures.stays c.requires.idle.sound c.from_residual.ensures.0 c.in_err-put_page.ensures.cause

pub returns : goal.returns
returns g c =
    let spelt = c.in_ok-put_page.ensures.spelt c.args.age (omega (arith, c.requires.may.later)) in
    publishes_after c.put_page.ensures.stays c.requires.idle.sound (counted_ok c.in_ok-put_page.ensures.cause)
    (journaled_is c.requires.idle c.put_page.ensures.stays c.requires.may spelt c.in_ok-put_page.ensures.summed) c.save_first.ensures
