use Rattle.migrator.proofs.Names.{counted_ok}
use Rattle.migrator.proofs.Journaling.{idle_fits, idle_root, may_replace_read, replaced_same}
use Rattle.migrator.proofs.Opening.{read_stays}
use Rattle.migrator.proofs.Publishing.{publishes_after, publishes_none}
use Rattle.migrator.proofs.books.Books.save_first.Goals as goal

pub next_root-requires-clause-directory : goal.next_root-requires-clause-directory
next_root-requires-clause-directory g c = rw (c.as_slice.ensures, c.put_one.ensures) (idle_fits c.requires)

pub next_root-requires-clause-root : goal.next_root-requires-clause-root
next_root-requires-clause-root g c = idle_root c.requires c.replaced_header-header.result.generation

pub returns-in_err-root : goal.returns-in_err-root
returns-in_err-root g c =
    publishes_none (read_stays c.next_root.ensures.reads c.requires.stands) c.requires.sound c.from_residual.ensures.0
    c.in_err-root.ensures.cause

pub adopt-requires : goal.adopt-requires
adopt-requires g c =
    let next = rw (c.replaced_header-header.ensures, c.as_slice.ensures, c.put_one.ensures) at c.in_ok-root.ensures.root in
    rw (c.replaced_header-header.ensures, c.put_one.ensures) (may_replace_read c.requires c.next_root.ensures.reads next)

pub returns : goal.returns
returns g c =
    let next = rw (c.replaced_header-header.ensures, c.as_slice.ensures, c.put_one.ensures) at c.in_ok-root.ensures.root in
    publishes_after (read_stays c.next_root.ensures.reads c.requires.stands) c.requires.sound (counted_ok c.in_ok-root.ensures.cause)
    (replaced_same c.requires c.next_root.ensures.reads next)
    (rw (c.replaced_header-header.ensures, c.put_one.ensures) at c.adopt.ensures.publishes)
