use Rattle.migrator.proofs.Names.{counted_ok}
use Rattle.std.proofs.Common.{◌∙◌}
use Rattle.migrator.proofs.Completing.{entry_of, complete_at, frozen_root, keeps_at, root_at}
use Rattle.migrator.proofs.Publishing.{commit_stored, commits_by, may_commit_now, mid_stays, publishes_after, publishes_none}
use Rattle.migrator.proofs.Committing.{frozen_fits}
use Rattle.migrator.proofs.books.Books.commit.Goals as goal

pub complete-requires-clause-directory : goal.complete-requires-clause-directory
complete-requires-clause-directory g c =
    rw (c.as_slice.ensures, c.fill.ensures) (frozen_fits c.requires.1.stands.kept)

pub complete-requires-clause-unwritten : goal.complete-requires-clause-unwritten
complete-requires-clause-unwritten g c =
    rw (c.next_header-header.ensures, c.as_slice.ensures, c.fill.ensures) (entry_of c.args.self.now c.args.self.now.unwritten
    c.requires.1.stands.unwritten)

pub complete-requires-clause-root : goal.complete-requires-clause-root
complete-requires-clause-root g c = frozen_root c.requires.1.stands.kept c.requires.1.running c.next_header-header.result.generation

pub returns-in_err-root : goal.returns-in_err-root
returns-in_err-root g c =
    let keeps = keeps_at c.args.self.now c.next_header-header.ensures (c.as_slice.ensures ∙ c.fill.ensures) c.complete.ensures.keeps in
    commits_by c.requires.1 (publishes_none (mid_stays c.requires.1 keeps) c.requires.1.sound c.from_residual.ensures.0
    c.in_err-root.ensures.cause)

pub adopt-requires : goal.adopt-requires
adopt-requires g c =
    let mid = (g.D.Device.disk c.complete.new.device).seen in
    let entries = c.as_slice.ensures ∙ c.fill.ensures in
    let keeps = keeps_at c.args.self.now c.next_header-header.ensures entries c.complete.ensures.keeps in
    let complete = complete_at c.args.self.now mid c.next_header-header.ensures entries c.in_ok-root.ensures.complete in
    let next = root_at c.args.self.now mid c.next_header-header.ensures entries c.in_ok-root.ensures.root in
    rw (c.next_header-header.ensures, c.fill.ensures) (may_commit_now c.requires.1 keeps c.in_ok-root.ensures.none complete next)

pub returns : goal.returns
returns g c =
    let mid = (g.D.Device.disk c.complete.new.device).seen in
    let entries = c.as_slice.ensures ∙ c.fill.ensures in
    let keeps = keeps_at c.args.self.now c.next_header-header.ensures entries c.complete.ensures.keeps in
    let complete = complete_at c.args.self.now mid c.next_header-header.ensures entries c.in_ok-root.ensures.complete in
    let next = root_at c.args.self.now mid c.next_header-header.ensures entries c.in_ok-root.ensures.root in
    commits_by c.requires.1 (publishes_after (mid_stays c.requires.1 keeps) c.requires.1.sound (counted_ok c.in_ok-root.ensures.cause)
    (commit_stored c.requires.1 keeps c.in_ok-root.ensures.none complete next)
    (rw (c.next_header-header.ensures, c.fill.ensures) at c.adopt.ensures.publishes))
