use Rattle.migrator.proofs.Names.{counted_ok, counts_on}
use Rattle.std.proofs.Common.{◌∙◌}
use Rattle.migrator.proofs.Publishing.{adopted_publishes, left_publishes, commits_one, either_before, either_run, may_be_committed, only_both, only_directory}
use Rattle.migrator.proofs.Publishing.{opening_inside, precedes_next, saved_next, touched_by}
use Rattle.migrator.proofs.books.Books.adopt.Goals as goal

pub returns-in_err-directory-clause-publishes : goal.returns-in_err-directory-clause-publishes
returns-in_err-directory-clause-publishes g c =
    let may = c.requires in
    let touched = touched_by (rw (c.new-log.ensures, c.as_slice.ensures, may.kept.count) at c.store_directory.ensures.touches) in
    left_publishes may touched.size (only_directory may touched) (either_before may touched) c.from_residual.ensures.0
    c.in_err-directory.ensures.cause

pub commit-requires-clause-fits : goal.commit-requires-clause-fits
commit-requires-clause-fits g c =
    let touched = touched_by (rw (c.new-log.ensures, c.as_slice.ensures, c.requires.kept.count) at c.store_directory.ensures.touches) in
    let sums = rw (c.new-log.ensures, c.as_slice.ensures) at c.in_ok-directory.ensures.sums in
    rw (c.new-log.ensures, sums) (may_be_committed c.requires touched)

pub commit-requires-clause-inside : goal.commit-requires-clause-inside
commit-requires-clause-inside g c =
    let touched = touched_by (rw (c.new-log.ensures, c.as_slice.ensures, c.requires.kept.count) at c.store_directory.ensures.touches) in
    rw c.new-log.ensures (opening_inside c.requires touched)

pub commit-requires-clause-one : goal.commit-requires-clause-one
commit-requires-clause-one g c =
    let touched = touched_by (rw (c.new-log.ensures, c.as_slice.ensures, c.requires.kept.count) at c.store_directory.ensures.touches) in
    rw c.new-log.ensures (commits_one c.requires touched (g.met.D.Device.seen_left c.store_directory.new.device))

pub commit-requires-clause-next : goal.commit-requires-clause-next
commit-requires-clause-next g c =
    let touched = touched_by (rw (c.new-log.ensures, c.as_slice.ensures, c.requires.kept.count) at c.store_directory.ensures.touches) in
    rw c.new-log.ensures (precedes_next c.requires touched (g.met.D.Device.seen_left c.store_directory.new.device))

pub returns-in_err-commit-clause-publishes : goal.returns-in_err-commit-clause-publishes
returns-in_err-commit-clause-publishes g c =
    let may = c.requires in
    let left = g.met.D.Device.seen_left c.store_directory.new.device in
    let touched = touched_by (rw (c.new-log.ensures, c.as_slice.ensures, may.kept.count) at c.store_directory.ensures.touches) in
    let written = rw (c.new-log.ensures, c.as_slice.ensures) at c.in_ok-directory.ensures.written in
    let sums = rw (c.new-log.ensures, c.as_slice.ensures) at c.in_ok-directory.ensures.sums in
    let elsewhere = rw c.new-log.ensures at c.commit.ensures.elsewhere in
    let run = rw (c.new-log.ensures, sums) at c.commit.ensures.any_moment in
    left_publishes may (c.commit.ensures.size ∙ touched.size) (only_both may touched (g.D.Device.disk c.commit.new.device) elsewhere)
    (either_run may touched left written run)
    c.from_residual-in_err-commit.ensures.0 (counts_on (counted_ok c.in_ok-directory.ensures.cause) c.in_err-commit.ensures.cause)

pub returns-clause-publishes : goal.returns-clause-publishes
returns-clause-publishes g c =
    let may = c.requires in
    let left = g.met.D.Device.seen_left c.store_directory.new.device in
    let touched = touched_by (rw (c.new-log.ensures, c.as_slice.ensures, may.kept.count) at c.store_directory.ensures.touches) in
    let written = rw (c.new-log.ensures, c.as_slice.ensures) at c.in_ok-directory.ensures.written in
    let sums = rw (c.new-log.ensures, c.as_slice.ensures) at c.in_ok-directory.ensures.sums in
    let elsewhere = rw c.new-log.ensures at c.commit.ensures.elsewhere in
    let run = rw (c.new-log.ensures, sums) at c.commit.ensures.any_moment in
    let committed = rw (c.new-log.ensures, sums) at c.in_ok-commit.ensures.committed in
    rw (c.swap.ensures.x_after, c.clear.ensures)
    (adopted_publishes may (c.commit.ensures.size ∙ touched.size)
    (only_both may touched (g.D.Device.disk c.commit.new.device) elsewhere)
    (either_run may touched left written run)
    (saved_next may touched left written (g.D.Device.disk c.commit.new.device) c.commit.ensures.size c.in_ok-commit.ensures.durable
    committed) (counted_ok c.in_ok-commit.ensures.cause ∙ counted_ok c.in_ok-directory.ensures.cause))
