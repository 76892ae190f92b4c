use Rattle.object_cache.proofs.Names.{ap, slice_index_or, take, without}
use Rattle.std.proofs.Common.{◌∙◌, ◌∷◌}
use Rattle.object_cache.proofs.Exits.{all_keepable, moves_err, moves_more, moves_on, no_ok}
use Rattle.object_cache.proofs.Fetched.{same_front, used_more}
use Rattle.object_cache.proofs.store.Store.read_all_in.Goals as goal

pub loop-number-init : goal.loop-number-init
loop-number-init g c =
    let s = c.args.self.now in
    let ok = c.in_ok-empty_staging.ensures in (
      moves_more ok.moves,
      ok.empty,
      same_front s.capacity s.order c.empty_staging.new.self.order (ap (λ t. t.order) ok.moves.rest) c.requires.bounded,
    )

pub returns-in_err-empty_staging : goal.returns-in_err-empty_staging
returns-in_err-empty_staging g c =
    let r = c.from_residual.result in
    let failed = c.from_residual.ensures.1 in
    record { order = no_ok r _ _ failed; moves = moves_err r _ failed (moves_more c.in_err-empty_staging.ensures.moves) }

pub returns-in_err-fetch_one : goal.returns-in_err-fetch_one
returns-in_err-fetch_one g c =
    let r = c.from_residual-in_err-fetch_one.result in
    let failed = c.from_residual-in_err-fetch_one.ensures.1 in
    record {
      order = no_ok r _ _ failed;
      moves = moves_err r _ failed (moves_on g.met.D.Device.counts_now c.loop-number.invariant.0 c.in_err-fetch_one.ensures.moves);
    }

pub loop-number-preserved : goal.loop-number-preserved
loop-number-preserved g c =
    let t = c.loop-number.self in
    let n = slice_index_or c.args.fetched.now c.loop-number.number-index 0 in
    let before = c.loop-number.invariant in
    let ok = c.in_ok-fetch_one.ensures in (
      moves_on g.met.D.Device.counts_now before.0 ok.moves,
      c.fetch_one.ensures.empty,
      used_more c.args.self.now.capacity c.loop-number.number-index c.args.fetched.now c.args.self.now.order t.order
          c.fetch_one.new.self.order
          c.loop-number-test.true before.2 (ok.order ∙ ap (λ m. take m (n ∷ without n t.order)) before.0.continues.capacity),
    )

pub fetch_one-requires-clause-empty : goal.fetch_one-requires-clause-empty
fetch_one-requires-clause-empty g c = c.loop-number.invariant.1

pub fetch_one-requires-clause-keepable : goal.fetch_one-requires-clause-keepable
fetch_one-requires-clause-keepable g c = all_keepable c.loop-number.invariant.0.continues c.loop-number.invariant.0.rest c.requires.keepable

pub returns-clause-moves : goal.returns-clause-moves
returns-clause-moves g c = c.loop-number.invariant.0
