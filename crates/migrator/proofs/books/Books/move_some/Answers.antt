use Rattle.migrator.proofs.Names.{ℕ, refl, subst, arith, rules, counted_ok, counts_on, MovedBy}
use Rattle.std.proofs.Common.{◌≡◌, ◌<◌, ◌+◌, ◌∙◌}
use Rattle.migrator.proofs.Moving.{moved_more, moved_none, next_low}
use Rattle.migrator.proofs.Publishing.{err_counts, ok_counts, on_err}
use Rattle.migrator.proofs.books.Books.move_some.Goals as goal

pub loop-init : goal.loop-init
loop-init g c = (
  c.requires.stands,
  moved_none (g.met.D.Device.only_now c.args.device.now) (omega (arith, c.requires.some)),
  refl,
  λ none. (refl, refl),
)

pub move_next-requires-clause-some : goal.move_next-requires-clause-some
move_next-requires-clause-some g c =
    let lt : c.loop.counter < c.args.count = search rules in
    next_low c.loop.invariant.1 c.requires.some lt

pub loop-preserved : goal.loop-preserved
loop-preserved g c = (
  c.move_next.ensures.stands,
  moved_more c.loop.invariant.1 c.in_ok-move_next.ensures.moved,
  counted_ok c.in_ok-move_next.ensures.cause ∙ c.loop.invariant.2,
  λ none. absurd (omega (arith, none)),
)

pub returns-in_err-move_next : goal.returns-in_err-move_next
returns-in_err-move_next g c =
    let lt : c.loop.counter < c.args.count = search rules in
    record {
      stands = c.move_next.ensures.stands;
      moved = search rules;
      unmoved = on_err c.from_residual.result (
        c.loop.counter + 0,
        omega (arith, lt),
        moved_more c.loop.invariant.1 c.in_err-move_next.ensures.unmoved,
      );
      none = λ none. absurd (omega (arith, none, lt));
      cause = err_counts c.from_residual.ensures.0 (counts_on c.loop.invariant.2 c.in_err-move_next.ensures.cause);
    }

pub returns : goal.returns
returns g c =
    let done : c.loop.counter ≡ c.args.count = search rules in
    record {
      stands = c.loop.invariant.0;
      moved = subst (λ (n : ℕ). MovedBy (g.D.Device.disk c.args.device.now) (g.D.Device.disk c.loop.device) c.args.self.now c.loop.self n)
          done
          c.loop.invariant.1;
      unmoved = tt;
      none = λ none. c.loop.invariant.3 (done ∙ none);
      cause = ok_counts c.loop.invariant.2;
    }
