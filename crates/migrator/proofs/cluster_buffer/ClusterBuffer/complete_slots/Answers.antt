use Rattle.migrator.proofs.Names.{ℕ, Option, ap, subst, inl, inr, arith, cases_lt, counted_ok, IsComplete, Keeps, KeepsOne, Unwritten}
use Rattle.std.proofs.Common.{◌≡◌, ◌∙◌}
use Rattle.migrator.proofs.CompleteSlots.{keeps_more, keeps_written, unwritten_inside}
use Rattle.migrator.proofs.CompleteSlots.{complete_stays}
use Rattle.migrator.proofs.cluster_buffer.ClusterBuffer.complete_slots.Goals as goal

pub write-requires : goal.write-requires
write-requires g c = record {
  inside = λ u is. let inside = unwritten_inside c.args.generation c.requires.plan c.requires.directory
      c.requires.unwritten is in omega (arith, inside, c.requires.inside);
}

pub returns-in_err-write-clause-keeps : goal.returns-in_err-write-clause-keeps
returns-in_err-write-clause-keeps g c =
    keeps_written (g.met.D.Device.only_now c.args.device.now) c.requires.directory c.requires.unwritten c.write.ensures.seen
    c.write.ensures.touches
    (λ none. ap g.D.Device.disk (c.write.ensures.nothing none)) (inr c.in_err-write.ensures.kept)

pub loop-index-init : goal.loop-index-init
loop-index-init g c =
    let keeps = keeps_written (g.met.D.Device.only_now c.args.device.now) c.requires.directory c.requires.unwritten c.write.ensures.seen
    c.write.ensures.touches
    (λ none. ap g.D.Device.disk (c.write.ensures.nothing none)) (inl c.in_ok-write.ensures.written) in (
      c.in_ok-write.ensures.written,
      subst (λ (o : Option Unwritten). Keeps c.args.plan.now c.args.generation c.args.entries.now (g.D.Device.disk c.args.device.now)
          c.args.self.now
          (g.D.Device.disk c.write.new.device) o) c.in_ok-write.ensures.written keeps,
      (λ i lt. absurd (omega (arith, lt))),
      counted_ok c.in_ok-write.ensures.cause,
    )

pub returns-in_err-complete_one-clause-keeps : goal.returns-in_err-complete_one-clause-keeps
returns-in_err-complete_one-clause-keeps g c =
    keeps_more c.requires.plan c.requires.directory c.loop-index-test.true c.loop-index.invariant.1 c.complete_one.ensures.keeps

pub loop-index-preserved : goal.loop-index-preserved
loop-index-preserved g c =
    let none = c.in_ok-complete_one.ensures.none in
    let one = subst (λ (o : Option Unwritten). KeepsOne c.args.plan.now c.args.generation c.args.entries.now c.loop-index.index
    (g.D.Device.disk c.loop-index.device) (g.D.Device.disk c.complete_one.new.device) o) none c.complete_one.ensures.keeps in (
      none,
      keeps_more c.requires.plan c.requires.directory c.loop-index-test.true c.loop-index.invariant.1 one,
      (λ i lt. elim (cases_lt i c.loop-index.index) [
        | inl less ↦ complete_stays c.args.generation c.loop-index.index c.requires.plan c.requires.directory c.loop-index-test.true
            one.elsewhere one.own less
            (c.loop-index.invariant.2 i less)
        | inr le ↦ let same : c.loop-index.index ≡ i = omega (arith, lt, le) in subst
            (λ (k : ℕ). IsComplete (g.D.Device.disk c.complete_one.new.device).seen c.args.plan.now c.args.generation c.args.entries.now k)
            same
            c.in_ok-complete_one.ensures.complete
      ]),
      counted_ok c.in_ok-complete_one.ensures.cause ∙ c.loop-index.invariant.3,
    )

pub returns-clause-complete : goal.returns-clause-complete
returns-clause-complete g c =
    λ i lt. c.loop-index.invariant.2 i (omega (arith, lt, c.loop-index-test.false))
