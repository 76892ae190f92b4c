use Rattle.image_explainer.proofs.Names.{ℕ, Image, nat_le, ap, arith, sym, subst, Geometry, IsWholeFrame, frame_in, rules, false≢true, reads_more, BreaksFrame}
use Rattle.std.proofs.Common.{◌≡◌, ◌+◌, ◌<◌, ◌≤◌, ◌∙◌}
use Rattle.image_explainer.proofs.Matching.{below_more}
use Rattle.image_explainer.proofs.Places.{before, still}
use Rattle.image_explainer.proofs.sectors.frame.find_frame.Goals as goal

pub returns-then-not-whole-clause-found : goal.returns-then-not-whole-clause-found
returns-then-not-whole-clause-found g c =
    let p = c.args.plan.now in
    let n = c.loop-number.number in
    let reads = c.loop-number.invariant.1 in
    let P = λ (size : ℕ) (i : Image). IsWholeFrame i p c.args.header c.args.directory.now n in (
      subst (λ (x : Geometry). n < x.nodes + x.pages) c.geometry-geometry.ensures.value c.loop-number-test.true,
      ap (λ (x : Geometry). nat_le x.nodes n) c.geometry-geometry.ensures.value,
      c.loop-number.invariant.0,
      λ whole. false≢true (sym c.if-not-whole.true ∙ c.in_ok-whole.ensures.found.1 (still P reads whole)),
      before (λ (size : ℕ) (i : Image). BreaksFrame p.geometry c.args.header.age n
          (frame_in i p c.args.header.generation c.args.directory.now n) c.in_ok-part.part)
          (reads_more reads c.has_frame.ensures.reads) c.in_ok-part.ensures.found,
    )

pub loop-number-preserved : goal.loop-number-preserved
loop-number-preserved g c =
    let n = c.loop-number.number in
    let old = (g.D.Device.disk c.args.device.now).seen in
    let same : (g.D.Device.disk c.has_frame.new.device).failures ≡ (g.D.Device.disk c.loop-number.device).failures = search rules in (
      below_more (IsWholeFrame old c.args.plan.now c.args.header c.args.directory.now) n c.loop-number.invariant.0
          (before (λ (size : ℕ) (i : Image). IsWholeFrame i c.args.plan.now c.args.header c.args.directory.now n) c.loop-number.invariant.1
          (c.in_ok-whole.ensures.found.0 c.if-not-whole.false)),
      reads_more c.loop-number.invariant.1 c.has_frame.ensures.reads,
      same ∙ c.loop-number.invariant.2,
    )

pub unreachable-requires : goal.unreachable-requires
unreachable-requires g c =
    let bad = c.requires.bad in
    let past = subst (λ (x : Geometry). x.nodes + x.pages ≤ c.loop-number.number) c.geometry-geometry.ensures.value
    c.loop-number-test.false in
    let frame = c.loop-number.invariant.0 bad.0 (omega (arith, bad.1, past)) in
    bad.2 frame.0 frame.1
