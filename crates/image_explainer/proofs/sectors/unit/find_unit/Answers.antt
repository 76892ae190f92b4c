use Rattle.image_explainer.proofs.Names.{ℕ, Image, nat_le, ap, sym, subst, Geometry, rules, IsTrue, false≢true, reads_more, begins_unit, unit_bytes, IsUnitAt}
use Rattle.image_explainer.proofs.Names.{BreaksUnit}
use Rattle.std.proofs.Common.{◌≡◌, ◌+◌, ◌<◌, ◌∙◌}
use Rattle.image_explainer.proofs.Matching.{below_more}
use Rattle.image_explainer.proofs.Places.{before, still, unless}
use Rattle.image_explainer.proofs.sectors.unit.find_unit.Goals as goal

pub returns-then-not-right-clause-found : goal.returns-then-not-right-clause-found
returns-then-not-right-clause-found g c =
    let p = c.args.plan.now in
    let n = c.loop-number.number in
    let reads = c.loop-number.invariant.1 in
    let P = λ (size : ℕ) (i : Image). IsTrue (begins_unit p n) → IsUnitAt i p c.args.header.header.generation c.args.directory.now n in
    let wrong = unless (begins_unit p n) (IsUnitAt (g.D.Device.disk c.args.device.now).seen p c.args.header.header.generation
    c.args.directory.now n) (λ right. false≢true (sym c.if-not-right.true ∙ c.in_ok-right.ensures.found.1 (still P reads right))) in (
      subst (λ (x : Geometry). n < x.nodes + x.pages) c.geometry-geometry.ensures.value c.loop-number-test.true,
      ap (λ (x : Geometry). nat_le x.nodes n) c.geometry-geometry.ensures.value,
      wrong.0,
      c.loop-number.invariant.0,
      wrong.1,
      before (λ (size : ℕ) (i : Image). BreaksUnit (unit_bytes i p c.args.header.header.generation c.args.directory.now n)
          c.in_ok-part.part)
          (reads_more reads c.is_right.ensures.reads) c.in_ok-part.ensures.found,
    )

pub loop-number-preserved : goal.loop-number-preserved
loop-number-preserved g c =
    let p = c.args.plan.now in
    let n = c.loop-number.number in
    let old = (g.D.Device.disk c.args.device.now).seen in
    let same : (g.D.Device.disk c.is_right.new.device).failures ≡ (g.D.Device.disk c.loop-number.device).failures = search rules in (
      below_more (λ (m : ℕ). IsTrue (begins_unit p m) → IsUnitAt old p c.args.header.header.generation c.args.directory.now m) n
          c.loop-number.invariant.0
          (before (λ (size : ℕ) (i : Image). IsTrue (begins_unit p n) → IsUnitAt i p c.args.header.header.generation c.args.directory.now n)
          c.loop-number.invariant.1 (c.in_ok-right.ensures.found.0 c.if-not-right.false)),
      reads_more c.loop-number.invariant.1 c.is_right.ensures.reads,
      same ∙ c.loop-number.invariant.2,
    )
