use Rattle.layout.proofs.Names.{refl, sym, false≢true, extent_at}
use Rattle.std.proofs.Common.{◌∙◌}
use Rattle.layout.proofs.Extents.{apart_more, not_apart}
use Rattle.layout.proofs.extent.are_apart.Goals as goal

pub returns-then-not-is_apart_from_all : goal.returns-then-not-is_apart_from_all
returns-then-not-is_apart_from_all c = (
  (λ t. absurd (false≢true t)),
  (λ apart. absurd (not_apart c.args.extents.now c.loop-i.i (extent_at c.args.extents.now c.loop-i.i) refl
      (λ all. false≢true (sym c.if-not-is_apart_from_all.true ∙ c.is_apart_from_all.ensures.1 all)) apart)),
)

pub loop-i-preserved : goal.loop-i-preserved
loop-i-preserved c =
    apart_more c.args.extents.now c.loop-i.i (extent_at c.args.extents.now c.loop-i.i) refl c.loop-i.invariant
    (c.is_apart_from_all.ensures.0 c.if-not-is_apart_from_all.false)
