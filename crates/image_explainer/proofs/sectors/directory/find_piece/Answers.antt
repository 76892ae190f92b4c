use Rattle.image_explainer.proofs.Names.{ℕ, Image, List, Entry, AllFitting, arith, refl, subst, length, rules, have_more, reads_more, entries_bytes, piece}
use Rattle.image_explainer.proofs.Names.{IsSealPart}
use Rattle.std.proofs.Common.{◌≡◌, ◌+◌, ◌∙◌}
use Rattle.image_explainer.proofs.Directories.{none_found, some_found}
use Rattle.image_explainer.proofs.Places.{before}
use Rattle.image_explainer.proofs.sectors.directory.find_piece.Goals as goal

pub returns-then-is_none-clause-found : goal.returns-then-is_none-clause-found
returns-then-is_none-clause-found g c =
    let k = c.loop-k.k in
    let inv = c.loop-k.invariant in (
      k,
      record {
        within = omega (arith, c.loop-k-test.true);
        before = (c.loop-k.into, inv.1, inv.0);
        none = subst (λ (n : ℕ). (es : List Entry) → length es ≡ n → AllFitting es →
            (g.D.Device.disk c.args.device.now).seen (c.args.at + k) ≡ entries_bytes (piece es k) → ⊥) inv.1
            (before (λ (n : ℕ) (i : Image). (es : List Entry) → length es ≡ length c.loop-k.into → AllFitting es →
            i (c.args.at + k) ≡ entries_bytes (piece es k) → ⊥) inv.2
            (none_found c.in_ok-found.found _ c.if-is_none.ensures c.in_ok-found.ensures.none));
      },
      refl,
      before (λ (n : ℕ) (i : Image). IsSealPart (i (c.args.at + k)) c.in_ok-part.part) (reads_more inv.2 c.read_next.ensures.reads)
          c.in_ok-part.ensures.found,
    )

pub loop-k-preserved : goal.loop-k-preserved
loop-k-preserved g c =
    let old = g.D.Device.disk c.args.device.now in
    let mid = g.D.Device.disk c.loop-k.device in
    let inv = c.loop-k.invariant in
    let same : (g.D.Device.disk c.read_next.new.device).failures ≡ mid.failures = search rules in
    let here = some_found c.in_ok-found.found _ c.if-is_none.ensures c.in_ok-found.ensures.some in (
      have_more old.seen mid.seen c.args.at c.loop-k.k c.loop-k.into c.read_next.new.into inv.2.seen
          c.in_ok-found.ensures.front inv.0 here.1.0,
      c.read_next.auto.into ∙ inv.1,
      reads_more inv.2 c.read_next.ensures.reads,
      same ∙ inv.3,
    )

pub unreachable-requires : goal.unreachable-requires
unreachable-requires g c =
    let inv = c.loop-k.invariant in
    c.requires.bad c.loop-k.into inv.1 c.entries_fit.ensures (λ j lt. inv.0 j (omega (arith, lt, inv.1, c.loop-k-test.false)))
