use Rattle.space_bank.proofs.Names.{ℕ, true, false, List, length, refl, sym, ap, arith, is_free, content_at, chain_banks, objects_in}
use Rattle.std.proofs.Common.{◌≡◌, ◌∙◌, ◌<◌, slice_index}
use Rattle.space_bank.proofs.Tallies.{raised_of}
use Rattle.space_bank.proofs.Missing.{owner_of_used, raise_fits, used_first, used_free, used_raised, used_whole}
use Rattle.space_bank.proofs.Plans.{inside_read, past_read}
use Rattle.space_bank.proofs.counting.add_usages.Goals as goal
use Rattle.space_bank.proofs.counting.add_usages.Goals.{then-not-is_free, else-not-is_free}

pub loop-number-init : goal.loop-number-init
loop-number-init g c =
    record {
      size = refl;
      each = λ b bank. c.requires.none b ∙ sym (used_first (objects_in (g.F.Frames.parts c.args.store.now)) c.requires.tree b);
    }

pub shift-requires : goal.shift-requires
shift-requires g c =
    let os = objects_in (g.F.Frames.parts c.args.store.now) in
    let used : is_free (content_at os c.loop-number.number) ≡ false = sym c.is_free.ensures ∙ c.if-not-is_free.true in
    let bank = owner_of_used os c.requires.tree c.loop-number.number c.owner.result used c.owner.ensures in
    record {
      tree = c.requires.tree;
      bank = bank;
      each = λ b is. omega (arith, c.requires.each b is, c.loop-number.invariant.size);
      fits = λ b member. record {
        few = raise_fits os b c.loop-number.number c.count-number-end.result (slice_index c.loop-number.usages b)
            (c.loop-number.invariant.each b (chain_banks os c.requires.tree c.owner.result b bank member)) c.loop-number-test.true
            c.count-number-end.type_inv;
        enough = omega arith;
      };
    }

pub loop-number-preserved : goal.loop-number-preserved
loop-number-preserved g c =
    let p = g.F.Frames.parts c.args.store.now in
    let os = objects_in p in
    let n = c.loop-number.number in
    let inside : n < length os = inside_read p c.table.result.now c.count-number-end.result n c.table.ensures c.count-number-end.ensures
    c.loop-number-test.true
    in
    elim c.if-not-is_free.branch [
      | then-not-is_free w ↦
          let used : is_free (content_at os n) ≡ false = sym c.is_free.ensures ∙ w.if-not-is_free.true in
          record {
            size = ap length w.usages-is ∙ w.shift.ensures.size ∙ c.loop-number.invariant.size;
            each = λ b bank.
                ap (λ (us : List ℕ). slice_index us b) w.usages-is
                ∙ used_raised os c.requires.tree b n w.owner.result c.loop-number.usages w.shift.new.usages bank inside
                c.loop-number.auto.number used
                w.owner.ensures (raised_of w.shift.ensures) (c.loop-number.invariant.each b bank);
          }
      | else-not-is_free w ↦
          let none : is_free (content_at os n) ≡ true = sym c.is_free.ensures ∙ w.if-not-is_free.false in
          record {
            size = ap length w.usages-is ∙ c.loop-number.invariant.size;
            each = λ b bank.
                ap (λ (us : List ℕ). slice_index us b) w.usages-is ∙ c.loop-number.invariant.each b bank
                ∙ sym (used_free os b n inside none);
          }
    ]

pub returns-clause-counted : goal.returns-clause-counted
returns-clause-counted g c = λ b bank.
    let p = g.F.Frames.parts c.args.store.now in
    c.loop-number.invariant.each b bank ∙ sym (used_whole (objects_in p) b c.loop-number.number
    (past_read p c.table.result.now c.count-number-end.result c.loop-number.number c.table.ensures c.count-number-end.ensures
    c.loop-number-test.false))
