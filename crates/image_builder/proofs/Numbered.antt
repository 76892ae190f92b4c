-- Directories whose slots are 0, 1, 2, .. in order.
use Rattle.image_builder.proofs.Names.{ℕ, zero, suc, List, length, get_or, drop, refl, sym, ap, append_assoc, arith, slice_index_or, append-nil, drop_all}
use Rattle.image_builder.proofs.Names.{drop_more, Geometry, Entry, IsDirectory, entry_at, numbered}
use Rattle.std.proofs.Common.{[], ◌≡◌, ◌+◌, ◌<◌, ◌≤◌, ◌∷◌, ◌++◌, ◌∙◌}

abbrev none : Entry
none = record { object = 0; slot = 0 }

cons_numbered : (at : ℕ) (e : Entry) (es : List Entry) → numbered at (e ∷ es)
    ≡ record { object = e.object; slot = at } ∷ numbered (at + 1) es
unfolding numbered
cons_numbered at e es = refl

none_numbered : (at : ℕ) → numbered at [] ≡ []
unfolding numbered
none_numbered at = refl

pub length_numbered : (at : ℕ) (es : List Entry) → length (numbered at es) ≡ length es
unfolding numbered
length_numbered at [] = refl
length_numbered at (e ∷ es) = ap suc (length_numbered (at + 1) es)

-- entry i of a renumbered directory has slot `at` + i
entry_numbered : (at : ℕ) (es : List Entry) (d : Entry) (i : ℕ) → i < length es →
    slice_index_or (numbered at es) i d ≡ record { object = (entry_at es i).object; slot = at + i }
unfolding numbered
entry_numbered at [] d i lt = absurd (omega (arith, lt))
entry_numbered at (e ∷ es) d zero lt = let same : at ≡ at + 0 = omega arith in
    ap (λ (n : ℕ). let x : Entry = record { object = e.object; slot = n } in x) same
entry_numbered at (e ∷ es) d (suc i) lt =
    let same : at + 1 + i ≡ at + suc i = omega arith in
    entry_numbered (at + 1) es d i (omega (arith, lt)) ∙ ap (λ (n : ℕ). let x : Entry =
    record { object = (entry_at es i).object; slot = n } in x) same

pub directory_numbered : (g : Geometry) (es : List Entry) → IsDirectory g es → length es ≤ g.log → g.log ≤ 4096 →
    IsDirectory g (numbered 0 es)
directory_numbered g es is few most = record {
  each = λ i d lt.
      let within : i < length es = omega (arith, lt, length_numbered 0 es) in
      let one = is.each i none within in
      rw (entry_numbered 0 es d i within)
      (record {
        object = one.object;
        slot = omega (arith, within, few);
        object_fits = one.object_fits;
        slot_fits = omega (arith, within, few, most);
      });
  rising = λ i lt.
      let within : i + 1 < length es = omega (arith, lt, length_numbered 0 es) in
      let one = is.rising i within in
      rw (entry_numbered 0 es none i (omega (arith, within)), entry_numbered 0 es none (i + 1) within) one;
  apart = λ i j before lt same.
      let within : j < length es = omega (arith, lt, length_numbered 0 es) in
      let first = ap (λ (e : Entry). e.slot) (entry_numbered 0 es none i (omega (arith, within, before))) in
      let second = ap (λ (e : Entry). e.slot) (entry_numbered 0 es none j within) in
      omega (arith, before, same, first, second);
}

-- ---- renumbering entry after entry

pub numbered_more : (es found : List Entry) (i : ℕ) → i < length es → found ++ numbered i (drop i es) ≡ numbered 0 es
    → (found ++ record { object = (get_or es i none).object; slot = i } ∷ []) ++ numbered (i + 1) (drop (i + 1) es) ≡ numbered 0 es
numbered_more es found i lt so_far =
    let e : Entry = get_or es i none in
    append_assoc found (record { object = e.object; slot = i } ∷ []) (numbered (i + 1) (drop (i + 1) es))
    ∙ ap (λ (xs : List Entry). found ++ xs) (sym (cons_numbered i e (drop (i + 1) es)) ∙ ap (numbered i) (sym (drop_more es i none lt)))
    ∙ so_far

pub all_numbered : (es found : List Entry) (i : ℕ) → length es ≤ i → found ++ numbered i (drop i es) ≡ numbered 0 es → found ≡ numbered 0 es
all_numbered es found i done so_far =
    sym (append-nil found) ∙ ap (λ (xs : List Entry). found ++ xs) (sym (none_numbered i) ∙ ap (numbered i) (sym (drop_all i es done)))
    ∙ so_far
