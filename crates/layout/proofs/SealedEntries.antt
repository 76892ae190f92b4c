-- Entries of a directory as numbers.
use Rattle.layout.proofs.Names.{ℕ, List, [], length, get_or, take, set, ap, sym, refl, arith, length-set, take_all, take_more, take_more_set, All-cons}
use Rattle.layout.proofs.Names.{All-head, All-nil, All-tail, AllFitting, Entry, entry_numbers, AreWords}
use Rattle.std.proofs.Common.{◌≡◌, ◌+◌, ◌*◌, ◌^◌, ◌<◌, ◌≤◌, ◌∷◌, ◌++◌, ◌∙◌}

abbrev pub entry_of : ℕ → ℕ → Entry
entry_of object slot = record { object = object; slot = slot }

numbers_push : (es : List Entry) (e : Entry) → entry_numbers (es ++ e ∷ []) ≡ (entry_numbers es ++ e.object ∷ []) ++ e.slot ∷ []
numbers_push [] e = refl
numbers_push (x ∷ es) e = ap (λ (ns : List ℕ). x.object ∷ x.slot ∷ ns) (numbers_push es e)

pub length_numbers : (es : List Entry) → length (entry_numbers es) ≡ 2 * length es
length_numbers [] = refl
length_numbers (e ∷ es) = omega (arith, length_numbers es)

pub numbers_fit : (es : List Entry) → AllFitting es → AreWords (entry_numbers es)
numbers_fit [] fit = All-nil (λ (n : ℕ). n < 2 ^ 64)
numbers_fit (e ∷ es) fit =
    let Fits : Entry → Type 0 = λ y. (y.object < 2 ^ 64) × (y.slot < 2 ^ 64) in
    let first = All-head Fits e es fit in
    All-cons (λ (n : ℕ). n < 2 ^ 64) e.object (e.slot ∷ entry_numbers es) first.0
    (All-cons (λ (n : ℕ). n < 2 ^ 64) e.slot (entry_numbers es) first.1 (numbers_fit es (All-tail Fits e es fit)))

-- if i entries were written, and then the next, i + 1 are written
pub entry_put : (es : List Entry) (i : ℕ) (e : Entry) (old : List ℕ) → i < length es → length old ≡ 2 * length es →
    take (2 * i) old ≡ entry_numbers (take i es) → e ≡ get_or es i e → take (2 * (i + 1))
    (set (set old (2 * i) e.object) (2 * i + 1) e.slot) ≡ entry_numbers (take (i + 1) es)
entry_put es i e old lt size before is =
    let mid : List ℕ = set old (2 * i) e.object in
    let next : 2 * (i + 1) ≡ 2 * i + 1 + 1 = omega arith in
    let room : 2 * i < length old = omega (arith, lt, size) in
    let more : take (i + 1) es ≡ take i es ++ e ∷ [] = take_more es i e lt ∙ ap (λ (x : Entry). take i es ++ x ∷ []) (sym is) in
    ap (λ (n : ℕ). take n (set mid (2 * i + 1) e.slot)) next
    ∙ take_more_set mid (2 * i + 1) e.slot (omega (arith, lt, size, length-set old (2 * i) e.object))
    ∙ ap (λ (t : List ℕ). t ++ e.slot ∷ []) (take_more_set old (2 * i) e.object room)
    ∙ ap (λ (t : List ℕ). (t ++ e.object ∷ []) ++ e.slot ∷ []) before
    ∙ sym (numbers_push (take i es) e) ∙ ap entry_numbers (sym more)

-- if i entries were read, and then the next, i + 1 are read
pub entry_taken : (ns : List ℕ) (into : List Entry) (i : ℕ) → i < length into → length ns ≡ 2 * length into →
    take (2 * i) ns ≡ entry_numbers (take i into) → take (2 * (i + 1)) ns ≡ entry_numbers
    (take (i + 1) (set into i (entry_of (get_or ns (2 * i) 0) (get_or ns (2 * i + 1) 0))))
entry_taken ns into i lt size before =
    let e : Entry = entry_of (get_or ns (2 * i) 0) (get_or ns (2 * i + 1) 0) in
    let next : 2 * (i + 1) ≡ 2 * i + 1 + 1 = omega arith in
    let more : take (i + 1) (set into i e) ≡ take i into ++ e ∷ [] = take_more_set into i e lt in
    ap (λ (n : ℕ). take n ns) next
    ∙ take_more ns (2 * i + 1) 0 (omega (arith, lt, size))
    ∙ ap (λ (t : List ℕ). t ++ e.slot ∷ []) (take_more ns (2 * i) 0 (omega (arith, lt, size)))
    ∙ ap (λ (t : List ℕ). (t ++ e.object ∷ []) ++ e.slot ∷ []) before
    ∙ sym (numbers_push (take i into) e) ∙ ap entry_numbers (sym more)

pub all_put : (es : List Entry) (i : ℕ) (now : List ℕ) → length es ≤ i → length now ≡ 2 * length es →
    take (2 * i) now ≡ entry_numbers (take i es) → now ≡ entry_numbers es
all_put es i now past size is =
    sym (take_all (2 * i) now (omega (arith, size, past))) ∙ is ∙ ap entry_numbers (take_all i es (omega (arith, past)))
