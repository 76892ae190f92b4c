-- Directories are read back from their bytes.
use Rattle.layout.proofs.Names.{nat_tests, [], ℕ, Bool, true, false, List, length, get_or, set, take, drop, refl, sym, ap, append_assoc, inl, inr, arith}
use Rattle.layout.proofs.Names.{replicate, cases_lt, false≢true, take_more, take_more_set, take_at, append-nil, length-append, get_or-replicate}
use Rattle.layout.proofs.Names.{length-replicate, get_or_past, take-add, flat_map-append, All-same, All-push, All-nil, All-tail, All-head, Geometry, Entry}
use Rattle.layout.proofs.Names.{number, directory_bytes, entry_at, IsDirectory, AllFitting}
use Rattle.std.proofs.Common.{◌≡◌, ◌+◌, ◌*◌, ◌^◌, ◌<◌, ◌∷◌, ◌++◌, ◌∙◌}
use Rattle.layout.proofs.Numbers.{length-number, number_splits}

-- ---- bytes

pub no_entry : directory_bytes [] ≡ []
unfolding directory_bytes
no_entry = refl

cons_entry : (e : Entry) (es : List Entry) → directory_bytes (e ∷ es) ≡ number e.object ++ (number e.slot ++ directory_bytes es)
unfolding directory_bytes
cons_entry e es = append_assoc (number e.object) (number e.slot) (directory_bytes es)

push_entry : (es : List Entry) (e : Entry) → directory_bytes (es ++ e ∷ []) ≡ directory_bytes es ++ number e.object ++ number e.slot
unfolding directory_bytes
push_entry es e = grind (arith, nat_tests, flat_map-append, append-nil, append_assoc)

pub length-directory : (es : List Entry) → length (directory_bytes es) ≡ 16 * length es
length-directory [] = ap length no_entry
length-directory (e ∷ es) = grind (arith, nat_tests, cons_entry, length-append, length-number, length-directory es)

same_entry : (d e : Entry) → d.object ≡ e.object → d.slot ≡ e.slot → d ≡ e
same_entry d e o s = ap (λ (x : ℕ). record { object = x; slot = d.slot }) o ∙ ap (λ (x : ℕ). record { object = e.object; slot = x }) s

-- given bytes encode at most one directory
pub one_directory : (ds es : List Entry) → AllFitting ds → AllFitting es → directory_bytes ds ≡ directory_bytes es → ds ≡ es
one_directory [] [] fd fe e = refl
one_directory [] (x ∷ es) fd fe e = absurd (omega (arith, length-directory [], length-directory (x ∷ es), ap length e))
one_directory (x ∷ ds) [] fd fe e = absurd (omega (arith, length-directory [], length-directory (x ∷ ds), ap length e))
one_directory (d ∷ ds) (x ∷ es) fd fe e =
    let Fits : Entry → Type 0 = λ y. (y.object < 2 ^ 64) × (y.slot < 2 ^ 64) in
    let hd = All-head Fits d ds fd in
    let he = All-head Fits x es fe in
    let first = number_splits d.object x.object (number d.slot ++ directory_bytes ds) (number x.slot ++ directory_bytes es) hd.0 he.0
    (sym (cons_entry d ds) ∙ e ∙ cons_entry x es) in
    let second = number_splits d.slot x.slot (directory_bytes ds) (directory_bytes es) hd.1 he.1 first.1 in
    let others = one_directory ds es (All-tail Fits d ds fd) (All-tail Fits x es fe) second.1 in
    ap (λ (y : Entry). y ∷ ds) (same_entry d x first.0 second.0) ∙ ap (λ (ys : List Entry). x ∷ ys) others

pub directory_fits : (g : Geometry) (es : List Entry) → IsDirectory g es → AllFitting es
directory_fits g es is k d lt = let one = is.each k d lt in (one.object_fits, one.slot_fits)

-- ---- reading and writing

pub record EntriesRead (bytes : List ℕ) (into : List Entry) (i : ℕ) : Type 0 where
  pub bytes_are : take (16 * i) bytes ≡ directory_bytes (take i into)
  pub each : AllFitting (take i into)

pub none_read : (bytes : List ℕ) (into : List Entry) → EntriesRead bytes into 0
none_read bytes into = record { bytes_are = sym no_entry; each = All-nil (λ (e : Entry). (e.object < 2 ^ 64) × (e.slot < 2 ^ 64)) }

pub entry_read : (bytes : List ℕ) (into : List Entry) (i o s : ℕ) → i < length into → EntriesRead bytes into i → o < 2 ^ 64 → s < 2 ^ 64
    → drop (16 * i) bytes ≡ number o ++ drop (16 * i + 8) bytes → drop (16 * i + 8) bytes ≡ number s ++ drop (16 * i + 8 + 8) bytes
    → EntriesRead bytes (set into i (record { object = o; slot = s })) (i + 1)
entry_read bytes into i o s lt before fo fs is_object is_slot =
    let e : Entry = record { object = o; slot = s } in
    let more : take (i + 1) (set into i e) ≡ take i into ++ e ∷ [] = take_more_set into i e lt in
    let next : 16 * (i + 1) ≡ 16 * i + 16 = omega arith in
    let both : drop (16 * i) bytes ≡ (number o ++ number s) ++ drop (16 * i + 8 + 8) bytes = grind (arith, nat_tests, append_assoc) in
    let piece : take 16 (drop (16 * i) bytes) ≡ number o ++ number s = ap (take 16) both ∙
    take_at (number o ++ number s) (drop (16 * i + 8 + 8) bytes) 16 (length-append (number o) (number s)
    ∙ omega (arith, length-number o, length-number s))
    in
    record {
      bytes_are = grind (arith, nat_tests, take-add, append_assoc, push_entry);
      each = search (All-same, All-push);
    }

pub entry_written : (es : List Entry) (i : ℕ) (e : Entry) (old mid new : List ℕ) → i < length es →
    take (16 * i) old ≡ directory_bytes (take i es) → take (16 * i + 8) mid ≡ take (16 * i) old ++ number e.object →
    take (16 * i + 8 + 8) new ≡ take (16 * i + 8) mid ++ number e.slot → e ≡ get_or es i e
    → take (16 * (i + 1)) new ≡ directory_bytes (take (i + 1) es)
entry_written es i e old mid new lt before first second is = grind (arith, nat_tests, push_entry (take i es) e, take_more es i e lt)

-- ---- rising numbers

abbrev pub RisingBelow : List Entry → ℕ → Type 0
RisingBelow es i = (k : ℕ) → k + 1 < i → (entry_at es k).object < (entry_at es (k + 1)).object

-- ---- slots that differ

-- `used` marks exactly the slots of the first i entries, and these slots differ
pub record IsUsed (es : List Entry) (used : List Bool) (i : ℕ) : Type 0 where
  pub size : length used ≡ 4096
  pub marks : (k : ℕ) → k < i → get_or used (entry_at es k).slot false ≡ true
  pub marked : (s : ℕ) → get_or used s false ≡ true → (k : ℕ) × (k < i) × ((entry_at es k).slot ≡ s)
  pub apart : (j k : ℕ) → j < k → k < i → (entry_at es j).slot ≡ (entry_at es k).slot → ⊥

unmarked : (s : ℕ) → get_or (replicate 4096 false) s false ≡ true → ⊥
unmarked s e = elim (cases_lt s 4096) [
  | inl lt ↦ false≢true (sym (get_or-replicate 4096 s false false lt) ∙ e)
  | inr le ↦ false≢true (sym (get_or_past (replicate 4096 false) s false (omega (arith, length-replicate 4096 false))) ∙ e)
]

pub none_used : (es : List Entry) → IsUsed es (replicate 4096 false) 0
none_used es = record {
  size = length-replicate 4096 false;
  marks = λ k lt. absurd (omega arith);
  marked = λ s e. absurd (unmarked s e);
  apart = λ j k lt lt'. absurd (omega arith);
}
