-- Numbers read back from bytes.
use Rattle.layout.proofs.Names.{nat_tests, [], ℕ, List, length, get_or, take, drop, refl, sym, ap, inl, inr, arith, replicate, bit_or, IsTrue, nat_eq}
use Rattle.layout.proofs.Names.{w64, from_le_bytes, le_bytes_8, from_le_bytes-to_le_bytes_8, le_or_l, le_or_r, take_at, drop_at, take-append-drop, length-take}
use Rattle.layout.proofs.Names.{length-drop, drop-drop, get_or-take, get_or-drop, get_or_past, same_lists, get_or-replicate, length-replicate, get_or_default}
use Rattle.layout.proofs.Names.{take_rest, drop_all, append-nil, length-append, drop-replicate, cases_lt, between, little_number, little_from-take}
use Rattle.layout.proofs.Names.{little_number-reads_back, number, number_from, zeros}
use Rattle.std.proofs.Common.{◌≡◌, ◌+◌, ◌-◌, ◌^◌, ◌<◌, ◌≤◌, ◌∷◌, ◌++◌, ◌∙◌}
use Rattle.std.specs.Prelude.{◌↔◌}
use Rattle.std.proofs.lemmas.List.{append_assoc}
use borrow.Rule.Slice.PartMut.{put_mid}

pub length-number : (n : ℕ) → length (number n) ≡ 8
unfolding number
length-number n = refl

pub length-zeros : (n : ℕ) → length (zeros n) ≡ n
unfolding zeros
length-zeros n = length-replicate n 0

abbrev pub IsBytes : List ℕ → Type 0
IsBytes bytes = (i : ℕ) → get_or bytes i 0 < 256

as_le : (xs : List ℕ) → little_number 8 xs ≡ from_le_bytes w64 xs
as_le xs = omega arith

-- the bytes of the number that eight bytes encode are these eight bytes
pub number_back : (xs : List ℕ) → length xs ≡ 8 → IsBytes xs → number (little_number 8 xs) ≡ xs
unfolding number
number_back xs l small = le_bytes_8 xs (little_number 8 xs) l small (as_le xs)

IsBytes-front : (bytes : List ℕ) (at : ℕ) → IsBytes bytes → at + 8 ≤ length bytes → IsBytes (take 8 (drop at bytes))
IsBytes-front bytes at small room i =
    elim (cases_lt i 8) [
      | inl lt ↦ rw (get_or-take 8 (drop at bytes) i 0 lt, get_or-drop at bytes i 0) (small (at + i))
      | inr le ↦ rw (get_or_past (take 8 (drop at bytes)) i 0 (omega (arith, length-take 8 (drop at bytes)))) (omega arith)
    ]

front_rest : (xs front rest : List ℕ) → front ≡ take 8 xs → drop 8 xs ≡ rest → xs ≡ front ++ rest
front_rest xs front rest e r = sym (take-append-drop 8 xs) ∙ ap (λ (t : List ℕ). take 8 xs ++ t) r ∙ ap (λ (t : List ℕ). t ++ rest) (sym e)

-- if n was read at `at`, the bytes from there on are those of n, and more
pub number_read : (bytes : List ℕ) (at n : ℕ) → at + 8 ≤ length bytes → IsBytes bytes → n ≡ little_number 8 (drop at bytes)
    → drop at bytes ≡ number n ++ drop (at + 8) bytes
number_read bytes at n room small is =
    let len : length (take 8 (drop at bytes)) ≡ 8 = omega (arith, length-take 8 (drop at bytes), length-drop at bytes) in
    let front : number n ≡ take 8 (drop at bytes) = ap number (is ∙ sym (little_from-take 0 8 8 (drop at bytes) (omega arith))) ∙
    number_back (take 8 (drop at bytes)) len (IsBytes-front bytes at small room) in
    front_rest (drop at bytes) (number n) (drop (at + 8) bytes) front (drop-drop 8 at bytes)

-- the bytes of a number determine it, whatever follows
pub number_splits : (m n : ℕ) (x y : List ℕ) → m < 2 ^ 64 → n < 2 ^ 64 → number m ++ x ≡ number n ++ y → (m ≡ n) × (x ≡ y)
unfolding number
number_splits m n x y fits fits' e = grind (arith, nat_tests, take_at, drop_at, from_le_bytes-to_le_bytes_8)

-- `any` is 0 exactly if the first i bytes are
pub record IsSum (bytes : List ℕ) (i any : ℕ) : Type 0 where
  pub zero_bytes : any ≡ 0 → (k : ℕ) → k < i → get_or bytes k 0 ≡ 0
  pub zero_sum : ((k : ℕ) → k < i → get_or bytes k 0 ≡ 0) → any ≡ 0

pub sum_more : (bytes : List ℕ) (i any : ℕ) → IsSum bytes i any → IsSum bytes (i + 1) (bit_or any (get_or bytes i 0))
sum_more bytes i any s = grind (arith, nat_tests, le_or_l, le_or_r)

pub sum_zeros : (bytes : List ℕ) (any : ℕ) → IsSum bytes (length bytes) any → any ≡ 0 → bytes ≡ zeros (length bytes)
unfolding zeros
sum_zeros bytes any s e =
    same_lists bytes (replicate (length bytes) 0) (sym (length-replicate (length bytes) 0))
    (λ k d lt. get_or_default bytes k d 0 lt ∙ s.zero_bytes e k lt ∙ sym (get_or-replicate (length bytes) k 0 d lt))

pub zeros_sum : (bytes : List ℕ) (any : ℕ) → IsSum bytes (length bytes) any → bytes ≡ zeros (length bytes) → any ≡ 0
unfolding zeros
zeros_sum bytes any s e = grind (arith, nat_tests, get_or-replicate)

-- after n was written at `at`, the bytes are the old ones before it, those of n, and the old ones after it
pub written : (bytes buf : List ℕ) (at n : ℕ) → at + 8 ≤ length bytes → buf ≡ number n ++ drop 8 (between at (length bytes) bytes)
    → put_mid at (length bytes - at) bytes buf ≡ (take at bytes ++ number n) ++ drop (at + 8) bytes
written bytes buf at n room is =
    let mid : between at (length bytes) bytes ≡ drop at bytes = take_rest bytes at in
    let past : drop (length bytes - at) (drop at bytes) ≡ [] = drop_all (length bytes - at) (drop at bytes)
    (omega (arith, length-drop at bytes)) in
    let whole : buf ≡ number n ++ drop (at + 8) bytes = cc (drop-drop 8 at bytes) in
    rw (past, whole, append-nil) (sym (append_assoc (take at bytes) (number n) (drop (at + 8) bytes)))

pub written_before : (bytes new : List ℕ) (at n : ℕ) → at + 8 ≤ length bytes → new ≡ (take at bytes ++ number n) ++ drop (at + 8) bytes →
    take (at + 8) new ≡ take at bytes ++ number n
written_before bytes new at n room is = grind (arith, nat_tests, take_at, length-append, length-take, length-number)

pub written_after : (bytes new : List ℕ) (at n : ℕ) → at + 8 ≤ length bytes → new ≡ (take at bytes ++ number n) ++ drop (at + 8) bytes →
    drop (at + 8) new ≡ drop (at + 8) bytes
written_after bytes new at n room is = grind (arith, nat_tests, drop_at, length-append, length-take, length-number)

pub ends_zeros : (bytes : List ℕ) (i any : ℕ) → i ≡ length bytes → IsSum bytes i any →
    IsTrue (nat_eq any 0) ↔ (bytes ≡ zeros (length bytes))
ends_zeros bytes i any e s = grind (arith, nat_tests, sum_zeros, zeros_sum)

-- the bytes of some numbers, one after the other, and then other bytes
abbrev pub stream : List ℕ → List ℕ → List ℕ
stream [] rest = rest
stream (n ∷ ns) rest = number n ++ stream ns rest

-- each number fits eight bytes
abbrev pub AllFit : List ℕ → Type 0
AllFit [] = Unit {0}
AllFit (n ∷ ns) = (n < 2 ^ 64) × AllFit ns

-- the bytes of some numbers determine them, whatever follows
pub stream_splits : (ms ns x y : List ℕ) → AllFit ms → AllFit ns → length ms ≡ length ns → stream ms x ≡ stream ns y → (ms ≡ ns) × (x ≡ y)
stream_splits [] [] x y fits fits' len e = (refl, e)
stream_splits [] (n ∷ ns) x y fits fits' len e = absurd (omega (arith, len))
stream_splits (m ∷ ms) [] x y fits fits' len e = absurd (omega (arith, len))
stream_splits (m ∷ ms) (n ∷ ns) x y fits fits' len e =
    let first = number_splits m n (stream ms x) (stream ns y) fits.0 fits'.0 e in
    let others = stream_splits ms ns x y fits.1 fits'.1 (omega (arith, len)) first.1 in
    (ap (λ (k : ℕ). k ∷ ms) first.0 ∙ ap (λ (ks : List ℕ). n ∷ ks) others.0, others.1)

-- the bytes before `at` are `front`, and those from `at` on are as in `filled`
pub record IsWritten (filled front now : List ℕ) (at : ℕ) : Type 0 where
  pub before : take at now ≡ front
  pub after : drop at now ≡ drop at filled

pub written_none : (filled : List ℕ) → IsWritten filled [] filled 0
written_none filled = record { before = refl; after = refl }

pub written_more : (filled front old new : List ℕ) (at n : ℕ) → IsWritten filled front old at
    → take (at + 8) new ≡ take at old ++ number n → drop (at + 8) new ≡ drop (at + 8) old →
    IsWritten filled (front ++ number n) new (at + 8)
written_more filled front old new at n was before after = grind (arith, nat_tests, drop-drop 8 at old, drop-drop 8 at filled)

-- if the bytes before `at` are written, the bytes are `front` followed by `filled` from `at` on
pub written_all : (filled front now : List ℕ) (at : ℕ) → IsWritten filled front now at → now ≡ front ++ drop at filled
written_all filled front now at was = grind (arith, nat_tests, take-append-drop)

pub drop_filled : (filled : List ℕ) (n at : ℕ) → filled ≡ zeros n → drop at filled ≡ zeros (n - at)
unfolding zeros
drop_filled filled n at e = ap (drop at) e ∙ drop-replicate at n 0

pub all_blank : (bytes : List ℕ) (n : ℕ) → length bytes ≡ n → ((k d : ℕ) → k < n → get_or bytes k d ≡ 0) → bytes ≡ zeros n
unfolding zeros
all_blank bytes n len all = grind (arith, nat_tests, same_lists, length-replicate, get_or-replicate)

-- a number is read back from bytes that begin with its encoding
pub number_reported : (bytes rest : List ℕ) (n : ℕ) → n < 2 ^ 64 → bytes ≡ number n ++ rest → n ≡ number_from bytes
unfolding number number_from
number_reported bytes rest n fits e = sym (ap (little_number 8) e ∙ little_number-reads_back 8 n rest fits)
