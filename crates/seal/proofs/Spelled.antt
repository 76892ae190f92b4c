-- The bytes of sums.
use Rattle.seal.proofs.Names.{ℕ, List, [], length, take, drop, replicate, ap, sym, refl, inl, inr, arith, cases_lt, append_assoc, append-nil, drop_all}
use Rattle.seal.proofs.Names.{drop_at, drop-drop, get_or-drop, get_or-take, get_or_past, length-append, length-drop, length-take, length-take-le}
use Rattle.seal.proofs.Names.{take-append-drop, take_at, take_rest, le_bytes_8, w64, from_le_bytes, between, little_bytes, little_number, little_from-take}
use Rattle.seal.proofs.Names.{little_number-reads_back, sums_bytes, Sums}
use Rattle.std.proofs.Common.{◌≡◌, ◌+◌, ◌-◌, ◌^◌, ◌<◌, ◌≤◌, ◌++◌, ◌∙◌}
use borrow.Rule.Slice.PartMut.{put_mid}
use Rattle.seal.proofs.Numbers.{AreBytes}
use Rattle.seal.proofs.Weights.{same_sums}

-- each of the three sums fits eight bytes
pub record AreWords (s : Sums) : Type 0 where
  pub a : s.a < 2 ^ 64
  pub b : s.b < 2 ^ 64
  pub c : s.c < 2 ^ 64

-- the bytes of a number determine it, whatever follows
number_first : (m n : ℕ) (x y : List ℕ) → m < 2 ^ 64 → n < 2 ^ 64 → little_bytes 8 m ++ x ≡ little_bytes 8 n ++ y → (m ≡ n) × (x ≡ y)
number_first m n x y small small' e =
    (sym (little_number-reads_back 8 m x small) ∙ ap (little_number 8) e ∙ little_number-reads_back 8 n y small', ap (drop 8) e)

two_numbers : (a b d e : ℕ) → a < 2 ^ 64 → b < 2 ^ 64 → d < 2 ^ 64 → e < 2 ^ 64 →
    little_bytes 8 a ++ little_bytes 8 b ≡ little_bytes 8 d ++ little_bytes 8 e → (a ≡ d) × (b ≡ e)
two_numbers a b d e a' b' d' e' same =
    let first = number_first a d (little_bytes 8 b) (little_bytes 8 e) a' d' same in
    (first.0, (number_first b e [] [] b' e' first.1).0)

-- sums with the same bytes are equal
pub one_spelling : (s t : Sums) → AreWords s → AreWords t → sums_bytes s ≡ sums_bytes t → s ≡ t
unfolding sums_bytes
one_spelling s t small small' e =
    let first = number_first s.a t.a (little_bytes 8 s.b ++ little_bytes 8 s.c) (little_bytes 8 t.b ++ little_bytes 8 t.c) small.a small'.a
    e in
    let rest = two_numbers s.b s.c t.b t.c small.b small.c small'.b small'.c first.1 in
    same_sums s t first.0 rest.0 rest.1

-- bytes 8 to 23 of the sums determine b and c
pub tail_spelling : (s t : Sums) → AreWords s → AreWords t → drop 8 (sums_bytes s) ≡ drop 8 (sums_bytes t) → (s.b ≡ t.b) × (s.c ≡ t.c)
unfolding sums_bytes
tail_spelling s t small small' e = two_numbers s.b s.c t.b t.c small.b small.c small'.b small'.c e

pub zero_bytes : sums_bytes (record { a = 0; b = 0; c = 0 }) ≡ replicate 24 0
unfolding sums_bytes
zero_bytes = refl

pub length_sums : (s : Sums) → length (sums_bytes s) ≡ 24
unfolding sums_bytes
length_sums s = refl

-- ---- numbers are read

as_le : (xs : List ℕ) → little_number 8 xs ≡ from_le_bytes w64 xs
as_le xs = omega arith

-- the bytes of the number that eight bytes encode are these eight bytes
number_back : (xs : List ℕ) → length xs ≡ 8 → AreBytes xs → little_bytes 8 (little_number 8 xs) ≡ xs
number_back xs l small = le_bytes_8 xs (little_number 8 xs) l small (as_le xs)

front_bytes : (bytes : List ℕ) (at : ℕ) → AreBytes bytes → AreBytes (take 8 (drop at bytes))
front_bytes bytes at small i =
    elim (cases_lt i 8) [
      | inl lt ↦ omega (arith, get_or-take 8 (drop at bytes) i 0 lt, get_or-drop at bytes i 0, small (at + i))
      | inr le ↦ omega (arith, get_or_past (take 8 (drop at bytes)) i 0 (omega (arith, length-take 8 (drop at bytes))))
    ]

number_read : (bytes : List ℕ) (at n : ℕ) → at + 8 ≤ length bytes → AreBytes bytes →
    n ≡ little_number 8 (take (length bytes - at) (drop at bytes)) → drop at bytes ≡ little_bytes 8 n ++ drop (at + 8) bytes
number_read bytes at n room small is =
    let read : n ≡ little_number 8 (drop at bytes) = is ∙ ap (little_number 8) (take_rest bytes at) in
    let len : length (take 8 (drop at bytes)) ≡ 8 = omega (arith, length-take 8 (drop at bytes), length-drop at bytes) in
    let front : little_bytes 8 n ≡ take 8 (drop at bytes) = ap (little_bytes 8)
    (read ∙ sym (little_from-take 0 8 8 (drop at bytes) (omega arith))) ∙
    number_back (take 8 (drop at bytes)) len (front_bytes bytes at small) in
    sym (take-append-drop 8 (drop at bytes)) ∙ ap (λ (t : List ℕ). take 8 (drop at bytes) ++ t) (drop-drop 8 at bytes)
    ∙ ap (λ (t : List ℕ). t ++ drop (at + 8) bytes) (sym front)

pub sums_read : (bytes : List ℕ) (at : ℕ) (s : Sums) → at + 24 ≤ length bytes → AreBytes bytes
    → s.a ≡ little_number 8 (take (length bytes - at) (drop at bytes))
    → s.b ≡ little_number 8 (take (length bytes - (at + 8)) (drop (at + 8) bytes))
    → s.c ≡ little_number 8 (take (length bytes - (at + 16)) (drop (at + 16) bytes))
    → drop at bytes ≡ sums_bytes s ++ drop (at + 24) bytes
unfolding sums_bytes
sums_read bytes at s room small a b c =
    let first = number_read bytes at s.a (omega (arith, room)) small a in
    let second : drop (at + 8) bytes ≡ little_bytes 8 s.b ++ drop (at + 16) bytes =
    number_read bytes (at + 8) s.b (omega (arith, room)) small b
    ∙ ap (λ (n : ℕ). little_bytes 8 s.b ++ drop n bytes) (omega arith) in
    let third : drop (at + 16) bytes ≡ little_bytes 8 s.c ++ drop (at + 24) bytes =
    number_read bytes (at + 16) s.c (omega (arith, room)) small c
    ∙ ap (λ (n : ℕ). little_bytes 8 s.c ++ drop n bytes) (omega arith) in
    first ∙ ap (λ (t : List ℕ). little_bytes 8 s.a ++ t) second ∙ ap (λ (t : List ℕ). little_bytes 8 s.a ++ (little_bytes 8 s.b ++ t)) third

-- ---- numbers are written

pub written : (bytes buf : List ℕ) (at n : ℕ) → at + 8 ≤ length bytes → buf ≡ little_bytes 8 n ++ drop 8 (between at (length bytes) bytes)
    → put_mid at (length bytes - at) bytes buf ≡ (take at bytes ++ little_bytes 8 n) ++ drop (at + 8) bytes
written bytes buf at n room is =
    let mid : between at (length bytes) bytes ≡ drop at bytes = take_rest bytes at in
    let past : drop (length bytes - at) (drop at bytes) ≡ [] = drop_all (length bytes - at) (drop at bytes)
    (omega (arith, length-drop at bytes)) in
    let whole : buf ≡ little_bytes 8 n ++ drop (at + 8) bytes = is ∙ ap (λ (t : List ℕ). little_bytes 8 n ++ drop 8 t) mid ∙
    ap (λ (t : List ℕ). little_bytes 8 n ++ t) (drop-drop 8 at bytes) in
    rw (past, whole, append-nil) (sym (append_assoc (take at bytes) (little_bytes 8 n) (drop (at + 8) bytes)))

-- writing one number after the front extends the front by it
behind : (old mid new front number : List ℕ) (at : ℕ) → length front ≡ at → length number ≡ 8 → mid ≡ front ++ drop at old →
    new ≡ (take at mid ++ number) ++ drop (at + 8) mid → new ≡ (front ++ number) ++ drop (at + 8) old
behind old mid new front number at len eight was is =
    let kept : take at mid ≡ front = ap (take at) was ∙ take_at front (drop at old) at len in
    let rest : drop (at + 8) mid ≡ drop (at + 8) old =
    sym (drop-drop 8 at mid) ∙ ap (λ (t : List ℕ). drop 8 (drop at t)) was ∙ ap (drop 8) (drop_at front (drop at old) at len)
    ∙ drop-drop 8 at old in
    is ∙ ap (λ (t : List ℕ). (t ++ number) ++ drop (at + 8) mid) kept ∙ ap (λ (t : List ℕ). (front ++ number) ++ t) rest

pub sums_written : (b0 b1 b2 b3 : List ℕ) (at : ℕ) (s : Sums) → at + 24 ≤ length b0 →
    b1 ≡ (take at b0 ++ little_bytes 8 s.a) ++ drop (at + 8) b0 → b2 ≡ (take (at + 8) b1 ++ little_bytes 8 s.b) ++ drop (at + 8 + 8) b1 →
    b3 ≡ (take (at + 16) b2 ++ little_bytes 8 s.c) ++ drop (at + 16 + 8) b2
    → b3 ≡ (take at b0 ++ sums_bytes s) ++ drop (at + 24) b0
unfolding sums_bytes
sums_written b0 b1 b2 b3 at s room e1 e2 e3 =
    let front : List ℕ = take at b0 in
    let one : List ℕ = front ++ little_bytes 8 s.a in
    let two : List ℕ = one ++ little_bytes 8 s.b in
    let len0 : length front ≡ at = length-take-le at b0 (omega (arith, room)) in
    let len1 : length one ≡ at + 8 = omega (arith, length-append front (little_bytes 8 s.a), len0) in
    let len2 : length two ≡ at + 16 = omega (arith, length-append one (little_bytes 8 s.b), len1) in
    let second : b2 ≡ two ++ drop (at + 8 + 8) b0 = behind b0 b1 b2 one (little_bytes 8 s.b) (at + 8) len1 refl e1 e2 in
    let second' : b2 ≡ two ++ drop (at + 16) b0 = second ∙ ap (λ (n : ℕ). two ++ drop n b0) (omega arith) in
    let third : b3 ≡ (two ++ little_bytes 8 s.c) ++ drop (at + 16 + 8) b0 =
    behind b0 b2 b3 two (little_bytes 8 s.c) (at + 16) len2 refl second' e3 in
    let whole : two ++ little_bytes 8 s.c ≡ front ++ ((little_bytes 8 s.a ++ little_bytes 8 s.b) ++ little_bytes 8 s.c) =
    simp append_assoc in
    third ∙ ap (λ (t : List ℕ). t ++ drop (at + 16 + 8) b0) whole
    ∙ ap (λ (n : ℕ). (front ++ ((little_bytes 8 s.a ++ little_bytes 8 s.b) ++ little_bytes 8 s.c)) ++ drop n b0) (omega arith)
