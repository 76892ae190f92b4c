-- Sealed sectors of numbers.
use Rattle.layout.proofs.Names.{ℕ, List, [], length, get_or, take, drop, zero, suc, ap, sym, refl, arith, take-add, drop-cons, nat_tests, append-nil, drop_all}
use Rattle.layout.proofs.Names.{replicate-append-replicate, drop_at, get_or-drop, get_or_default, length-append, length-drop, length-take-le, take-append-drop}
use Rattle.layout.proofs.Names.{take_all, take_at, take_more, flat_map-append, IsRead, little_number, number, zeros, words_bytes, IsSealed, body_of, seal_of}
use Rattle.layout.proofs.Names.{sums_bytes, sums_of, Sums, length_sums, AreWords, with_seal, sector_bytes}
use Rattle.std.proofs.lemmas.List.{append_assoc}
use Rattle.std.proofs.Common.{◌≡◌, ◌+◌, ◌-◌, ◌*◌, ◌≤◌, ◌∷◌, ◌++◌, ◌∙◌}
use Rattle.layout.proofs.Numbers.{length-zeros, IsBytes, AllFit, drop_filled, length-number, number_read, stream, stream_splits}

-- ---- seals

-- a sealed row is its body followed by the body's seal
pub sealed_is : (row body : List ℕ) → IsSealed row → body_of row ≡ body → row ≡ with_seal body
unfolding with_seal
sealed_is row body is e =
    sym (take-append-drop (length row - 24) row) ∙ ap (λ (t : List ℕ). body_of row ++ t) is
    ∙ ap (λ (b : List ℕ). b ++ sums_bytes (sums_of b)) e

pub length_sealed : (body : List ℕ) → length (with_seal body) ≡ length body + 24
unfolding with_seal
length_sealed body = omega (arith, length-append body (sums_bytes (sums_of body)), length_sums (sums_of body))

-- a body followed by its seal has this body
pub sealed_body : (row body : List ℕ) → row ≡ with_seal body → body_of row ≡ body
unfolding with_seal
sealed_body row body e =
    let size : length row - 24 ≡ length body = omega (arith, ap length e, length_sealed body) in
    ap (λ (n : ℕ). take n row) size ∙ ap (take (length body)) e ∙ take_at body (sums_bytes (sums_of body)) (length body) refl

pub sealed_seal : (row body : List ℕ) → row ≡ with_seal body → IsSealed row
unfolding with_seal
sealed_seal row body e =
    let size : length row - 24 ≡ length body = omega (arith, ap length e, length_sealed body) in
    ap (λ (n : ℕ). drop n row) size ∙ ap (drop (length body)) e ∙ drop_at body (sums_bytes (sums_of body)) (length body) refl
    ∙ ap (λ (b : List ℕ). sums_bytes (sums_of b)) (sym (sealed_body row body e))

-- ---- numbers

words_push : (ns : List ℕ) (n : ℕ) → words_bytes (ns ++ n ∷ []) ≡ words_bytes ns ++ number n
unfolding words_bytes
words_push ns n = flat_map-append number ns (n ∷ []) ∙ ap (λ (r : List ℕ). words_bytes ns ++ r) (append-nil (number n))

words_stream : (ns : List ℕ) → words_bytes ns ≡ stream ns []
unfolding words_bytes
words_stream [] = refl
words_stream (n ∷ ns) = ap (λ (r : List ℕ). number n ++ r) (words_stream ns)

no_words : words_bytes [] ≡ []
unfolding words_bytes
no_words = refl

all_fit : (ns : List ℕ) → AreWords ns → AllFit ns
all_fit [] all = tt
all_fit (n ∷ ns) all = (all 0 0 (omega arith), all_fit ns (λ k d lt. all (suc k) d (omega (arith, lt))))

pub length_words : (ns : List ℕ) → length (words_bytes ns) ≡ 8 * length ns
unfolding words_bytes
length_words [] = refl
length_words (n ∷ ns) = omega (arith, length-append (number n) (words_bytes ns), length-number n, length_words ns)

-- the first i numbers that were read are encoded by the first 8 i bytes
words_taken : (bytes ns : List ℕ) → IsBytes bytes → length bytes ≡ 8 * length ns → IsRead little_number 8 bytes ns → (i : ℕ) →
    i ≤ length ns → take (8 * i) bytes ≡ words_bytes (take i ns)
words_taken bytes ns small size read zero le = sym no_words
words_taken bytes ns small size read (suc i) le =
    let next : 8 * suc i ≡ 8 * i + 8 = omega arith in
    let n : ℕ = get_or ns i 0 in
    let on : suc i ≡ i + 1 = omega arith in
    let more : take (suc i) ns ≡ take i ns ++ n ∷ [] = ap (λ (m : ℕ). take m ns) on ∙ take_more ns i 0 (omega (arith, le)) in
    let is : drop (8 * i) bytes ≡ number n ++ drop (8 * i + 8) bytes =
    number_read bytes (8 * i) n (omega (arith, size, le)) small (read i (omega (arith, le))) in
    let piece : take 8 (drop (8 * i) bytes) ≡ number n = ap (take 8) is ∙ take_at (number n) (drop (8 * i + 8) bytes) 8 (length-number n) in
    ap (λ (m : ℕ). take m bytes) next ∙ take-add (8 * i) 8 bytes
    ∙ ap (λ (r : List ℕ). r ++ take 8 (drop (8 * i) bytes)) (words_taken bytes ns small size read i (omega (arith, le)))
    ∙ ap (λ (r : List ℕ). words_bytes (take i ns) ++ r) piece ∙ sym (words_push (take i ns) n) ∙ ap words_bytes (sym more)

pub words_read : (bytes ns : List ℕ) → IsBytes bytes → length bytes ≡ 8 * length ns → IsRead little_number 8 bytes ns →
    bytes ≡ words_bytes ns
words_read bytes ns small size read =
    sym (take_all (8 * length ns) bytes (omega (arith, size))) ∙ words_taken bytes ns small size read (length ns) (omega arith)
    ∙ ap words_bytes (take_all (length ns) ns (omega arith))

pub words_fit : (bytes ns : List ℕ) → IsBytes bytes → IsRead little_number 8 bytes ns → AreWords ns
words_fit bytes ns small read k d lt = grind (arith, nat_tests, get_or-drop, get_or_default)

-- the bytes of some numbers determine them, whatever follows
pub words_split : (ms ns x y : List ℕ) → AreWords ms → AreWords ns → length ms ≡ length ns → words_bytes ms ++ x ≡ words_bytes ns ++ y →
    ms ≡ ns
words_split ms ns x y fm fn len e =
    let fronts : words_bytes ms ≡ words_bytes ns =
    sym (take_at (words_bytes ms) x (8 * length ns) (length_words ms ∙ ap (λ (n : ℕ). 8 * n) len)) ∙ ap (take (8 * length ns)) e
    ∙ take_at (words_bytes ns) y (8 * length ns) (length_words ns) in
    (stream_splits ms ns [] [] (all_fit ms fm) (all_fit ns fn) len (sym (words_stream ms) ∙ fronts ∙ words_stream ns)).0

-- ---- sectors

abbrev pub body_with : List ℕ → List ℕ
body_with ns = words_bytes ns ++ zeros (488 - 8 * length ns)

pub length_body : (ns : List ℕ) → length ns ≤ 61 → length (body_with ns) ≡ 488
length_body ns few = omega (
  arith,
  length-append (words_bytes ns) (zeros (488 - 8 * length ns)),
  length_words ns,
  length-zeros (488 - 8 * length ns),
  few,
)

zeros_apart : (m n : ℕ) → zeros (m + n) ≡ zeros m ++ zeros n
unfolding zeros
zeros_apart m n = sym (replicate-append-replicate m n 0)

-- numbers written over zeros form the body of their sector
pub body_written : (ns row : List ℕ) → length ns ≤ 61 → row ≡ words_bytes ns ++ zeros (512 - 8 * length ns) → body_of row ≡ body_with ns
body_written ns row few e =
    let end : 512 - 8 * length ns ≡ 488 - 8 * length ns + 24 = omega (arith, few) in
    let whole : row ≡ body_with ns ++ zeros 24 =
    e ∙ ap (λ (n : ℕ). words_bytes ns ++ zeros n) end ∙ ap (λ (z : List ℕ). words_bytes ns ++ z) (zeros_apart (488 - 8 * length ns) 24)
    ∙ sym (append_assoc (words_bytes ns) (zeros (488 - 8 * length ns)) (zeros 24)) in
    let size : length row - 24 ≡ 488 =
    omega (arith, ap length whole, length-append (body_with ns) (zeros 24), length_body ns few, length-zeros 24) in
    ap (λ (n : ℕ). take n row) size ∙ ap (take 488) whole ∙ take_at (body_with ns) (zeros 24) 488 (length_body ns few)

pub sector_written : (ns filled put row : List ℕ) → length ns ≤ 61 → filled ≡ zeros 512 →
    put ≡ words_bytes ns ++ drop (8 * length ns) filled → IsSealed row → body_of row ≡ body_of put → row ≡ sector_bytes ns
unfolding sector_bytes
sector_written ns filled put row few blank written is same =
    let rest : drop (8 * length ns) filled ≡ zeros (512 - 8 * length ns) = drop_filled filled 512 (8 * length ns) blank in
    sealed_is row (body_with ns) is (same ∙ body_written ns put few (written ∙ ap (λ (z : List ℕ). words_bytes ns ++ z) rest))

-- a row with numbers, zeros and a seal is the sector of these numbers
pub sector_found : (row ns : List ℕ) (n : ℕ) → length row ≡ 512 → length ns ≡ n → n ≤ 61 → take (8 * n) row ≡ words_bytes ns
    → take (488 - 8 * n) (drop (8 * n) row) ≡ zeros (length (take (488 - 8 * n) (drop (8 * n) row))) → IsSealed row → row ≡ sector_bytes ns
unfolding sector_bytes
sector_found row ns n size count few front blank is =
    let whole : length row - 24 ≡ 8 * n + (488 - 8 * n) = omega (arith, size, few) in
    let end : length (take (488 - 8 * n) (drop (8 * n) row)) ≡ 488 - 8 * length ns =
    omega (arith, length-take-le (488 - 8 * n) (drop (8 * n) row) (omega (arith, length-drop (8 * n) row, size, few)), count) in
    let body : body_of row ≡ body_with ns =
    ap (λ (m : ℕ). take m row) whole ∙ take-add (8 * n) (488 - 8 * n) row
    ∙ ap (λ (t : List ℕ). t ++ take (488 - 8 * n) (drop (8 * n) row)) front
    ∙ ap (λ (t : List ℕ). words_bytes ns ++ t) (blank ∙ ap zeros end) in
    sealed_is row (body_with ns) is body

-- the row is sealed, and has zeros between its n numbers and the seal
pub record IsSectorOf (row found ns : List ℕ) (n : ℕ) : Type 0 where
  pub seal : IsSealed row
  pub blank : take (488 - 8 * n) (drop (8 * n) row) ≡ zeros (length (take (488 - 8 * n) (drop (8 * n) row)))
  pub numbers : found ≡ ns

pub sector_only : (row found ns : List ℕ) (n : ℕ) → length row ≡ 512 → length found ≡ n → n ≤ 61 → take (8 * n) row ≡ words_bytes found
    → AreWords found → length ns ≡ n → AreWords ns → row ≡ sector_bytes ns → IsSectorOf row found ns n
unfolding sector_bytes with_seal
sector_only row found ns n size count few front fits count' fits' e =
    let seal : List ℕ = sums_bytes (sums_of (body_with ns)) in
    let blank : List ℕ = zeros (488 - 8 * length ns) in
    let whole : row ≡ words_bytes ns ++ (blank ++ seal) = e ∙ append_assoc (words_bytes ns) blank seal in
    let long : length (words_bytes ns) ≡ 8 * n = length_words ns ∙ ap (λ (m : ℕ). 8 * m) count' in
    let behind : drop (8 * n) row ≡ blank ++ seal = ap (drop (8 * n)) whole ∙ drop_at (words_bytes ns) (blank ++ seal) (8 * n) long in
    let end : length blank ≡ 488 - 8 * n = length-zeros (488 - 8 * length ns) ∙ ap (λ (m : ℕ). 488 - 8 * m) count' in
    let part : take (488 - 8 * n) (drop (8 * n) row) ≡ blank = ap (take (488 - 8 * n)) behind ∙ take_at blank seal (488 - 8 * n) end in
    record {
      seal = sealed_seal row (body_with ns) e;
      blank = part ∙ ap zeros (sym (length-zeros (488 - 8 * length ns)) ∙ ap length (sym part));
      numbers =
          words_split found ns [] [] fits fits' (count ∙ sym count')
          (ap (λ (t : List ℕ). t ++ []) (sym front ∙ ap (take (8 * n)) whole ∙ take_at (words_bytes ns) (blank ++ seal) (8 * n) long));
    }

pub length_sector : (ns : List ℕ) → length ns ≤ 61 → length (sector_bytes ns) ≡ 512
unfolding sector_bytes
length_sector ns few = omega (arith, length_sealed (body_with ns), length_body ns few)

sector_front : (ns : List ℕ) → take (8 * length ns) (sector_bytes ns) ≡ words_bytes ns
unfolding sector_bytes with_seal
sector_front ns =
    let seal : List ℕ = sums_bytes (sums_of (body_with ns)) in
    ap (take (8 * length ns)) (append_assoc (words_bytes ns) (zeros (488 - 8 * length ns)) seal)
    ∙ take_at (words_bytes ns) (zeros (488 - 8 * length ns) ++ seal) (8 * length ns) (length_words ns)

-- lists of numbers of one length with the same sector are equal
pub one_sector : (ms ns : List ℕ) → length ms ≡ length ns → length ns ≤ 61 → AreWords ms → AreWords ns → sector_bytes ms ≡ sector_bytes ns →
    ms ≡ ns
one_sector ms ns len few fm fn e =
    let front : take (8 * length ns) (sector_bytes ns) ≡ words_bytes ms =
    ap (take (8 * length ns)) (sym e) ∙ ap (λ (n : ℕ). take (8 * n) (sector_bytes ms)) (sym len) ∙ sector_front ms in
    (sector_only (sector_bytes ns) ms ns (length ns) (length_sector ns few) len few front fm refl fn refl).numbers

pub sector_sealed : (row ns : List ℕ) → row ≡ sector_bytes ns → IsSealed row
unfolding sector_bytes
sector_sealed row ns e = sealed_seal row (body_with ns) e

-- ---- lists of known length

-- the n numbers from index `at` on
abbrev pub listed : ℕ → ℕ → List ℕ → List ℕ
listed at zero ns = []
listed at (suc n) ns = get_or ns at 0 ∷ listed (suc at) n ns

pub listing : (n at : ℕ) (ns : List ℕ) → length ns ≡ at + n → drop at ns ≡ listed at n ns
listing zero at ns len = drop_all at ns (omega (arith, len))
listing (suc n) at ns len =
    drop-cons ns at 0 (omega (arith, len)) ∙ ap (λ (t : List ℕ). get_or ns at 0 ∷ t) (listing n (suc at) ns (omega (arith, len)))

-- the sums read at the end of a sector are its seal
pub seal_read : (row : List ℕ) (s : Sums) → length row ≡ 512 → drop 488 row ≡ sums_bytes s ++ drop (488 + 24) row →
    seal_of row ≡ sums_bytes s
seal_read row s size read =
    ap (λ (n : ℕ). drop (n - 24) row) size ∙ read ∙ ap (λ (t : List ℕ). sums_bytes s ++ t) (drop_all 512 row (omega (arith, size)))
    ∙ append-nil (sums_bytes s)
