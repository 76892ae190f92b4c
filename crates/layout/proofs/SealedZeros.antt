-- Frames of zeros.
use Rattle.layout.proofs.Names.{ℕ, List, length, take, drop, ap, refl, sym, inr, arith, drop-replicate, length-replicate, take-replicate, All-replicate, number}
use Rattle.layout.proofs.Names.{zeros, words_bytes, IsRow, IsSealed, body_of, seal_of, sums_bytes, sums_of, row_words, zeros_sealed, one_spelling, zero_bytes}
use Rattle.layout.proofs.Names.{IsCluster, ZerosAreFree, IsPage, never_used, page_header_bytes, sector_bytes}
use Rattle.std.proofs.Common.{replicate, ◌≡◌, ◌+◌, ◌-◌, ◌*◌, ◌%◌, ◌<◌, ◌≤◌, ◌∙◌}
use Rattle.layout.proofs.SealedSectors.{body_with, sealed_is}

-- ---- sums of zeros

zeros_row : (n : ℕ) → n % 4 ≡ 0 → n ≤ 4096 → IsRow (replicate n 0)
zeros_row n whole size = record {
  bytes = All-replicate (λ (b : ℕ). b < 256) n 0 (omega arith);
  whole = omega (arith, length-replicate {A = ℕ} n 0, whole);
  size = omega (arith, length-replicate {A = ℕ} n 0, size);
}

body_zeros : (n : ℕ) → body_of (replicate (n + 24) 0) ≡ replicate n 0
body_zeros n =
    let row : List ℕ = replicate (n + 24) 0 in
    let size : length row - 24 ≡ n = omega (arith, length-replicate {A = ℕ} (n + 24) 0) in
    ap (λ (m : ℕ). take m row) size ∙ take-replicate n (n + 24) 0 (omega arith)

seal_zeros : (n : ℕ) → seal_of (replicate (n + 24) 0) ≡ replicate 24 0
seal_zeros n =
    let row : List ℕ = replicate (n + 24) 0 in
    let size : length row - 24 ≡ n = omega (arith, length-replicate {A = ℕ} (n + 24) 0) in
    let rest : n + 24 - n ≡ 24 = omega arith in
    ap (λ (m : ℕ). drop m row) size ∙ drop-replicate n (n + 24) 0 ∙ ap (λ (m : ℕ). replicate m 0) rest

zero_sums : (n : ℕ) → n % 4 ≡ 0 → n ≤ 4096 → sums_of (replicate n 0) ≡ record { a = 0; b = 0; c = 0 }
zero_sums n whole size =
    let is : IsSealed (replicate (n + 24) 0) = zeros_sealed (n + 24) (omega arith) in
    one_spelling (sums_of (replicate n 0)) (record { a = 0; b = 0; c = 0 }) (row_words (replicate n 0) (zeros_row n whole size))
    (record { a = omega arith; b = omega arith; c = omega arith })
    (ap (λ (row : List ℕ). sums_bytes (sums_of row)) (sym (body_zeros n)) ∙ sym is ∙ seal_zeros n ∙ sym zero_bytes)

-- ---- a page

zero_body : body_of (zeros 512) ≡ body_with (replicate 7 0)
unfolding zeros words_bytes number
zero_body = refl

zero_sealed : (n : ℕ) → 24 ≤ n → IsSealed (zeros n)
unfolding zeros
zero_sealed n room = zeros_sealed n room

zero_sector : zeros 512 ≡ sector_bytes (replicate 7 0)
unfolding sector_bytes
zero_sector = sealed_is (zeros 512) (body_with (replicate 7 0)) (zero_sealed 512 (omega arith)) zero_body

zeros_front : (m n : ℕ) → m ≤ n → take m (zeros n) ≡ zeros m
unfolding zeros
zeros_front m n le = take-replicate m n 0 le

zeros_behind : (m n : ℕ) → drop m (zeros n) ≡ zeros (n - m)
unfolding zeros
zeros_behind m n = drop-replicate m n 0

zero_words : sums_of (zeros 4096) ≡ record { a = 0; b = 0; c = 0 }
unfolding zeros
zero_words = zero_sums 4096 refl (omega arith)

zero_page : (age : ℕ) → IsPage age (zeros 4608) never_used
unfolding page_header_bytes
zero_page age = record {
  header = record { role = inr (refl, refl); allocations = (omega arith, omega arith); calls = (omega arith, omega arith) };
  first = zeros_front 512 4608 (omega arith) ∙ zero_sector;
  words = record {
    sums = sym (ap sums_of (zeros_behind 512 4608) ∙ zero_words);
    free = λ is. zeros_behind 512 4608;
  };
}

zero_cluster : (nodes : ℕ) → IsCluster nodes (zeros 4096)
zero_cluster nodes = record {
  seal = zero_sealed 4096 (omega arith);
  blank =
      ap (take (4072 - 800 * nodes)) (zeros_behind (800 * nodes) 4096) ∙ zeros_front (4072 - 800 * nodes) (4096 - 800 * nodes)
      (omega arith);
}

pub zeros_free : ZerosAreFree
zeros_free age = (zero_page age, zero_cluster)
