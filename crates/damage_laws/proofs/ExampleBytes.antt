-- The sectors of the example are rows of 512 bytes.
use Rattle.damage_laws.proofs.Names.{ℕ, Bool, true, false, List, [], length, get_or, zero, suc, ap, subst, sym, arith, replicate, nat_lt, lt-ltb, nat_tests}
use Rattle.damage_laws.proofs.Names.{length-append, All-append, All-from_get_or, All-nil, All-replicate, All, IsWhole, number, zeros, words_bytes, range_bytes}
use Rattle.damage_laws.proofs.Names.{ranges_bytes, superblock_bytes, superblock_front, HomeRange, numbered_gate_bytes, SealedHeader, header_numbers}
use Rattle.damage_laws.proofs.Names.{sealed_header_bytes, sector_bytes, with_seal, length-zeros, stream, length_sealed, length_sector, length_words}
use Rattle.damage_laws.proofs.Names.{eight_ranges, end_of, front_long, magic, numbers_of, plan_stream, second_of, sums_bytes, sums_of, Sums, example}
use Rattle.damage_laws.proofs.Names.{example_header, example_plan}
use Rattle.std.proofs.Common.{◌≡◌, ◌-◌, ◌*◌, ◌%◌, ◌<◌, ◌≤◌, ◌++◌, ◌∷◌, ◌∙◌}
use Rattle.std.specs.Prelude.{◌==◌, if◌then◌else◌}

abbrev IsByte : ℕ → Type 0
IsByte b = b < 256

abbrev pub AreBytes : List ℕ → Type 0
AreBytes row = All (λ b. b < 256) row

byte_small : (n : ℕ) → n % 256 < 256
byte_small n = omega arith

bytes_at : (n i : ℕ) → get_or (number n) i 0 < 256
unfolding number
bytes_at n zero = byte_small _
bytes_at n (suc zero) = byte_small _
bytes_at n (suc (suc zero)) = byte_small _
bytes_at n (suc (suc (suc zero))) = byte_small _
bytes_at n (suc (suc (suc (suc zero)))) = byte_small _
bytes_at n (suc (suc (suc (suc (suc zero))))) = byte_small _
bytes_at n (suc (suc (suc (suc (suc (suc zero)))))) = byte_small _
bytes_at n (suc (suc (suc (suc (suc (suc (suc zero))))))) = byte_small _
bytes_at n (suc (suc (suc (suc (suc (suc (suc (suc i)))))))) = omega arith

number_bytes : (n : ℕ) → AreBytes (number n)
number_bytes n = All-from_get_or IsByte (number n) 0 (λ i lt. bytes_at n i)

join : (x y : List ℕ) → AreBytes x → AreBytes y → AreBytes (x ++ y)
join x y bx by = All-append IsByte x y bx by

zeros_bytes : (n : ℕ) → AreBytes (zeros n)
unfolding zeros
zeros_bytes n = All-replicate IsByte n 0 (omega arith)

words_are : (ns : List ℕ) → AreBytes (words_bytes ns)
unfolding words_bytes
words_are [] = All-nil IsByte
words_are (n ∷ ns) = join (number n) (words_bytes ns) (number_bytes n) (words_are ns)

sums_are : (s : Sums) → AreBytes (sums_bytes s)
unfolding sums_bytes number
sums_are s =
    join (number s.a ++ number s.b) (number s.c) (join (number s.a) (number s.b) (number_bytes s.a) (number_bytes s.b)) (number_bytes s.c)

sealed_bytes : (body : List ℕ) → AreBytes body → AreBytes (with_seal body)
unfolding with_seal
sealed_bytes body are = join body (sums_bytes (sums_of body)) are (sums_are (sums_of body))

sector_are : (ns : List ℕ) → AreBytes (sector_bytes ns)
unfolding sector_bytes
sector_are ns =
    let blank : List ℕ = zeros (488 - 8 * length ns) in
    sealed_bytes (words_bytes ns ++ blank) (join (words_bytes ns) blank (words_are ns) (zeros_bytes (488 - 8 * length ns)))

stream_are : (ns rest : List ℕ) → AreBytes rest → AreBytes (stream ns rest)
stream_are [] rest are = are
stream_are (n ∷ ns) rest are = join (number n) (stream ns rest) (number_bytes n) (stream_are ns rest are)

ranges_are : (rs : List HomeRange) → AreBytes (ranges_bytes rs)
unfolding ranges_bytes
ranges_are [] = All-nil IsByte
ranges_are (r ∷ rs) =
    let two = join (number r.first) (number r.count) (number_bytes r.first) (number_bytes r.count) in
    let three = join (number r.first ++ number r.count) (number r.sector) two (number_bytes r.sector) in
    join (range_bytes r) (ranges_bytes rs) three (ranges_are rs)

-- ---- each kind of sector

pub record IsSector (row : List ℕ) : Type 0 where
  pub size : length row ≡ 512
  pub bytes : AreBytes row

superblock_sector : IsSector (superblock_bytes example_plan)
unfolding superblock_bytes
superblock_sector =
    let front : List ℕ = superblock_front example_plan in
    let few : 2 ≤ 8 = omega arith in
    let ranges : List HomeRange = eight_ranges example_plan.ranges in
    record {
      size = omega (
        arith,
        length_sealed (front ++ zeros 232),
        length-append front (zeros 232),
        front_long example_plan few,
        length-zeros 232,
      );
      bytes = subst AreBytes (sym (plan_stream example_plan few))
          (stream_are (magic ∷ second_of example_plan ∷ numbers_of example_plan) (ranges_bytes ranges ++ end_of example_plan)
          (join (ranges_bytes ranges) (end_of example_plan) (ranges_are ranges)
          (join (zeros 232) (sums_bytes (sums_of (front ++ zeros 232))) (zeros_bytes 232) (sums_are (sums_of (front ++ zeros 232))))));
    }

header_is_sector : (h : SealedHeader) → IsSector (sealed_header_bytes h)
unfolding sealed_header_bytes
header_is_sector h = record { size = length_sector (header_numbers h) (omega arith); bytes = sector_are (header_numbers h) }

gate_is_sector : (n : ℕ) → IsSector (numbered_gate_bytes n)
unfolding numbered_gate_bytes
gate_is_sector n = record { size = length_words (replicate 64 n); bytes = words_are (replicate 64 n) }

zeros_sector : IsSector (zeros 512)
zeros_sector = record { size = length-zeros 512; bytes = zeros_bytes 512 }

-- ---- all sectors

either : (P : List ℕ → Type 0) (b : Bool) (x y : List ℕ) → P x → P y → P (if b then x else y)
either P true x y px py = px
either P false x y px py = py

-- what holds of each kind of sector holds of each
abbrev pub last_of : ℕ → List ℕ
last_of i = if nat_lt i 408 then zeros 512 else []

pub all_sectors : (P : List ℕ → Type 0) → ((row : List ℕ) → IsSector row → P row) → (i : ℕ) → P (last_of i) → P (example i)
all_sectors P holds i last =
    either P (i == 0) _ _ (holds _ superblock_sector) (
    either P (i == 16) _ _ (holds _ (gate_is_sector 0)) (
    either P (i == 24) _ _ (holds _ (header_is_sector (example_header 1))) (
    either P (i == 32) _ _ (holds _ (gate_is_sector 1)) (
    either P (i == 40) _ _ (holds _ (header_is_sector (example_header 2))) (
    either P (i == 48) _ _ (holds _ (gate_is_sector 2)) last)))))

pub zeros_behind : (i : ℕ) → 56 ≤ i → i < 408 → example i ≡ zeros 512
zeros_behind i ge lt = grind (arith, nat_tests)

pub nothing_behind : (i : ℕ) → 408 ≤ i → example i ≡ []
nothing_behind i ge = grind (arith, nat_tests)

last_zeros : (i : ℕ) → i < 408 → last_of i ≡ zeros 512
last_zeros i lt = ap (λ (b : Bool). if b then zeros 512 else []) (lt-ltb i 408 lt)

pub example_whole : IsWhole 408 example
example_whole = record {
  size = λ i lt. all_sectors (λ row. length row ≡ 512) (λ row is. is.size) i (ap length (last_zeros i lt) ∙ length-zeros 512);
  bytes = λ i. all_sectors AreBytes (λ row is. is.bytes) i
      (either AreBytes (nat_lt i 408) (zeros 512) [] (zeros_bytes 512) (All-nil IsByte));
  nothing_beyond = nothing_behind;
}
