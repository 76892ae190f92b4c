-- The frames and units of the example are zeros.
use Rattle.damage_laws.proofs.Names.{ℕ, Bool, true, List, [], Option, None, Some, length, drop, zero, suc, ap, refl, subst, sym, inl, inr, arith, replicate}
use Rattle.damage_laws.proofs.Names.{mul-zero, cases_Bool, cases_lt, le-ltb, lt-ltb, drop-replicate, get_or-replicate, length-replicate}
use Rattle.damage_laws.proofs.Names.{replicate-append-replicate, take-replicate, All-replicate, between_is, between, flat_map, range_with_len, blank_frame}
use Rattle.damage_laws.proofs.Names.{blank_header, frame_at, IsKeepable, zero_words, number, short_number, zeros, capability_bytes, head_bytes, no_sums}
use Rattle.damage_laws.proofs.Names.{IsFrameOf, frame_bytes, front_bytes, node_frame_bytes, page_frame_bytes, slots_bytes, words_bytes, place_length}
use Rattle.damage_laws.proofs.Names.{range_with, rank_in, frame_in, frame_sector, sectors_from, node_shape, page_shape, shape_bytes, shape_length, blanked}
use Rattle.damage_laws.proofs.Names.{HomeRange, Shape, Three, IsCluster, Unit, root_of, units_total, seal_in, IsSummed, HasUnits, begins_unit, block_in}
use Rattle.damage_laws.proofs.Names.{unit_bytes, unit_in, blanked_page, page_whole, zeros_free, places_begin, places_within, IsRow, body_of, seal_of, sums_of}
use Rattle.damage_laws.proofs.Names.{Sums, row_words, zeros_sealed, one_spelling, zero_bytes, same_sums, example, example_plan, example_state}
use Rattle.std.proofs.Common.{◌≡◌, ◌+◌, ◌-◌, ◌*◌, ◌%◌, ◌^◌, ◌<◌, ◌≤◌, ◌++◌, ◌∷◌, ◌∙◌}
use Rattle.std.specs.Prelude.{if◌then◌else◌}
use Rattle.damage_laws.proofs.Changed.{body_is_row}
use Rattle.damage_laws.proofs.ExampleBytes.{zeros_behind}
use Rattle.damage_laws.proofs.ExampleParts.{example_fits}
use Rattle.damage_laws.proofs.Places.{node_length, page_length}

zeros_join : (m n : ℕ) → zeros m ++ zeros n ≡ zeros (m + n)
unfolding zeros
zeros_join m n = replicate-append-replicate m n 0

-- ---- blocks

sectors_zero : (at n : ℕ) → 56 ≤ at → at + n ≤ 408 → sectors_from example at n ≡ zeros (512 * n)
unfolding sectors_from zeros
sectors_zero at zero ge le = refl
sectors_zero at (suc n) ge le =
    let size : 512 + 512 * n ≡ 512 * suc n = omega arith in
    ap (λ (row : List ℕ). row ++ sectors_from example (at + 1) n) (zeros_behind at ge (omega (arith, le)))
    ∙ ap (λ (row : List ℕ). zeros 512 ++ row) (sectors_zero (at + 1) n (omega (arith, ge)) (omega (arith, le)))
    ∙ zeros_join 512 (512 * n) ∙ ap zeros size

abbrev at : ℕ → ℕ
at object = frame_sector example_plan 0 [] object

block_zero : (object n : ℕ) → object < 17 → place_length example_plan object ≡ n → sectors_from example (at object) n ≡ zeros (512 * n)
block_zero object n lt size =
    let begins = places_begin example_plan object example_fits lt in
    let within = places_within example_plan object example_fits lt in
    sectors_zero (at object) n (omega (arith, begins)) (omega (arith, within.1, size))

node_size : (object : ℕ) → object < 16 → place_length example_plan object ≡ 8
node_size object lt = node_length example_plan refl object lt

page_size : (object : ℕ) → 16 ≤ object → place_length example_plan object ≡ 9
page_size object le = page_length example_plan refl object le

-- ---- frames

blank_kept : (n : ℕ) → IsKeepable example_plan.geometry 0 n blank_frame
blank_kept n = record {
  kind = tt;
  kept = record {
    role = refl;
    allocations = (omega arith, omega arith);
    calls = (omega arith, omega arith);
    owner = omega arith;
    unowned = λ e. refl;
    content = tt;
  };
}

node_zero : node_frame_bytes blank_frame ≡ zeros 1024
unfolding node_frame_bytes front_bytes slots_bytes capability_bytes head_bytes number short_number zeros
node_zero = refl

number_zero : number 0 ≡ zeros 8
unfolding number zeros
number_zero = refl

words_zero : (n : ℕ) → words_bytes (replicate n 0) ≡ zeros (8 * n)
unfolding words_bytes number zeros
words_zero zero = refl
words_zero (suc n) =
    let size : 8 + 8 * n ≡ 8 * suc n = omega arith in
    ap (λ (row : List ℕ). number 0 ++ row) (words_zero n) ∙ ap (λ (row : List ℕ). row ++ zeros (8 * n)) number_zero
    ∙ zeros_join 8 (8 * n) ∙ ap zeros size

front_zero : front_bytes blank_header ≡ zeros 32
unfolding front_bytes number zeros
front_zero = refl

page_zero : page_frame_bytes blank_frame ≡ zeros 4608
unfolding page_frame_bytes zero_words
page_zero =
    ap (λ (row : List ℕ). (row ++ zeros 480) ++ words_bytes (replicate 512 0)) front_zero
    ∙ ap (λ (row : List ℕ). (zeros 32 ++ zeros 480) ++ row) (words_zero 512)
    ∙ ap (λ (row : List ℕ). row ++ zeros 4096) (zeros_join 32 480) ∙ zeros_join 512 4096

rank_small : (found : Option HomeRange) (object : ℕ) → rank_in Three found object < 5
rank_small None object = omega arith
rank_small (Some r) object = omega arith

node_bytes : (rank : ℕ) → rank < 5 → shape_bytes (node_shape Three rank) (zeros 4096) ≡ node_frame_bytes blank_frame
unfolding blanked zeros
node_bytes rank lt =
    let end : ℕ = 800 * rank + 800 in
    let size : end - 800 * rank ≡ 800 = omega arith in
    let piece : between (800 * rank) end (zeros 4096) ≡ zeros 800 =
    between_is (zeros 4096) (800 * rank) end ∙ ap (drop (800 * rank)) (take-replicate end 4096 0 (omega (arith, lt)))
    ∙ drop-replicate (800 * rank) end 0 ∙ ap zeros size in
    ap (λ (row : List ℕ). row ++ zeros 224) piece ∙ zeros_join 800 224 ∙ sym node_zero

page_bytes : shape_bytes (page_shape Three) (zeros 4608) ≡ page_frame_bytes blank_frame
unfolding zeros
page_bytes =
    page_whole (page_shape Three) (zeros 4608) (refl, refl, refl) (length-replicate {A = ℕ} 4608 0) ∙ ap (blanked true) (sym page_zero)
    ∙ blanked_page true blank_frame

frame_there : (object : ℕ) → object < 17 → frame_in example example_plan 0 [] object ≡ frame_bytes example_plan.geometry object blank_frame
frame_there object lt =
    let g = example_plan.geometry in
    let rank : ℕ = rank_in Three (range_with example_plan.ranges object) object in
    let shape : Bool → Shape = λ b. if b then node_shape Three rank else page_shape Three in
    let bytes : Bool → List ℕ = λ b. shape_bytes (shape b) (sectors_from example (at object) (shape_length (shape b))) in
    let whole : Bool → List ℕ = λ b. if b then node_frame_bytes blank_frame else page_frame_bytes blank_frame in
    elim (cases_lt object 16) [
      | inl node ↦
          ap bytes (lt-ltb object 16 node)
          ∙ ap (shape_bytes (node_shape Three rank)) (block_zero object 8 lt (node_size object node))
          ∙ node_bytes rank (rank_small (range_with example_plan.ranges object) object)
          ∙ sym (ap whole (lt-ltb object 16 node))
      | inr page ↦
          ap bytes (le-ltb object 16 page)
          ∙ ap (shape_bytes (page_shape Three)) (block_zero object 9 lt (page_size object page))
          ∙ page_bytes
          ∙ sym (ap whole (le-ltb object 16 page))
    ]

pub example_each : (object : ℕ) → object < 17 → IsFrameOf example_plan.geometry 0 object (frame_in example example_plan 0 [] object)
    (frame_at example_state.frames object)
example_each object lt =
    subst (IsFrameOf example_plan.geometry 0 object (frame_in example example_plan 0 [] object))
    (sym (get_or-replicate 17 object blank_frame blank_frame lt)) (blank_kept object, frame_there object lt)

-- ---- units

-- the seal of zeros is zeros
zero_seal : (n k : ℕ) → length {A = ℕ} (replicate n 0) - 24 ≡ k → n - k ≡ 24 → seal_of (replicate n 0) ≡ replicate 24 0
zero_seal n k start rest =
    ap (λ (m : ℕ). drop m (replicate n 0)) start ∙ drop-replicate k n 0 ∙ ap (λ (m : ℕ). replicate m 0) rest

zero_row : (n : ℕ) → n % 4 ≡ 0 → n ≤ 4096 → IsRow (replicate n 0)
zero_row n whole few = record {
  bytes = All-replicate (λ (b : ℕ). b < 256) n 0 (omega arith);
  whole = omega (arith, length-replicate {A = ℕ} n 0, whole);
  size = omega (arith, length-replicate {A = ℕ} n 0, few);
}

seal_zero : (n : ℕ) → 24 ≤ n → n % 4 ≡ 0 → n ≤ 4096 → seal_in (zeros n) ≡ no_sums
unfolding zeros
seal_zero n room whole few =
    let start : length {A = ℕ} (replicate n 0) - 24 ≡ n - 24 = ap (λ (m : ℕ). m - 24) (length-replicate {A = ℕ} n 0) in
    let seal = zero_seal n (n - 24) start (omega (arith, room)) in
    one_spelling (sums_of (body_of (replicate n 0))) no_sums
    (row_words (body_of (replicate n 0)) (body_is_row (replicate n 0) (zero_row n whole few)))
    (record { a = omega arith; b = omega arith; c = omega arith }) (sym (zeros_sealed n room) ∙ seal ∙ sym zero_bytes)

total_join : (part : Sums → ℕ) (us vs : List Unit) → units_total part (us ++ vs) ≡ units_total part us + units_total part vs
total_join part [] vs = omega arith
total_join part (u ∷ us) vs = omega (arith, total_join part us vs)

total_zero : (part : Sums → ℕ) (f : ℕ → List Unit) (from n : ℕ) → ((i : ℕ) → i < from + n → units_total part (f i) ≡ 0) →
    units_total part (flat_map f (range_with_len from n)) ≡ 0
total_zero part f from zero none = refl
total_zero part f from (suc n) none =
    omega (
      arith,
      total_join part (f from) (flat_map f (range_with_len (from + 1) n)),
      none from (omega arith),
      total_zero part f (from + 1) n (λ i lt. none i (omega (arith, lt))),
    )

unit_zero : (object : ℕ) → object < 17 → seal_in (unit_bytes example example_plan 0 [] object) ≡ no_sums
unit_zero object lt =
    let bytes : Bool → List ℕ = λ b. if b then block_in example example_plan 0 [] object else example (at object) in
    elim (cases_lt object 16) [
      | inl node ↦
          ap seal_in (ap bytes (lt-ltb object 16 node) ∙ ap (sectors_from example (at object)) (node_size object node)
          ∙ block_zero object 8 lt (node_size object node))
          ∙ seal_zero 4096 (omega arith) refl (omega arith)
      | inr page ↦
          let begins = places_begin example_plan object example_fits lt in
          let within = places_within example_plan object example_fits lt in
          let size = page_size object page in
          ap seal_in (ap bytes (le-ltb object 16 page) ∙ zeros_behind (at object) (omega (arith, begins)) (omega (arith, within.1, size)))
          ∙ seal_zero 512 (omega arith) refl (omega arith)
    ]

abbrev part_of : ℕ → List Unit
part_of object = if begins_unit example_plan object then unit_in example example_plan 0 [] object ∷ [] else []

part_zero : (part : Sums → ℕ) → part no_sums ≡ 0 → (object : ℕ) → object < 17 → units_total part (part_of object) ≡ 0
part_zero part none object lt =
    let by : Bool → List Unit = λ b. if b then unit_in example example_plan 0 [] object ∷ [] else [] in
    let seal : part (seal_in (unit_bytes example example_plan 0 [] object)) ≡ 0 = ap part (unit_zero object lt) ∙ none in
    elim (cases_Bool (begins_unit example_plan object)) [
      | inl begins ↦
          ap (λ (b : Bool). units_total part (by b)) begins
          ∙ ap (λ (n : ℕ). (2 * object + 1) * n + 0) seal ∙ ap (λ (n : ℕ). n + 0) (mul-zero (2 * object + 1))
      | inr other ↦ ap (λ (b : Bool). units_total part (by b)) other
    ]

root_zero : root_of (flat_map part_of (range_with_len 0 17)) ≡ no_sums
unfolding root_of
root_zero =
    let all = λ (part : Sums → ℕ) (none : part no_sums ≡ 0).
    ap (λ (n : ℕ). n % 2 ^ 64) (total_zero part part_of 0 17 (part_zero part none)) in
    same_sums (root_of (flat_map part_of (range_with_len 0 17))) no_sums (all (λ s. s.a) refl) (all (λ s. s.b) refl) (all (λ s. s.c) refl)

pub example_has_units : HasUnits example example_plan no_sums 0 []
example_has_units = record {
  clusters = λ object lt begins.
      subst (IsCluster _) (sym (ap (sectors_from example (at object)) (node_size object lt)
      ∙ block_zero object 8 (omega (arith, lt)) (node_size object lt))) ((zeros_free 0).1 _);
  pages = λ object le lt.
      let free = (zeros_free 0).0 in
      subst IsSummed (sym (ap (sectors_from example (at object)) (page_size object le) ∙ block_zero object 9 lt (page_size object le)))
      (record { header = _; first = free.first; words = free.words.sums });
  root_is = root_zero;
}
