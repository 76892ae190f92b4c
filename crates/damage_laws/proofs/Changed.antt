-- An image of which one part has been replaced.
use Rattle.damage_laws.proofs.Names.{ℕ, Bool, true, List, [], length, ap, subst, sym, inl, inr, arith, IsTrue, cases_Bool, cases_lt, le-ltb, lt-ltb, All-take}
use Rattle.damage_laws.proofs.Names.{Image, IsWhole, AreEntriesIf, Encodes, HasBadDirectory, HasDirectory, HasHeader, HasPlan, IsBadBy, SavedState, sums_if}
use Rattle.damage_laws.proofs.Names.{place_length, directory_sector, frame_sector, sectors_from, count_of, Plan, directory_length, row, BadDirectory, BadFrame}
use Rattle.damage_laws.proofs.Names.{Entry, CheckpointHeader, SealedHeader, Version, AreEntries, entries_bytes, piece, seals_of, sums_of_entries, Unit}
use Rattle.damage_laws.proofs.Names.{directory_sums, unit_of, seal_in, IsSummed, HasUnits, begins_unit, block_in, unit_bytes, unit_in, same_sectors, gate_place}
use Rattle.damage_laws.proofs.Names.{header_place, SameFrom, SameOpening, sealed_length, same_directory, same_header, IsRow, body_of, Fit, sums_of, Sums}
use Rattle.damage_laws.proofs.Names.{length_body, sums_small, IsChanged, IsInWords, OtherEntriesAreRefused, OtherUnitIsRefused, OtherWordsAreRefused}
use Rattle.damage_laws.proofs.Names.{entry_sector, seal_at, words_at, IsInBlockOf}
use Rattle.std.proofs.Common.{◌≡◌, ◌+◌, ◌-◌, ◌*◌, ◌<◌, ◌≤◌, ◌∷◌, ◌∙◌}
use Rattle.std.specs.Prelude.{if◌then◌else◌}
use Rattle.layout.specs.sealed.Directory.{directory_length as sectors_of}
use Rattle.damage_laws.proofs.Apart.{block_apart, block_behind, directory_behind}
use Rattle.damage_laws.proofs.Damage.{SameEntries, plan_too}
use Rattle.damage_laws.proofs.OneHome.{units_apart}
use Rattle.damage_laws.proofs.Places.{is_three, node_length, page_length}
use Rattle.damage_laws.proofs.Rows.{sector_row, sectors_row}
use Rattle.damage_laws.proofs.UnitLists.{one_seal, one_sector}
use Rattle.damage_laws.proofs.Units.{page_at, same_words}

pub body_is_row : (row : List ℕ) → IsRow row → IsRow (body_of row)
body_is_row row is = record {
  bytes = All-take (λ b. b < 256) (length row - 24) row is.bytes;
  whole = omega (arith, length_body row, is.whole);
  size = omega (arith, length_body row, is.size);
}

seal_fits : (row : List ℕ) → IsRow row → Fit (seal_in row)
seal_fits row is = sums_small (body_of row) (body_is_row row is)

-- the header slots lie before sector 56
opening_low : (v : Version) (k : ℕ) → (row v).sealed ≡ true → k < (row v).header_slots → (0 < header_place v k) × (header_place v k < 56)
    × (0 < gate_place v k) × (gate_place v k < 56)
opening_low v k sealed lt =
    let three = is_three v sealed in
    let slots : (row v).header_slots ≡ 3 = ap (λ (it : Version). (row it).header_slots) three in
    let step : (row v).opening_step ≡ 8 = ap (λ (it : Version). (row it).opening_step) three in
    let header : header_place v k ≡ 8 * (1 + 2 * k) = ap (λ (n : ℕ). n * (1 + 2 * k)) step in
    let gate : gate_place v k ≡ 8 * (2 + 2 * k) = ap (λ (n : ℕ). n * (2 + 2 * k)) step in
    (omega (arith, header), omega (arith, header, lt, slots), omega (arith, gate), omega (arith, gate, lt, slots))

-- ---- what stays if only sectors from 56 on differ

module _ (size : ℕ) (s : SavedState) (Here : ℕ → Type 0) (old new : Image) (is : IsChanged size s Here old new)
    (behind : (i : ℕ) → Here i → 56 ≤ i) where
  abbrev p : Plan
  p = s.plan

  abbrev was : Encodes old size s
  was = is.good.encodes

  abbrev h : SealedHeader
  h = was.commit

  low_stays : (i : ℕ) → i < 56 → new i ≡ old i
  low_stays i lt = is.elsewhere i (λ here. omega (arith, lt, behind i here))

  plan_stays : HasPlan new size p
  plan_stays = plan_too old new size p (low_stays 0 (omega arith)) was.plan

  header_stays : HasHeader new p h
  header_stays =
      let opening : SameOpening p.version old new = record {
        headers = λ k lt. low_stays (header_place p.version k) (opening_low p.version k is.good.sealed lt).1;
        gates = λ k lt. low_stays (gate_place p.version k) (opening_low p.version k is.good.sealed lt).3;
      } in
      record { committed = same_header p.version old new opening h was.header.committed; fits = was.header.fits }

  module _ (apart : (j : ℕ) → j < directory_length p.version s.header.entries → Here (directory_sector p s.header.generation + j) → ⊥) where
    directory_stays : HasDirectory new p h s.directory
    directory_stays =
        let same : SameEntries p old new s.header = λ j lt. is.elsewhere (directory_sector p s.header.generation + j) (apart j lt) in
        same_directory old new p h s.directory (subst (SameEntries p old new) (sym was.same) same) was.directory

    -- then only the units can be wrong
    pub frame_refused : (HasUnits new p h.root s.header.generation s.directory → ⊥) → IsBadBy new size BadFrame
    frame_refused wrong = (
      p,
      h,
      s.directory,
      plan_stays,
      header_stays,
      directory_stays,
      inr (
        is.good.sealed,
        λ units.
            wrong (subst (λ (g : CheckpointHeader). HasUnits new p h.root g.generation s.directory) was.same units),
      ),
    )

-- ---- one unit

module _ (size object : ℕ) (old new : Image) (s : SavedState) (lt : object < count_of s.plan)
    (is : IsChanged size s (IsInBlockOf s object) old new) where
  abbrev at : ℕ → ℕ
  at n = frame_sector s.plan s.header.generation s.directory n

  few_entries : s.header.entries ≤ s.plan.geometry.log
  few_entries = subst (λ (g : CheckpointHeader). g.entries ≤ s.plan.geometry.log) is.good.encodes.same is.good.encodes.header.fits.entries

  block_high : (i : ℕ) → IsInBlockOf s object i → 56 ≤ i
  block_high i here =
      let was = is.good.encodes in
      let low = block_behind s.plan s.header.generation s.directory was.plan.fits was.directory.fits is.good.sealed object lt in
      omega (arith, here.2, low)

  block_beside : (j : ℕ) → j < directory_length s.plan.version s.header.entries →
      IsInBlockOf s object (directory_sector s.plan s.header.generation + j) → ⊥
  block_beside j small here =
      elim (block_apart s.plan s.header.generation s.directory is.good.encodes.plan.fits is.good.encodes.directory.fits object
      s.header.entries lt few_entries) [
        | inl before ↦ omega (arith, before, here.2, here.1)
        | inr after ↦ omega (arith, after, here.2, small)
      ]

  -- the units of an image, by their objects
  abbrev part : Image → ℕ → List Unit
  part image n = if begins_unit s.plan n then unit_in image s.plan s.header.generation s.directory n ∷ [] else []

  module _ (begins : IsTrue (begins_unit s.plan object)) where
    other_block : (n : ℕ) → n < count_of s.plan → IsTrue (begins_unit s.plan n) → (n ≡ object → ⊥) →
        SameFrom (at n) (place_length s.plan n) old new
    other_block n small begins_n other k less =
        is.elsewhere (at n + k) (λ here.
        elim (units_apart s.plan s.header.generation s.directory is.good.encodes.plan.fits is.good.encodes.directory.fits is.good.sealed n
        object small lt begins_n begins other) [
          | inl before ↦ omega (arith, before, here.2, less)
          | inr after ↦ omega (arith, after, here.2, here.1)
        ])

    same_bytes : (n : ℕ) → SameFrom (at n) (place_length s.plan n) old new →
        unit_bytes new s.plan s.header.generation s.directory n ≡ unit_bytes old s.plan s.header.generation s.directory n
    same_bytes n same =
        let bytes : Image → Bool → List ℕ = λ image b.
        if b then block_in image s.plan s.header.generation s.directory n else image (at n) in
        elim (cases_lt n s.plan.geometry.nodes) [
          | inl node ↦
              ap (bytes new) (lt-ltb n s.plan.geometry.nodes node) ∙ same_sectors (at n) (place_length s.plan n) old new same
              ∙ sym (ap (bytes old) (lt-ltb n s.plan.geometry.nodes node))
          | inr page ↦
              let some = page_length s.plan is.good.sealed n page in
              let first : new (at n) ≡ old (at n) =
              subst (λ (i : ℕ). new i ≡ old i) (omega arith) (same 0 (omega (arith, some))) in
              ap (bytes new) (le-ltb n s.plan.geometry.nodes page) ∙ first ∙ sym (ap (bytes old) (le-ltb n s.plan.geometry.nodes page))
        ]

    other_part : (n : ℕ) → n < count_of s.plan → (n ≡ object → ⊥) → part new n ≡ part old n
    other_part n small other =
        let unit : Image → Unit = λ image. unit_in image s.plan s.header.generation s.directory n in
        let by : Image → Bool → List Unit = λ image b. if b then unit image ∷ [] else [] in
        elim (cases_Bool (begins_unit s.plan n)) [
          | inl begins_n ↦
              ap (by new) begins_n
              ∙ ap (λ (row : List ℕ). unit_of n (seal_in row) ∷ []) (same_bytes n (other_block n small begins_n other))
              ∙ sym (ap (by old) begins_n)
          | inr none ↦ ap (by new) none ∙ sym (ap (by old) none)
        ]

    own_part : (image : Image) → part image object ≡ unit_of object (seal_at image s object) ∷ []
    own_part image = ap (λ (b : Bool). if b then unit_in image s.plan s.header.generation s.directory object ∷ [] else []) begins

    bytes_row : (image : Image) → IsWhole size image → IsRow (unit_bytes image s.plan s.header.generation s.directory object)
    bytes_row image whole =
        let bytes : Bool → List ℕ = λ b. if b then block_in image s.plan s.header.generation s.directory object else image (at object) in
        elim (cases_lt object s.plan.geometry.nodes) [
          | inl node ↦
              let long = node_length s.plan is.good.sealed object node in
              subst IsRow (sym (ap bytes (lt-ltb object s.plan.geometry.nodes node)))
              (sectors_row size image (at object) (place_length s.plan object) (omega (arith, long)) whole)
          | inr page ↦ subst IsRow (sym (ap bytes (le-ltb object s.plan.geometry.nodes page))) (sector_row size image (at object) whole)
        ]

    same_seal : HasUnits new s.plan is.good.encodes.commit.root s.header.generation s.directory →
        seal_at new s object ≡ seal_at old s object
    same_seal units =
        one_seal (part new) (part old) (count_of s.plan) object (seal_at new s object) (seal_at old s object) lt other_part (own_part new)
        (own_part old)
        (seal_fits (unit_bytes new s.plan s.header.generation s.directory object) (bytes_row new is.device))
        (seal_fits (unit_bytes old s.plan s.header.generation s.directory object) (bytes_row old is.good.device))
        (units.root_is ∙ sym (is.good.encodes.units is.good.sealed).root_is)

    pub unit_refused : (seal_at new s object ≡ seal_at old s object → ⊥) → IsBadBy new size BadFrame
    unit_refused other =
        frame_refused size s (IsInBlockOf s object) old new is block_high block_beside (λ units. other (same_seal units))

pub other_unit : OtherUnitIsRefused
other_unit size object old new s lt begins is other = unit_refused size object old new s lt is begins other

-- ---- the words of a page

module _ (size object : ℕ) (old new : Image) (s : SavedState) (page : s.plan.geometry.nodes ≤ object) (lt : object < count_of s.plan)
    (is : IsChanged size s (IsInWords s object) old new) where
  -- the same, as a change of the block
  in_block : IsChanged size s (IsInBlockOf s object) old new
  in_block =
      let long = page_length s.plan is.good.sealed object page in
      record {
        good = is.good;
        device = is.device;
        elsewhere = λ i out. is.elsewhere i (λ here. out (here.0 + 1, omega (arith, here.1, long), omega (arith, here.2)));
      }

  summed_in : (image : Image) {root : Sums} → HasUnits image s.plan root s.header.generation s.directory →
      IsSummed (sectors_from image (frame_sector s.plan s.header.generation s.directory object) 9)
  summed_in image units =
      subst (λ (n : ℕ). IsSummed (sectors_from image (frame_sector s.plan s.header.generation s.directory object) n))
      (page_length s.plan is.good.sealed object page) (units.pages object page lt)

  words_same : HasUnits new s.plan is.good.encodes.commit.root s.header.generation s.directory →
      sums_of (words_at new s object) ≡ sums_of (words_at old s object)
  words_same units =
      let start : ℕ = frame_sector s.plan s.header.generation s.directory object in
      let first = page_at size new start is.device (summed_in new units) in
      let second = page_at size old start is.good.device (summed_in old (is.good.encodes.units is.good.sealed)) in
      let fits = λ (image : Image) (whole : IsWhole size image).
      sums_small (sectors_from image (start + 1) 8) (sectors_row size image (start + 1) 8 (omega arith) whole) in
      let same : new start ≡ old start = is.elsewhere start (λ here. omega (arith, here.2)) in
      sym first.words
      ∙ same_words (new start) first.header second.header (subst Fit (sym first.words) (fits new is.device))
      (subst Fit (sym second.words) (fits old is.good.device)) first.first (same ∙ second.first)
      ∙ second.words

  pub words_refused : (sums_of (words_at new s object) ≡ sums_of (words_at old s object) → ⊥) → IsBadBy new size BadFrame
  unfolding in_block
  words_refused other =
      frame_refused size s (IsInBlockOf s object) old new in_block (block_high size object old new s lt in_block)
      (block_beside size object old new s lt in_block) (λ units. other (words_same units))

pub other_words : OtherWordsAreRefused
other_words size object old new s page lt is other = words_refused size object old new s page lt is other

-- ---- a sector of the directory

module _ (size j : ℕ) (old new : Image) (s : SavedState) (lt : j < directory_length s.plan.version s.header.entries)
    (is : IsChanged size s (λ i. i ≡ entry_sector s j) old new) where
  abbrev commit : SealedHeader
  commit = is.good.encodes.commit

  entry_high : (i : ℕ) → i ≡ entry_sector s j → 56 ≤ i
  entry_high i here =
      let was = is.good.encodes in
      let low = directory_behind s.plan s.header.generation s.directory was.plan.fits was.directory.fits is.good.sealed in
      omega (arith, here, low)

  entries_in : (image : Image) (ds : List Entry) → HasDirectory image s.plan commit ds →
      AreEntries image (directory_sector s.plan s.header.generation) ds
  entries_in image ds has =
      subst (λ (g : CheckpointHeader). AreEntries image (directory_sector s.plan g.generation) ds) is.good.encodes.same
      (subst (λ (b : Bool). AreEntriesIf b image s.plan commit.header.generation ds) is.good.sealed has.spelt)

  sums_in : (image : Image) (ds : List Entry) → HasDirectory image s.plan commit ds → sums_of_entries ds ≡ commit.directory
  sums_in image ds has = subst (λ (b : Bool). sums_if b ds ≡ commit.directory) is.good.sealed has.sums

  same_sector : (ds : List Entry) → HasDirectory new s.plan commit ds → seal_in (new (entry_sector s j)) ≡ seal_in (old (entry_sector s j))
  same_sector ds has =
      let es : List Entry = s.directory in
      let was = is.good.encodes.directory in
      let n : ℕ = sectors_of (length es) in
      let count : length ds ≡ length es = has.count ∙ sym was.count in
      let entries : length es ≡ s.header.entries = was.count ∙ ap (λ (g : CheckpointHeader). g.entries) is.good.encodes.same in
      let long = sealed_length s.plan.version s.header.entries is.good.sealed in
      let inside : j < n = omega (arith, lt, long, entries) in
      let first : (k : ℕ) → k < n → new (entry_sector s k) ≡ entries_bytes (piece ds k) = λ k less.
      entries_in new ds has k (omega (arith, less, count)) in
      let second : (k : ℕ) → k < n → old (entry_sector s k) ≡ entries_bytes (piece es k) = entries_in old es was in
      let others : (k : ℕ) → k < n → (k ≡ j → ⊥) → seal_in (entries_bytes (piece ds k)) ≡ seal_in (entries_bytes (piece es k)) =
      λ k less other. ap seal_in (sym (first k less) ∙ is.elsewhere (entry_sector s k) (λ e. other (omega (arith, e))) ∙ second k less) in
      let fit_first : Fit (seal_in (entries_bytes (piece ds j))) =
      subst (λ (row : List ℕ). Fit (seal_in row)) (first j inside)
      (seal_fits (new (entry_sector s j)) (sector_row size new (entry_sector s j) is.device)) in
      let fit_second : Fit (seal_in (entries_bytes (piece es j))) =
      subst (λ (row : List ℕ). Fit (seal_in row)) (second j inside)
      (seal_fits (old (entry_sector s j)) (sector_row size old (entry_sector s j) is.good.device)) in
      let sums = ap (λ (m : ℕ). directory_sums (seals_of ds (sectors_of m))) (sym count) ∙ sums_in new ds has ∙ sym (sums_in old es was) in
      ap seal_in (first j inside) ∙ one_sector ds es j n inside others fit_first fit_second sums ∙ sym (ap seal_in (second j inside))

  pub entries_refused : (seal_in (new (entry_sector s j)) ≡ seal_in (old (entry_sector s j)) → ⊥) → IsBadBy new size BadDirectory
  entries_refused other =
      let none : HasBadDirectory new s.plan commit = λ ds has. other (same_sector ds has) in (
        s.plan,
        commit,
        plan_stays size s (λ i. i ≡ entry_sector s j) old new is entry_high,
        header_stays size s (λ i. i ≡ entry_sector s j) old new is entry_high,
        none,
      )

pub other_entries : OtherEntriesAreRefused
other_entries size j old new s lt is other = entries_refused size j old new s lt is other
