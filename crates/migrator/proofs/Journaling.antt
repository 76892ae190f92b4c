-- One object is saved with a new frame. The frame lies in the half of the log that the saved generation used. It is the one entry of the
-- generation after the next.
use Rattle.migrator.proofs.Names.{nat_tests, IsIdle, MayReplace, Stays, ℕ, Option, Some, None, List, [], length, get_or, set, refl, sym, ap, subst, arith}
use Rattle.migrator.proofs.Names.{option_map, get_or_past, get_or_default, Frame, ObjectHeader, Geometry, frame_at, IsKeepable, AreKeptWords, Image, Disk}
use Rattle.migrator.proofs.Names.{Entry, Extent, IsDirectory, entry_at, IsFrameOf, page_frame_bytes, frame_from, IsHeader, frame_in, frame_slot_in, slot_sector}
use Rattle.migrator.proofs.Names.{half_sector, shaped_at, bytes_at, count_of, frames_read, AreSpelt, Plan, IsPlan, IsInside, half_extent, slot_behind}
use Rattle.migrator.proofs.Names.{slot_here, own_frame_slot, slot_bytes, length_read, read_at, spelt_same, spelt_at, bytes_spelt, Shape, home_place, shape_of}
use Rattle.migrator.proofs.Names.{WritesAt, slot_extent, directory_extent, slots_inside, most, with_words, Books, IsDurable, frozen_generation}
use Rattle.migrator.proofs.Names.{working_generation, FrozenPuts, journaled, replaced, stored_in, stored_on, IsIntact, replaced_header, on_snapshots}
use Rattle.migrator.proofs.Names.{first_bytes, first_frame, frame_bytes, beside_frame_slot, alone, IsHeaderAt, MayAdopt, SparesKept, adopted, mended}
use Rattle.migrator.proofs.Names.{MayJournal, directories_inside, one_more, IsSpelt, cases_eq, inl, inr, Bool, true, false, row, Sums, HasUnits, IsSlotSummed}
use Rattle.migrator.proofs.Names.{ReadsOnly, agrees_is, slot_beside, beside_here, sealed_frame_slot, found_beside, root_of, units_in, IsNextRoot}
use Rattle.std.proofs.Common.{◌≡◌, ◌+◌, ◌%◌, ◌^◌, ◌<◌, ◌≤◌, ◌∷◌, ◌∙◌}
use Rattle.std.specs.Prelude.{◌==◌}
use Rattle.migrator.proofs.NextUnits.{home_root, next_units}
use Rattle.migrator.proofs.Opening.{read_stays}
use Rattle.model.specs.declared.object.Content.TheVariants as content
use Rattle.model.specs.declared.object.Role.TheVariants as role
use Rattle.migrator.proofs.PlacesApart.{touches, at_home, in_frame_slot, spares_log, none_beside, page_own, no_entries}
use Rattle.migrator.proofs.PlacesApart.{mended_disk, writes_mended}
use Rattle.migrator.proofs.Kept.{nowhere_frozen, puts_same, map_set, stored_stays, kept_on, goes_seen, goes_spared}
use Rattle.migrator.proofs.Publishing.{after_same, idle_kept, idle_stored, keepable_later, may_adopt_idle, slot_same, sums_same, with_header}
use Rattle.migrator.proofs.Putting.{half_spares, homes_spare, idle_half, none_spares}

-- ---- a page with other words

words_keepable : {g : Geometry} {age n : ℕ} {f : Frame} {words : List ℕ} → f.header.role ≡ role.Page → AreKeptWords 512 words →
    IsKeepable g age n f → IsKeepable g age n (with_words words f)
words_keepable {g} {age} {n} {f} {words} page fits is = grind (arith, nat_tests)

pub words_fit : {words : List ℕ} → length words ≡ 512 → ((i : ℕ) → get_or words i 0 < 2 ^ 64) → AreKeptWords 512 words
words_fit {words} count fits = record {
  count_is = count;
  each = λ i d lt. subst (λ (word : ℕ). word < 2 ^ 64)
      (sym (get_or_default words i d 0 lt)) (fits i);
}

-- a frame with the role of a page has a page's number
page_number : {g : Geometry} {age n : ℕ} {f : Frame} → f.header.role ≡ role.Page → IsKeepable g age n f → g.nodes ≤ n
page_number {g} {age} {n} {f} page is = grind (arith, nat_tests)

-- the sectors of a page, once written, encode its frame
page_spelt : (p : Plan) {age n : ℕ} (image : Image) (at : ℕ) {f : Frame} → p.geometry.nodes ≤ n → IsKeepable p.geometry age n f →
    bytes_at image at p n ≡ page_frame_bytes f → IsFrameOf p.geometry age n (bytes_at image at p n) f
page_spelt p {age} {n} image at {f} le is written =
    let spelt : page_frame_bytes f ≡ frame_bytes p.geometry n f = grind (arith, nat_tests) in
    (is, written ∙ spelt)

-- ---- if all saved objects are home

module _ {size : ℕ} {image : Image} {b : Books} (kept : IsIntact size image b) (home : b.header.entries ≡ 0) where
  none_saved : (n : ℕ) → frame_slot_in b.plan b.directory n ≡ None
  none_saved n = no_entries b.plan b.directory n (kept.count ∙ home)

  -- the saved frame of each object is at home
  pub lies_home : (n : ℕ) → frame_in image b.plan b.header.generation b.directory n ≡ bytes_at image (home_place b.plan n) b.plan n
  lies_home n = at_home image b.plan b.header.generation b.directory n (none_saved n)

  pub saved_read : {n : ℕ} → n < count_of b.plan → frame_at (frames_read image b.plan b.header.generation b.directory) n
      ≡ frame_from b.plan.geometry n (bytes_at image (home_place b.plan n) b.plan n)
  saved_read {n} lt = read_at image b.plan b.header.generation b.directory n lt ∙ ap (frame_from b.plan.geometry n) (lies_home n)

  -- if a saved frame has the role of a page, its number is an object's
  page_known : {n : ℕ} → (frame_at (frames_read image b.plan b.header.generation b.directory) n).header.role ≡ role.Page →
      n < count_of b.plan
  page_known {n} page = grind (arith, nat_tests, get_or_past, length_read)

  saved_keepable : {n : ℕ} → n < count_of b.plan →
      IsKeepable b.plan.geometry b.header.age n (frame_at (frames_read image b.plan b.header.generation b.directory) n)
  saved_keepable {n} lt = rw (read_at image b.plan b.header.generation b.directory n lt) (kept.saved n lt).0

  -- if a saved frame has the role of a page, its number is a page's
  pub saved_page : {n : ℕ} → (frame_at (frames_read image b.plan b.header.generation b.directory) n).header.role ≡ role.Page →
      b.plan.geometry.nodes ≤ n
  saved_page {n} page = page_number page (saved_keepable (page_known page))

-- the header read from an object's home is the saved one
pub header_read : {old : Image} {size : ℕ} (new : Image) {b : Books} → IsIntact size old b → b.header.entries ≡ 0 →
    {n at : ℕ} {shape : Shape} → n < count_of b.plan → at ≡ home_place b.plan n → shape ≡ shape_of b.plan n
    → (bytes_at new (home_place b.plan n) b.plan n ≡ bytes_at old (home_place b.plan n) b.plan n) → {header : ObjectHeader} →
    IsHeaderAt new at shape header → header ≡ (frame_at (stored_in old b).saved.frames n).header
header_read {old} {size} new {b} kept home {n} {at} lt place shape_is same is =
    is b.plan.geometry n ∙ ap (λ (s : Shape). (frame_from b.plan.geometry n (shaped_at new at s)).header) shape_is
    ∙ ap (λ (sector : ℕ). (frame_from b.plan.geometry n (bytes_at new sector b.plan n)).header) place
    ∙ ap (λ (bytes : List ℕ). (frame_from b.plan.geometry n bytes).header) same
    ∙ sym (ap (λ (f : Frame). f.header) (saved_read kept home lt))

-- ---- if all saved objects are home, and no checkpoint is frozen

module _ {size : ℕ} {image : Image} {b : Books} (kept : IsIntact size image b) (free : b.frozen_size ≡ None) (home : b.header.entries ≡ 0)
  where
    -- the half of the saved generation overlaps no frame that the books name
    spares_half : (g : ℕ) {e : Extent} → g % 2 ≡ b.header.generation % 2 → IsInside e
        (half_extent b.plan.version b.plan.geometry (half_sector b.plan g)) → SparesKept b e
    spares_half g {e} same inside =
        search (
          (spares_log b.header b.directory g kept.plan kept.count home inside).frames,
          homes_spare g kept inside,
          none_spares b.plan (frozen_generation b) b.frozen e (nowhere_frozen kept free),
          half_spares (working_generation b) g kept.plan (idle_half b free g same) kept.working.table kept.working.few inside,
        )

-- ---- a page is written into slot 0 of that half

module _ {old new : Disk} {b : Books} (is : IsDurable old b) (free : b.frozen_size ≡ None) (home : b.header.entries ≡ 0)
    (writes : WritesAt (slot_sector b.plan b.header.generation 0) 9 old new) where
  mended_writes : WritesAt (slot_sector b.plan b.header.generation 0) 9 (mended_disk old b.unwritten) (mended_disk new b.unwritten)
  mended_writes = writes_mended b.unwritten writes

  inside : IsInside (slot_extent b.plan b.header.generation 0) (half_extent b.plan.version b.plan.geometry
      (half_sector b.plan b.header.generation))
  inside = slots_inside b.plan b.header.generation 0 (omega (arith, is.kept.plan.geometry.least_log))

  spares : SparesKept b (slot_extent b.plan b.header.generation 0)
  spares = spares_half is.kept free home b.header.generation refl inside

  pub page_stays : Stays old new b b
  page_stays =
      let apart = spares_log b.header b.directory b.header.generation is.kept.plan is.kept.count home inside in
      search (
        subst (λ (size : ℕ). IsIntact size (mended new.seen b.unwritten) b) (sym writes.size)
            (kept_on old.sectors spares mended_writes.elsewhere is.kept),
        is.unwritten,
        stored_stays old.sectors spares mended_writes.elsewhere,
        goes_seen (goes_spared {b = b} {c = b} refl refl refl refl apart (touches mended_writes)),
      )

  -- the slot encodes the page with its new words, for each age above the saved one
  pub spelt_page : (n : ℕ) {header : ObjectHeader} {words : List ℕ} → (frame_at (stored_on old b).saved.frames n).header.role ≡ role.Page →
      header ≡ (frame_at (stored_on old b).saved.frames n).header → AreKeptWords 512 words
      → first_bytes new.seen b n ≡ page_frame_bytes
      (record { header = header; content = content.Page words }) → (age : ℕ) → b.header.age ≤ age →
      IsFrameOf b.plan.geometry age n (first_bytes new.seen b n) (with_words words (frame_at (stored_on old b).saved.frames n))
  spelt_page n {header} {words} page same fits written age le =
      let f : Frame = frame_at (stored_on old b).saved.frames n in
      let keepable : IsKeepable b.plan.geometry age n (with_words words f) =
      words_keepable page fits (keepable_later b.plan.geometry b.header.age age le
      (saved_keepable is.kept home (page_known is.kept home page))) in
      let there = subst (λ (h : ObjectHeader). first_bytes new.seen b n ≡
      page_frame_bytes (record { header = h; content = content.Page words })) same written in
      page_spelt b.plan new.seen (slot_sector b.plan b.header.generation 0) keepable.kind.0 keepable there

-- ---- the object in that slot is saved with its new frame

abbrev pub one_entry : ℕ → List Entry
one_entry n = record { object = n; slot = 0 } ∷ []

one_fits : {p : Plan} {n : ℕ} → IsPlan p → n < count_of p → IsDirectory p.geometry (record { object = n; slot = 0 } ∷ [])
one_fits {p} {n} fits lt = grind (arith, nat_tests)

header_fits : {first room age : ℕ} (b : Books) → IsHeader first room b.header → b.header.age < age → age ≤ 2 ^ 62 → 1 ≤ room →
    IsHeader first room (replaced_header age b)
header_fits {age = age} b is later most some = let more = one_more (b.header.entries == 0) in
    search (arith, is.generation, is.sequence, later, some)

none_frozen : (f g : ℕ → FrozenPuts) (o : Option ℕ) → o ≡ None → option_map f o ≡ option_map g o
none_frozen f g o is = grind (arith, nat_tests)

module _ {disk : Disk} {b : Books} {n age : ℕ} (may : MayReplace disk b n age) where
  kept : IsIntact disk.sectors disk.seen b
  kept = idle_kept (replaced_header age b) b.root (one_entry n) may.stands may.free

  -- the root of all units at home
  pub idle_root : (h : ℕ) → (row b.plan.version).sealed ≡ true → b.root ≡ root_of (units_in disk.seen b.plan h [])
  idle_root h sealed = home_root (kept.units sealed) (kept.count ∙ may.home) h

  pub idle_fits : IsDirectory b.plan.geometry (one_entry n)
  idle_fits = one_fits kept.plan may.object

  abbrev again : ℕ
  again = b.header.generation + 2

  abbrev extent : Extent
  extent = directory_extent b.plan again 1

  abbrev entry : Entry
  entry = record { object = n; slot = 0 }

  abbrev frame : Frame
  frame = first_frame disk.seen b n

  some : 1 ≤ b.plan.geometry.log
  some = omega (arith, kept.plan.geometry.least_log)

  directory_next : IsDirectory b.plan.geometry (one_entry n)
  directory_next = one_fits kept.plan may.object

  parity : again % 2 ≡ b.header.generation % 2
  parity = omega arith

  inside_half : IsInside extent (half_extent b.plan.version b.plan.geometry (half_sector b.plan again))
  inside_half = directories_inside b.plan again 1 some

  own_here : frame_slot_in b.plan (one_entry n) n ≡ Some 0
  own_here = by (row b.plan.version).sealed refl where
    by : (sealed : Bool) → (row b.plan.version).sealed ≡ sealed → frame_slot_in b.plan (one_entry n) n ≡ Some 0
    by true sealed = sealed_frame_slot b.plan (one_entry n) n sealed ∙ beside_here b.plan entry [] n refl
    by false plain = own_frame_slot b.plan (one_entry n) n plain (slot_here entry [] n refl)

  frame_here : frame_in disk.seen b.plan again (one_entry n) n ≡ first_bytes disk.seen b n
  frame_here =
      let here : slot_bytes disk.seen b.plan again 0 n ≡ first_bytes disk.seen b n = grind (arith, nat_tests) in
      in_frame_slot disk.seen b.plan again (one_entry n) n own_here ∙ here

  -- a page shares its home with no other object
  one_page : (i : ℕ) → i < 1 → {m : ℕ} → m < count_of b.plan → home_place b.plan (entry_at (one_entry n) i).object ≡ home_place b.plan m →
      n ≡ m
  one_page i few {m} within same = grind (arith, nat_tests, alone, kept, page_own)

  frame_there : {m : ℕ} → m < count_of b.plan → (n ≡ m → ⊥) → frame_in disk.seen b.plan again (one_entry n) m
      ≡ frame_in disk.seen b.plan b.header.generation b.directory m
  frame_there {m} within other =
      at_home disk.seen b.plan again (one_entry n) m (beside_frame_slot b.plan (one_entry n) m (slot_behind entry [] m other) ∙
      none_beside b.plan (one_entry n) m (λ i few same. other (one_page i few within same))) ∙ sym (lies_home kept may.home m)

  frames_next : frames_read disk.seen b.plan again (one_entry n) ≡ set (frames_read disk.seen b.plan b.header.generation b.directory) n
      frame
  unfolding frames_read
  frames_next = grind (arith, nat_tests, map_set, frame_here, frame_there)

  spelt_next : AreSpelt disk.seen b.plan age again (one_entry n)
  spelt_next m lt = elim (cases_eq n m) [
    | inl same ↦ subst (λ (k : ℕ). IsSpelt disk.seen b.plan age again (one_entry n) k) same
        (subst (λ (bytes : List ℕ). IsFrameOf b.plan.geometry age n bytes (frame_from b.plan.geometry n bytes)) (sym frame_here) may.spelt)
    | inr other ↦
        let now = spelt_same disk.seen disk.seen b.plan b.header.age again b.header.generation (one_entry n) b.directory m
        (frame_there lt other) (kept.saved m lt) in
        spelt_at disk.seen b.plan b.header.age age again (one_entry n) m now
        (keepable_later b.plan.geometry b.header.age age (omega (arith, may.later)) now.0)
  ]

  -- the page is the only object whose home has an entry
  only_page : (m s : ℕ) → m < count_of b.plan → slot_beside b.plan (one_entry n) m ≡ Some s → (n ≡ m) × (0 ≡ s)
  only_page m s lt beside =
      let found = found_beside b.plan (one_entry n) m s beside in
      let here : found.index ≡ 0 = omega (arith, found.within) in
      (one_page found.index found.within lt found.home_is, sym (ap (λ (i : ℕ). (entry_at (one_entry n) i).slot) here) ∙ found.slot_is)

  module _ {root : Sums} (next : IsNextRoot disk.seen b.plan (b.header.generation + 2) (one_entry n) b.root root) where
    abbrev books : Books
    books = with_header b (replaced_header age b) root (one_entry n)

    units_next : (row b.plan.version).sealed ≡ true → HasUnits disk.seen b.plan root again (one_entry n)
    units_next sealed =
        next_units (kept.units sealed) (kept.count ∙ may.home) again (one_entry n) sealed
        (λ m s less begins beside.
        let only = only_page m s (omega (arith, less)) beside in absurd (omega (arith, only.0, less, may.page)))
        (λ m s le lt beside.
        let only = only_page m s lt beside in
        subst (λ (k : ℕ). IsSlotSummed disk.seen b.plan again k m) only.1
        (subst (λ (k : ℕ). IsSlotSummed disk.seen b.plan again 0 k) only.0
        (sums_same disk.seen b.plan again b.header.generation parity 0 n may.summed))) (next.sealed sealed)

    replaced_stored : stored_in disk.seen books ≡ on_snapshots (replaced age n frame) (stored_in disk.seen b)
    replaced_stored = grind (arith, nat_tests, puts_same, slot_same, after_same, parity, none_frozen, frames_next)

    pub may_replace : MayAdopt disk b (replaced_header age b) root (one_entry n)
    may_replace = may_adopt_idle (replaced_header age b) root (one_entry n) may.stands may.free parity
        (header_fits b kept.header may.later may.most some) refl directory_next spelt_next
        (spares_log b.header b.directory again kept.plan kept.count may.home inside_half) units_next next.plain may.sound refl

    pub replaced_on : stored_on disk (adopted (replaced_header age b) root (one_entry n) b)
        ≡ on_snapshots (replaced age n (first_frame disk.seen b n)) (stored_on disk b)
    replaced_on = idle_stored (replaced_header age b) root (one_entry n) may.stands may.free (replaced age n frame) replaced_stored

-- reads change nothing that a page's commit needs
pub replace_read : {old mid : Disk} {b : Books} {n age : ℕ} → MayReplace old b n age → ReadsOnly old mid → MayReplace mid b n age
replace_read {old} {mid} {b} {n} {age} may reads =
    let stays = read_stays reads may.stands in
    let seen : old.seen ≡ mid.seen = sym (agrees_is mid.seen old.seen reads.seen) in
    record {
      idle = record { stands = stays.stands; free = may.free; home = may.home; sound = stays.goes_on.sound may.sound };
      object = may.object;
      page = may.page;
      spelt = subst (λ (image : Image). IsFrameOf b.plan.geometry age n (first_bytes image b n) (first_frame image b n)) seen may.spelt;
      summed = subst (λ (image : Image). IsSlotSummed image b.plan b.header.generation 0 n) seen may.summed;
      later = may.later;
      most = may.most;
    }

-- the seals are read, and then the object is saved
module _ {old mid : Disk} {b : Books} {n age : ℕ} (may : MayReplace old b n age) (reads : ReadsOnly old mid) {root : Sums}
    (next : IsNextRoot old.seen b.plan (b.header.generation + 2) (one_entry n) b.root root) where
  seen : old.seen ≡ mid.seen
  seen = sym (agrees_is mid.seen old.seen reads.seen)

  next_mid : IsNextRoot mid.seen b.plan (b.header.generation + 2) (one_entry n) b.root root
  next_mid = subst (λ (image : Image). IsNextRoot image b.plan (b.header.generation + 2) (one_entry n) b.root root) seen next

  pub may_replace_read : MayAdopt mid b (replaced_header age b) root (one_entry n)
  may_replace_read = may_replace (replace_read may reads) next_mid

  pub replaced_same : stored_on mid (adopted (replaced_header age b) root (one_entry n) b)
      ≡ on_snapshots (replaced age n (first_frame old.seen b n)) (stored_on old b)
  replaced_same =
      replaced_on (replace_read may reads) next_mid
      ∙ ap (λ (image : Image). on_snapshots (replaced age n (first_frame image b n)) (stored_on mid b)) (sym seen)
      ∙ ap (on_snapshots (replaced age n (first_frame old.seen b n))) (read_stays reads may.stands).stored

-- if there is no frozen state, no checkpoint size is recorded
pub size_none : (f : ℕ → FrozenPuts) (o : Option ℕ) → option_map f o ≡ None → o ≡ None
size_none f o is = grind (arith, nat_tests)

-- ---- the write of the page, and then the commit

module _ {old mid : Disk} {b : Books} {n age : ℕ} {words : List ℕ} (idle : IsIdle old b) (stays : Stays old mid b b)
    (may : MayJournal age n (stored_on old b).saved)
    (spelt : IsFrameOf b.plan.geometry age n (first_bytes mid.seen b n) (with_words words (frame_at (stored_on old b).saved.frames n)))
    (summed : IsSlotSummed mid.seen b.plan b.header.generation 0 n)
  where
    -- the slot encodes a frame: the page with its new words
    found : IsFrameOf b.plan.geometry age n (first_bytes mid.seen b n) (first_frame mid.seen b n)
        × (first_frame mid.seen b n ≡ with_words words (frame_at (stored_on old b).saved.frames n))
    found = bytes_spelt b.plan.geometry age n (first_bytes mid.seen b n) (with_words words (frame_at (stored_on old b).saved.frames n))
        spelt.0 spelt.1

    pub may_save_first : MayReplace mid b n age
    may_save_first = search (stays.goes_on.sound idle.sound, found.0, summed)

    pub journaled_is : on_snapshots (replaced age n (first_frame mid.seen b n)) (stored_on mid b)
        ≡ on_snapshots (journaled age n words) (stored_on old b)
    journaled_is = grind (arith, nat_tests, found)
