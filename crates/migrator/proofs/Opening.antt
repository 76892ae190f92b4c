-- Opening a device: its reads, and the frames that they find.
use Rattle.migrator.proofs.Names.{nat_tests, ℕ, Err, List, [], refl, sym, subst, inl, inr, arith, range_with_len, cases_lt, map-range_with_len_more, Frame}
use Rattle.migrator.proofs.Names.{Image, Disk, Only, agrees_is, leaves_weaker, Entry, CheckpointHeader, HasPlan, HasHeader, HasDirectory, Encodes, count_of}
use Rattle.migrator.proofs.Names.{IsSpelt, AreSpelt, frame_read, frames_read, state_in, Plan, denotes, ReadsOnly, OpenFault, IsBadAt, IsBadFor, LeavesState}
use Rattle.migrator.proofs.Names.{length, length-map-range_with_len, Stays, Option, Some, None, ap, option_map, frame_at, Place, Whole, place_at, slot_of}
use Rattle.migrator.proofs.Names.{put_or, put_of, ArePut, Geometry, Failed, Agrees, Counts, IsFrameOf, one_frame, CountsOpen, IsRefused, Holds, Books}
use Rattle.migrator.proofs.Names.{DurableState, frozen_generation, working_generation, below_at, frozen_put, frozen_of, newest, IsRunning, stored_in}
use Rattle.migrator.proofs.Names.{saved_state, IsIntact, ReadsStore, IsDurable, frame_in, sectors_from, Result, append-nil, IfErr, BadImage, entry_at}
use Rattle.migrator.proofs.Names.{AreRising, IsTooSmall, total_in, slot_in, IsPlan, superblock_bytes, own_slot, rising_to, no_slot, total_reported}
use Rattle.migrator.proofs.Names.{HasNoPlan, IsUnplanned, take, replicate, length-replicate, length_read, Nowhere, Absent, IsSoundOn, IsRead, OpensDurable}
use Rattle.migrator.proofs.Names.{OnlyReads, first_books, SealedHeader, Sums, row, true, false, with_sums, no_sums, HasUnits, plain_to, IsPlanRefused}
use Rattle.std.specs.Prelude.{map}
use Rattle.std.proofs.Common.{◌≡◌, ◌+◌, ◌<◌, ◌∷◌, ◌++◌, ◌∙◌, ◌≤◌}
use Rattle.migrator.proofs.Putting.{put_is}
use Rattle.migrator.proofs.Kept.{GoesOnSeen, goes_seen, holds}
use Rattle.migrator.proofs.PlacesApart.{reads_mended}
use Rattle.layout.specs.declared.open_fault.OpenFault.TheVariants as refusal
use Rattle.migrator.proofs.Tables.{blank_at, blank_table, tally-blank}
use Rattle.migrator.proofs.Putting.{puts_blank}

-- two reads in a row only read
pub reads_more : {a b c : Disk} → ReadsOnly a b → ReadsOnly b c → ReadsOnly a c
reads_more {a} {b} {c} first second = grind (arith, nat_tests)

-- a sync and then reads only read
pub only_reads_on : {a b c : Disk} → OnlyReads a b → ReadsOnly b c → OnlyReads a c
only_reads_on {a} {b} {c} first second = grind (arith, nat_tests)

-- without a call, the device was only read
pub reads_none : {disk : Disk} → ((c : Image) → disk.left_since disk.moment c → disk.may_leave c) → ReadsOnly disk disk
reads_none {disk} only_now = grind (arith, nat_tests)

-- the frames of the first n objects
abbrev pub frames_until : Image → Plan → ℕ → List Entry → ℕ → List Frame
frames_until image p generation es k = map (frame_read image p generation es) (range_with_len 0 k)

pub length-until : (image : Image) (p : Plan) (generation : ℕ) (es : List Entry) (k : ℕ) → length (frames_until image p generation es k) ≡ k
length-until image p generation es k = length-map-range_with_len (frame_read image p generation es) 0 k

pub frames_more : (image : Image) (p : Plan) (generation : ℕ) (es : List Entry) (k : ℕ) →
    frames_until image p generation es k ++ frame_read image p generation es k ∷ [] ≡ frames_until image p generation es (k + 1)
frames_more image p generation es k = sym (map-range_with_len_more (frame_read image p generation es) 0 k k (omega arith))

pub frames_all : (image : Image) (p : Plan) (generation : ℕ) (es : List Entry) →
    frames_until image p generation es (count_of p) ≡ frames_read image p generation es
unfolding frames_read
frames_all image p generation es = refl

pub spelt_more : (image : Image) (p : Plan) (age generation : ℕ) (es : List Entry) (k : ℕ) →
    ((n : ℕ) → n < k → IsSpelt image p age generation es n) → IsSpelt image p age generation es k
    → (n : ℕ) → n < k + 1 → IsSpelt image p age generation es n
spelt_more image p age generation es k below here n lt = elim (cases_lt n k) [
  | inl less ↦ below n less
  | inr le ↦ let same : k ≡ n = omega (arith, lt, le) in subst (IsSpelt image p age generation es) same here
]

-- ---- why an image is refused: a frame

-- if the frame of some object is malformed, the image is refused for reason 7
pub bad_frame : {image : Image} {size : ℕ} {p : Plan} {h : SealedHeader} {es : List Entry} {n : ℕ} (e : OpenFault) →
    HasPlan image size p → HasHeader image p h → HasDirectory image p h es → n < count_of p → IsBadAt image p h.header es n e →
    IsBadFor image size e
bad_frame refusal.Failed plan header directory lt is = tt
bad_frame refusal.NoMemory plan header directory lt is = tt
bad_frame {image} {size} {p} {h} {es} {n} (refusal.Bad reason) plan header directory lt is =
    rw is.0 (p, h, es, plan, header, directory, inl (n, lt, is.1))

-- a frame that is refused after other reads is refused because of its bytes in the image
pub refused_same : (p : Plan) (h : CheckpointHeader) (es : List Entry) (n : ℕ) (old new : Image) (e : OpenFault) → new ≡ old →
    IsRefused p.geometry h.age n (frame_in new p h.generation es n) e → IsBadAt old p h es n e
refused_same p h es n old new refusal.Failed same is = tt
refused_same p h es n old new refusal.NoMemory same is = tt
refused_same p h es n old new (refusal.Bad reason) same is =
    (is.0, λ f spelt. is.1 f (subst (λ (i : Image). IsFrameOf p.geometry h.age n (frame_in i p h.generation es n) f) (sym same) spelt))

-- ---- all of a device was read

-- if all is durable, each crash leaves the state that was read
pub opened_sound : (disk : Disk) {p : Plan} {h : SealedHeader} {es : List Entry} → Only disk.seen disk →
    HasPlan disk.seen disk.sectors p → HasHeader disk.seen p h → HasDirectory disk.seen p h es →
    AreSpelt disk.seen p h.header.age h.header.generation es
    → ((row p.version).sealed ≡ true → HasUnits disk.seen p h.root h.header.generation es) →
    LeavesState disk (state_in disk.seen p h.header es) h
opened_sound disk {p} {h} {es} only plan header directory spelt units c left =
    rw (agrees_is c disk.seen (only c left)) (denotes disk.seen disk.sectors p h es plan header directory spelt units, header.committed)

-- the committed header has the sums of its directory
sums_known : {image : Image} {p : Plan} {h : SealedHeader} {es : List Entry} → HasDirectory image p h es →
    h ≡ with_sums p.version h.header h.root es
sums_known {h = h} is = ap (λ (sums : Sums). record { header = h.header; root = h.root; directory = sums }) (sym is.sums)

-- without seals the root is zeros
root_known : {image : Image} {p : Plan} {h : SealedHeader} → HasHeader image p h → (row p.version).sealed ≡ false → h.root ≡ no_sums
root_known {image} {p} {h} is unsealed = (plain_to p.version unsealed image h is.committed).sums.root

-- ---- frames with a valid encoding are read, and never refused

-- a frame read from unchanged bytes is the one that they encode
pub read_is : {g : Geometry} {age n : ℕ} (bytes : Image → List ℕ) {old mid : Image} {f read : Frame} → Agrees mid old →
    IsFrameOf g age n (bytes old) f → IsFrameOf g age n (bytes mid) read → read ≡ f
read_is {g} {age} {n} bytes {old} {mid} {f} {read} same is found =
    one_frame g age n (bytes old) read f (subst (λ (i : Image). IsFrameOf g age n (bytes i) read) (agrees_is mid old same) found) is

pub only_failed : {g : Geometry} {age n : ℕ} (bytes : Image → List ℕ) {old mid : Image} {f : Frame} → Agrees mid old →
    IsFrameOf g age n (bytes old) f → (e : OpenFault) → IsRefused g age n (bytes mid) e → e ≡ refusal.Failed
only_failed {g} {age} {n} bytes {old} {mid} {f} same is e refused = grind (arith, nat_tests, agrees_is)

-- a failure that is passed on is counted exactly if the device failed
pub failure_counts : {T U : Type 0} {old new : Disk} {e : OpenFault} {failed : Failed} → e ≡ refusal.Failed →
    CountsOpen {T = T} old new (Err e) → Counts {T = U} {E = Failed} old new (Err failed)
failure_counts {T} {U} {old} {new} {e} {failed} is counts = grind (arith, nat_tests)

module _ (old new : Disk) (b : Books) (reads : ReadsOnly old new) where
  seen : new.seen ≡ old.seen
  seen = agrees_is new.seen old.seen reads.seen

  fetched_kept : IsIntact old.sectors old.seen b → IsIntact new.sectors new.seen b
  fetched_kept kept = subst (λ (i : Image). IsIntact new.sectors i b) (sym seen)
      (subst (λ (k : ℕ). IsIntact k old.seen b) (sym reads.size) kept)

  fetched_stored : stored_in new.seen b ≡ stored_in old.seen b
  fetched_stored = ap (λ (i : Image). stored_in i b) seen

  fetched_goes_on : GoesOnSeen old new b b
  fetched_goes_on = grind (arith, nat_tests, seen, leaves_weaker, holds)

-- a read changes nothing that is stored
pub read_stays : {old new : Disk} {b : Books} → ReadsOnly old new → IsDurable old b → Stays old new b b
read_stays {old} {new} {b} reads is = search (
  arith,
  reads_mended b.unwritten reads,
  fetched_kept,
  fetched_stored,
  goes_seen,
  fetched_goes_on,
)

pub reads_store : {D : Type 0} {disk : D → Disk} {old now : DurableState D} {back : D} → old ≡ now →
    IsDurable (disk old.beneath) old.books → ReadsOnly (disk old.beneath) (disk back) →
    ReadsStore disk now (record { beneath = back; books = old.books })
reads_store {D} {disk} {old} {now} {back} same is reads = search (arith, read_stays reads is, same)

-- a valid frame lies in a slot of the log
pub whole_low : {image : Image} {p : Plan} {generation : ℕ} {ps : List Place} (n : ℕ) {s : ℕ} {place : Place} →
    ArePut image p generation ps → place ≡ place_at ps n → place ≡ Whole s → s < p.geometry.log
whole_low n {s} are at is = let less = are.table.few n s (ap slot_of (sym at ∙ is)) in omega (arith, less, are.few)

frozen_is : (image : Image) (b : Books) (o : Option ℕ) {n : ℕ} → n < count_of b.plan → IsRunning b o
    → frozen_put (option_map (frozen_of image b) o) n ≡ put_of image b.plan (frozen_generation b) n (place_at b.frozen n)
frozen_is image b o {n} lt running = grind (arith, nat_tests, put_is)

-- the frame below an object's working one is the frozen one or, if there is none, the saved one
pub below_by : {size : ℕ} {image : Image} {b : Books} {n : ℕ} {place : Place} → n < count_of b.plan → IsIntact size image b →
    place_at b.frozen n ≡ place → put_or (put_of image b.plan (frozen_generation b) n place) (frame_at (stored_in image b).saved.frames n)
    ≡ below_at (stored_in image b) n
below_by {size} {image} {b} {n} {place} lt kept at = grind (arith, nat_tests, frozen_is)

-- the newest frame of an object is its working one or, if there is none, the one below
pub newest_by : (image : Image) (b : Books) {n : ℕ} {place : Place} → n < count_of b.plan → place_at b.working n ≡ place
    → put_or (put_of image b.plan (working_generation b) n place) (below_at (stored_in image b) n) ≡ newest (stored_in image b) n
newest_by image b {n} {place} lt at = grind (arith, nat_tests, put_is)

-- ---- the superblock

one_sector : (image : Image) → sectors_from image 0 1 ≡ image 0
unfolding sectors_from
one_sector image = append-nil (image 0)

pub sector_is : {old mid : Image} {bytes : List ℕ} → Agrees mid old → sectors_from mid 0 1 ≡ bytes → old 0 ≡ bytes
sector_is {mid} same is = sym (same 0) ∙ sym (one_sector mid) ∙ is

pub total_small : (image : Image) {size : ℕ} {bytes : List ℕ} → image 0 ≡ bytes → size < total_in bytes → IsTooSmall image size
total_small image {size} is lt = inr (subst (λ (b : List ℕ). size < total_in b) (sym is) lt)

pub plan_refused : (image : Image) {size : ℕ} {bytes : List ℕ} (reason : BadImage) → image 0 ≡ bytes → 5 ≤ size → total_in bytes ≤ size →
    IsPlanRefused bytes reason → HasNoPlan image size reason
plan_refused image {size} {bytes} reason is least whole refused = grind (arith, nat_tests)

pub refused_plan : {T : Type 0} (result : Result T OpenFault) (image : Image) (size : ℕ) →
    IfErr result (λ why. IsUnplanned image size why) → IfErr result (λ why. IsBadFor image size why)
refused_plan {T} result image size none = grind (arith, nat_tests)

pub plan_read : {image : Image} {size : ℕ} {bytes : List ℕ} {p : Plan} → image 0 ≡ bytes → 5 ≤ size → total_in bytes ≤ size →
    bytes ≡ superblock_bytes p → IsPlan p → HasPlan image size p
plan_read {image} {size} {bytes} {p} is least whole spelt fits = grind (arith, nat_tests, total_reported)

-- ---- finding a slot by binary search

pub found_at : (es : List Entry) {n i : ℕ} {e : Entry} → AreRising es → i < length es → e ≡ entry_at es i → e.object ≡ n →
    slot_in es n ≡ Some e.slot
found_at es {i} rising lt is same = rw (← same, is) (own_slot es i rising lt)

pub none_at : (es : List Entry) {n at : ℕ} → ((i : ℕ) → i < at → (entry_at es i).object < n) →
    ((i : ℕ) → at ≤ i → i < length es → n ≤ (entry_at es i).object) → AreRising es → (at < length es → (entry_at es at).object ≡ n → ⊥) →
    slot_in es n ≡ None
none_at es {n} {at} below above rising other = grind (arith, nat_tests, no_slot, rising_to)

pub below_more : (es : List Entry) (n middle : ℕ) → AreRising es → middle < length es → (entry_at es middle).object < n → (i : ℕ) →
    i < middle + 1 → (entry_at es i).object < n
below_more es n middle rising within less i lt = grind (arith, nat_tests, rising_to)

pub above_more : (es : List Entry) (n middle : ℕ) → AreRising es → middle < length es → n ≤ (entry_at es middle).object → (i : ℕ) →
    middle ≤ i → i < length es → n ≤ (entry_at es i).object
above_more es n middle rising within less i le lt = grind (arith, nat_tests, rising_to)

-- ---- a store over a device that was read

none_put : {image : Image} {p : Plan} {generation : ℕ} {ps : List Place} → ps ≡ replicate (count_of p) Nowhere →
    ArePut image p generation ps
none_put {image} {p} {generation} {ps} blank = grind (arith, nat_tests, length-replicate, tally-blank, blank_table, blank_at)

module _ {old new : Disk} {p : Plan} {h : SealedHeader} {es : List Entry} {fs ws : List Place} (only_reads : OnlyReads old new)
    (plan : HasPlan old.seen old.sectors p) (read : IsRead old.seen p h es)
    (frozen : fs ≡ replicate (count_of p) Nowhere) (working : ws ≡ replicate (count_of p) Nowhere) where
  same : old.seen ≡ new.seen
  same = sym (agrees_is new.seen old.seen only_reads.seen)

  plan_new : HasPlan new.seen new.sectors p
  plan_new = subst (λ (i : Image). HasPlan i new.sectors p) same (subst (λ (k : ℕ). HasPlan old.seen k p) (sym only_reads.size) plan)

  read_new : IsRead new.seen p h es
  read_new = subst (λ (i : Image). IsRead i p h es) same read

  first_kept : IsIntact new.sectors new.seen (first_books p h es fs ws)
  first_kept = record {
    readable = record {
      plan = plan.fits;
      inside = plan_new.whole;
      header = read.header.fits;
      count = read.directory.count;
      directory = read.directory.fits;
      saved = read_new.spelt;
      units = read_new.units;
      no_root = root_known read_new.header;
    };
    few = omega arith;
    moved = λ i lt. absurd (omega (arith, lt));
    frozen = none_put frozen;
    running = λ n. ap (λ (qs : List Place). place_at qs n) frozen ∙ blank_at (count_of p) n;
    working = none_put working;
  }

  first_state : Encodes old.seen old.sectors (saved_state new.seen (first_books p h es fs ws))
  first_state = rw (← same) (denotes old.seen old.sectors p h (take h.header.entries es) plan read.header read.directory read.spelt
      read.units)

  first_sound : Only new.seen new → IsSoundOn new (first_books p h es fs ws)
  first_sound only =
      subst (LeavesState new (state_in new.seen p h.header (take h.header.entries es))) (sums_known read_new.directory)
      (opened_sound new only plan_new read_new.header read_new.directory read_new.spelt read_new.units)

  first_holds : Holds old.sectors old.seen (stored_in new.seen (first_books p h es fs ws)).saved
  first_holds = holds first_state

  first_working : (stored_in new.seen (first_books p h es fs ws)).working ≡ replicate
      (length (stored_in new.seen (first_books p h es fs ws)).saved.frames) Absent
  first_working = grind (arith, nat_tests, puts_blank, seen, blank_at, length_read)

  -- the frames that were read are those saved in the store
  pub first_frames : frames_read old.seen p h.header.generation (take h.header.entries es) ≡ (stored_in new.seen
      (first_books p h es fs ws)).saved.frames
  first_frames = ap (λ (i : Image). frames_read i p h.header.generation (take h.header.entries es)) same

  pub first_durable : IsDurable new (first_books p h es fs ws)
  first_durable = record { kept = first_kept; unwritten = tt }

-- a store over a device that was read is open (`OpensDurable`)
pub first_opens : {D : Type 0} {disk : D → Disk} {device back : D} {p : Plan} {h : SealedHeader} {es : List Entry} {fs ws : List Place}
    → OnlyReads (disk device) (disk back) → HasPlan (disk device).seen (disk device).sectors p
    → IsRead (disk device).seen p h es → fs ≡ replicate (count_of p) Nowhere → ws ≡ replicate (count_of p) Nowhere →
    Only (disk back).seen (disk back) → (disk back).failures ≡ (disk device).failures →
    OpensDurable disk device (record { beneath = back; books = first_books p h es fs ws })
first_opens {D} {disk} {device} {back} {p} {h} {es} {fs} {ws} only_reads plan read frozen working only failures =
    search (arith, first_sound, holds, first_holds, first_working)
