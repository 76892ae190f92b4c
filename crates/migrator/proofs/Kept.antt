-- Writes that don't touch the sectors of a store's frames.
use Rattle.migrator.proofs.Names.{nat_tests, IsRunning, ℕ, refl, subst, Image, Disk, leaves_weaker, Extent, Encodes, SavedState, Books, saved_state}
use Rattle.migrator.proofs.Names.{LeavesState, GoesOnDisk, kept_of, Holds, LeavesSaved, Spares, Touches, None, List, set, arith, range_with_len, same_lists}
use Rattle.migrator.proofs.Names.{length-set, get_or-set_same, get_or-set_other, length-map-range_with_len, get_or-map-range_with_len, Elsewhere, entry_at}
use Rattle.migrator.proofs.Names.{count_of, Plan, IsPlan, IsApart, spelt_same, home_extent, one_length, Place, Nowhere, Whole, place_at, slot_bytes, put_of}
use Rattle.migrator.proofs.Names.{puts_in, ArePut, maps_same, frozen_generation, working_generation, stored_in, IsHome, IsIntact, SparesFrames, SparesKept}
use Rattle.migrator.proofs.Names.{SparesPuts, IsReadable, CheckpointHeader, Entry, Sums, committed_header, same_units, IsSlotSummed, IsFrameOf, frame_from}
use Rattle.migrator.proofs.Names.{most, sym, IsCopied, home_place, place_length}
use Rattle.std.specs.Prelude.{map}
use Rattle.std.proofs.Common.{◌≡◌, ◌<◌, ◌∙◌}
use Rattle.migrator.proofs.PlacesApart.{mended_disk, sound_spared, moments_spared, frame_stays, state_stays, bytes_stay, stays, sums_stay}

-- an image that encodes a saved state holds the frames of that state
pub holds : {size : ℕ} {c : Image} {s : SavedState} → Encodes c size s → Holds size c (kept_of s)
holds {s} is = (s, is, refl)

-- from `old` with books b to `new` with books c, the saved state stays; for disks as a read sees them
pub record GoesOnSeen (old new : Disk) (b c : Books) : Type 0 where
  pub plan : c.plan ≡ b.plan
  pub size : new.sectors ≡ old.sectors
  pub sound : LeavesState old (saved_state old.seen b) (committed_header b) → LeavesState new (saved_state new.seen c) (committed_header c)
  pub any_moment : LeavesState old (saved_state old.seen b) (committed_header b) → LeavesSaved old new (kept_of (saved_state old.seen b))

-- the same for devices on which a cluster is unwritten and in memory
pub goes_seen : {old new : Disk} {b c : Books} → GoesOnSeen (mended_disk old b.unwritten) (mended_disk new c.unwritten) b c →
    GoesOnDisk old new b c
goes_seen {old} {new} {b} {c} goes = grind (arith, nat_tests)

same_state : (image : Image) (b c : Books) → c.plan ≡ b.plan → c.header ≡ b.header → c.directory ≡ b.directory →
    saved_state image b ≡ saved_state image c
same_state image b c plan header directory = rw (plan, header, directory) refl

same_header_of : (b c : Books) → c.plan ≡ b.plan → c.header ≡ b.header → c.root ≡ b.root → c.directory ≡ b.directory →
    committed_header b ≡ committed_header c
same_header_of b c plan header root directory = rw (plan, header, root, directory) refl

pub goes_spared : {old new : Disk} {b c : Books} {e : Extent} → c.plan ≡ b.plan → c.header ≡ b.header → c.root ≡ b.root →
    c.directory ≡ b.directory →
    Spares b.plan b.header b.directory e → Touches e.sector e.length old new → GoesOnSeen old new b c
goes_spared {old} {new} {b} {c} {e} plan header root directory spares writes = record {
  plan = plan;
  size = writes.size;
  sound = λ sound. subst (LeavesState new (saved_state new.seen c)) (same_header_of b c plan header root directory)
      (subst (λ (s : SavedState). LeavesState new s (committed_header b)) (same_state new.seen b c plan header directory)
      (sound_spared spares writes (committed_header b) sound));
  any_moment = λ sound. leaves_weaker {old = old} {new = new} {P = λ x. Encodes x old.sectors (saved_state old.seen b)}
      (λ x. Holds old.sectors x (kept_of (saved_state old.seen b))) (λ x is. holds is) (moments_spared spares writes
      (committed_header b) sound);
}

-- ---- lists made number by number

-- if g differs from f only at k, where it gives x, its list is the list of f with x at k
pub map_set : {X : Type 0} (f g : ℕ → X) (n k : ℕ) (x : X) → k < n → g k ≡ x → ((i : ℕ) → i < n → (i ≡ k → ⊥) → g i ≡ f i) →
    map g (range_with_len 0 n) ≡ set (map f (range_with_len 0 n)) k x
map_set {X} f g n k x within here others =
    grind (
      arith,
      nat_tests,
      same_lists,
      length-map-range_with_len,
      length-set,
      get_or-map-range_with_len,
      get_or-set_same,
      get_or-set_other,
    )

-- ---- the frames written to a half

put_same : (new old : Image) (p : Plan) (g h n : ℕ) (place : Place) → ((s : ℕ) → place ≡ Whole s →
    slot_bytes new p g s n ≡ slot_bytes old p h s n) → put_of new p g n place ≡ put_of old p h n place
put_same new old p g h n place same = grind (arith, nat_tests)

-- if the bytes of all written frames are the same, so are the frames
pub puts_same : (p : Plan) (g h : ℕ) (ps : List Place) (old new : Image) →
    ((n s : ℕ) → n < count_of p → place_at ps n ≡ Whole s → slot_bytes new p g s n ≡ slot_bytes old p h s n) →
    puts_in new p g ps ≡ puts_in old p h ps
unfolding puts_in
puts_same p g h ps old new same = grind (arith, nat_tests, maps_same, put_same)

pub are_put_same : {p : Plan} {g h : ℕ} {ps : List Place} {old new : Image} →
    ((n s : ℕ) → n < count_of p → place_at ps n ≡ Whole s → slot_bytes new p g s n ≡ slot_bytes old p h s n)
    → ((n s : ℕ) → n < count_of p → place_at ps n ≡ Whole s → IsSlotSummed old p h s n → IsSlotSummed new p g s n) → ArePut old p h ps →
    ArePut new p g ps
are_put_same {p} {g} {h} {ps} {old} {new} same sums are = record {
  count = are.count;
  few = are.few;
  table = are.table;
  spelt = λ n s lt is. subst (λ (b : List ℕ). IsFrameOf p.geometry most n b (frame_from p.geometry n b)) (sym (same n s lt is))
      (are.spelt n s lt is);
  summed = λ n s lt is. sums n s lt is (are.summed n s lt is);
}

module _ (p : Plan) (generation : ℕ) (ps : List Place) {e : Extent} {old new : Image} (spares : SparesPuts p generation ps e)
    (change : Elsewhere e.sector e.length old new) where
  slot_stays : (n s : ℕ) → n < count_of p → place_at ps n ≡ Whole s → slot_bytes new p generation s n ≡ slot_bytes old p generation s n
  slot_stays n s lt is = bytes_stay p n (spares n s lt is) change

  pub puts_stay : puts_in new p generation ps ≡ puts_in old p generation ps
  puts_stay = puts_same p generation generation ps old new slot_stays

  pub are_put_on : ArePut old p generation ps → ArePut new p generation ps
  are_put_on are = are_put_same slot_stays (λ n s lt is. sums_stay p n (spares n s lt is) change) are

-- ---- all frames

pub stored_same : (new old : Image) (b : Books) → puts_in new b.plan (working_generation b) b.working
    ≡ puts_in old b.plan (working_generation b) b.working → puts_in new b.plan (frozen_generation b) b.frozen
    ≡ puts_in old b.plan (frozen_generation b) b.frozen → saved_state new b ≡ saved_state old b → stored_in new b ≡ stored_in old b
stored_same new old b working frozen saved = grind (arith, nat_tests)

-- if no sector of a saved state changes, it can still be read
pub readable_stays : {size : ℕ} {p : Plan} {h : CheckpointHeader} {root : Sums} {es : List Entry} {e : Extent} {old new : Image} →
    SparesFrames p h.generation es e → Elsewhere e.sector e.length old new → IsReadable size old p h root es →
    IsReadable size new p h root es
readable_stays {size} {p} {h} {root} {es} {e} {old} {new} spares change is = record {
  plan = is.plan;
  inside = is.inside;
  header = is.header;
  count = is.count;
  directory = is.directory;
  saved = λ n lt. spelt_same new old p h.age h.generation h.generation es es n (frame_stays p h.generation es e spares change n lt)
      (is.saved n lt);
  units = λ sealed. same_units old new p root h.generation es (λ n lt. stays (spares n lt) change) (is.units sealed);
  no_root = is.no_root;
}

-- if no sector of saved frames changes, the frames of a home stay, and its block
same_home : (p : Plan) {e : Extent} {old new : Image} (generation : ℕ) (es : List Entry) (o : ℕ) → SparesFrames p generation es e →
    Elsewhere e.sector e.length old new → IsPlan p → o < count_of p → IsApart (home_extent p o) e → IsCopied old old p generation es o →
    IsCopied new new p generation es o
same_home p {e} {old} {new} generation es o spares change plan fits apart is = record {
  frames = λ n is_n same.
      let long : place_length p o ≡ place_length p n = one_length p o n plan fits is_n (sym same) in
      let here : IsApart (home_extent p n) e =
      subst (λ (k : ℕ). IsApart (record { sector = home_place p n; length = k }) e) long
      (subst (λ (k : ℕ). IsApart (record { sector = k; length = place_length p o }) e) (sym same) apart) in
      bytes_stay p n here change ∙ is.frames n is_n same ∙ sym (frame_stays p generation es e spares change n is_n);
  block = λ sealed i lt. stays apart change i lt ∙ is.block sealed i lt ∙ sym (stays (spares o fits) change i lt);
}

pub home_stays : (b : Books) {e : Extent} {old new : Image} → SparesFrames b.plan b.header.generation b.directory e →
    Elsewhere e.sector e.length old new → (i : ℕ) → IsPlan b.plan → (entry_at b.directory i).object < count_of b.plan
    → IsApart (home_extent b.plan (entry_at b.directory i).object) e → IsHome old b.plan b.header.generation b.directory i →
    IsHome new b.plan b.header.generation b.directory i
home_stays b spares change i plan fits apart is =
    same_home b.plan b.header.generation b.directory (entry_at b.directory i).object spares change plan fits apart is

module _ (size : ℕ) {b : Books} {e : Extent} {old new : Image} (spares : SparesKept b e) (change : Elsewhere e.sector e.length old new)
  where
    pub stored_stays : stored_in new b ≡ stored_in old b
    stored_stays = grind (arith, nat_tests, stored_same, puts_stay, state_stays)

    object_fits : IsIntact size old b → {i : ℕ} → i < b.moved → (entry_at b.directory i).object < count_of b.plan
    object_fits kept {i} lt = (kept.directory.each i (record { object = 0; slot = 0 }) (omega (arith, lt, kept.few, kept.count))).object

    pub kept_on : IsIntact size old b → IsIntact size new b
    kept_on kept =
        let moved : (i : ℕ) → i < b.moved → IsHome new b.plan b.header.generation b.directory i =
        λ i lt. home_stays b spares.frames change i kept.plan (object_fits kept lt) (spares.homes i lt) (kept.moved i lt) in
        search (
          kept,
          readable_stays spares.frames change kept.readable,
          are_put_on b.plan (frozen_generation b) b.frozen spares.frozen change kept.frozen,
          are_put_on b.plan (working_generation b) b.working spares.working change kept.working,
        )

-- if no checkpoint is frozen, no object has a frozen frame
pub nowhere_frozen : {size : ℕ} {image : Image} {b : Books} → IsIntact size image b → b.frozen_size ≡ None → (n : ℕ) →
    place_at b.frozen n ≡ Nowhere
nowhere_frozen {b} kept idle = subst (IsRunning b) idle kept.running
