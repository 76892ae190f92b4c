-- A frame is written into its slot: what the device and the books then store.
use Rattle.migrator.proofs.Names.{IfOk-from_err, nat_tests, on_ok_weaker, MayPut, PutsFrame, Stores, ℕ, Bool, true, false, Option, Some, None, Result, List}
use Rattle.migrator.proofs.Names.{length, set, refl, sym, ap, subst, arith, OnOk, OnErr, Frame, IsKeepable, Image, Disk, Failed, Extent, IsFrameOf, frame_bytes}
use Rattle.migrator.proofs.Names.{half_sector, place_length, slot_sector, count_of, IsInside, half_extent, bytes_spelt, WritesAt, place_extent, most, Keeps}
use Rattle.migrator.proofs.Names.{Books, Place, Torn, Whole, slot_of, IsDurable, IsRunning, Stored, frozen_generation, seen_by, stored_in, stored_on}
use Rattle.migrator.proofs.Names.{with_frozen, with_working, working_generation, Unwritten, mended, Put, Broken, Kept, HasFreeSlot, ArePut, puts_in, slot_bytes}
use Rattle.migrator.proofs.Names.{slot_frame, Touches, entries_of, slot_for, Counts, IsIntact, Spares, SparesKept, on_err_weaker, get_or-set_same, same_Some}
use Rattle.migrator.proofs.Names.{Err, IsErr, counts_on, IsSlotSummed}
use Rattle.std.proofs.Common.{◌≡◌, ◌⊎◌, ◌∙◌, ◌+◌, ◌<◌, ◌≤◌}
use Rattle.std.specs.Prelude.{if◌then◌else◌}
use Rattle.migrator.proofs.CompleteSlots.{keeps_written}
use Rattle.migrator.proofs.Completing.{entry_of, held_after, without, working_again, goes_after, kept_with, mid_kept, stored_after}
use Rattle.migrator.proofs.CompleteSlots.{unwritten_inside}
use Rattle.migrator.proofs.Completing.{working_sums}
use Rattle.migrator.proofs.Committing.{frozen_fits}
use Rattle.migrator.proofs.Kept.{GoesOnSeen, goes_seen, goes_spared, stored_stays, kept_on}
use Rattle.migrator.proofs.PlacesApart.{unmended, writes_mended, place_inside, spares_other, touches}
use Rattle.migrator.proofs.Putting.{frozen_working, half_spares, homes_spare, later_half, mended as mended_put, other_parity, puts_mended, puts_set}
use Rattle.migrator.proofs.Putting.{saved_working, set_twice, slot_room, slots_spare, taken_set, torn_put}
use Rattle.migrator.proofs.Publishing.{err_counts, on_err}
use Rattle.migrator.proofs.Putting.{length_puts}
use Rattle.migrator.proofs.Moving.{goes_trans}

-- ---- working frames (`since`), or frames of the frozen checkpoint

abbrev places : Bool → Books → List Place
places since b = if since then b.working else b.frozen

abbrev with_places : Bool → Books → List Place → Books
with_places since b ps = record b { working = if since then ps else b.working; frozen = if since then b.frozen else ps }

abbrev generation_of : Bool → Books → ℕ
generation_of since b = if since then working_generation b else frozen_generation b

abbrev putting : Bool → ℕ → Put → Stored → Stored
putting true n x s = with_working n x s
putting false n x s = with_frozen n x s

-- the object has a slot, or one is free
abbrev HasSlot : Bool → Books → ℕ → Type 0
HasSlot true b n = slot_for b.working n < b.plan.geometry.log
HasSlot false b n = (k : ℕ) × (b.frozen_size ≡ Some k) × (slot_for b.frozen n < k)

slot_low : (since : Bool) {size : ℕ} {image : Image} {b : Books} (n : ℕ) → IsIntact size image b → HasSlot since b n →
    slot_for (places since b) n < b.plan.geometry.log
slot_low since {size} {image} {b} n kept has = grind (arith, nat_tests)

same_places : (since : Bool) {size : ℕ} {image : Image} {b : Books} → IsIntact size image b →
    IsIntact size image (with_places since b (places since b))
same_places since {size} {image} {b} kept = grind (arith, nat_tests)

are_put : (since : Bool) {size : ℕ} {image : Image} (b : Books) (ps : List Place) → IsIntact size image (with_places since b ps) →
    ArePut image b.plan (generation_of since b) ps
are_put since {size} {image} b ps kept = grind (arith, nat_tests)

-- the place of an object changed, but its slot stayed
module _ {first : ℕ} {was : Image} {b : Books} (n : ℕ) (q : Place) (before : IsIntact first was b) where
  kept_places : (since : Bool) {size : ℕ} {image : Image} (ps : List Place) → n < length (places since b) → HasSlot since b n →
      slot_of q ≡ Some (slot_for (places since b) n) → IsIntact size image (with_places since b ps) →
      ArePut image b.plan (generation_of since b) (set (places since b) n q) →
      IsIntact size image (with_places since b (set (places since b) n q))
  kept_places true ps lt has slot kept are = search
  kept_places false ps lt has slot kept are =
      let runs : IsRunning b (Some has.0) = subst (IsRunning b) has.1 before.running in
      search (subst (IsRunning (with_places false b (set b.frozen n q))) (sym has.1)
      (runs.0, taken_set b.frozen q lt slot runs.1 has.2, runs.2))

-- setting what was written of object n changes nothing else that is stored
stored_put : (since : Bool) (image : Image) (b : Books) (ps qs : List Place) (n : ℕ) (x : Put) →
    puts_in image b.plan (generation_of since b) qs ≡ set (puts_in image b.plan (generation_of since b) ps) n x →
    stored_in image (with_places since b qs) ≡ putting since n x (stored_in image (with_places since b ps))
stored_put since image b ps qs n x same = grind (arith, nat_tests)

pub put_twice : (since : Bool) (s : Stored) (n : ℕ) (x y : Put) → putting since n y (putting since n x s) ≡ putting since n y s
put_twice since s n x y = grind (arith, nat_tests, set_twice)

-- the frame of an object is marked as torn
module _ (since : Bool) {size : ℕ} {image : Image} {b : Books} {n : ℕ} (kept : IsIntact size image b) (lt : n < count_of b.plan)
    (has : HasSlot since b n) where
  are : ArePut image b.plan (generation_of since b) (places since b)
  are = are_put since b (places since b) (same_places since kept)

  in_list : n < length (places since b)
  in_list = omega (arith, lt, are.count)

  tear_kept : IsIntact size image (with_places since b (set (places since b) n (Torn (slot_for (places since b) n))))
  tear_kept = kept_places n (Torn (slot_for (places since b) n)) kept since (places since b) in_list has refl (same_places since kept)
      (torn_put are lt (slot_low since n kept has))

  tear_stored : stored_in image (with_places since b (set (places since b) n (Torn (slot_for (places since b) n))))
      ≡ putting since n Broken (stored_in image b)
  tear_stored = grind (arith, nat_tests, stored_put, puts_set, are, slot_low)

-- no saved frame overlaps the sectors of the object's slot
saved_spares : (since : Bool) {size : ℕ} {image : Image} {b : Books} {e : Extent} → IsIntact size image b →
    IsInside e (half_extent b.plan.version b.plan.geometry (half_sector b.plan (generation_of since b))) →
    Spares b.plan b.header b.directory e
saved_spares true {b = b} kept inside = saved_working b.frozen_size kept kept.running inside
saved_spares false {b = b} kept inside =
    spares_other b.header (frozen_generation b) kept.plan kept.directory kept.header.entries (other_parity b.header.generation) inside

all_spared : (since : Bool) {size : ℕ} {image : Image} {b : Books} {n : ℕ} → IsIntact size image b → HasSlot since b n →
    n < length (places since b) → IsInside (place_extent b.plan (generation_of since b) (slot_for (places since b) n) n)
    (half_extent b.plan.version b.plan.geometry (half_sector b.plan (generation_of since b))) →
    SparesKept (with_places since b (set (places since b) n (Torn (slot_for (places since b) n))))
    (place_extent b.plan (generation_of since b) (slot_for (places since b) n) n)
all_spared true {b = b} kept has lt inside =
    search (
      (saved_spares true kept inside).frames,
      homes_spare (working_generation b) kept inside,
      frozen_working b.frozen_size kept kept.running inside,
      slots_spare b.plan (working_generation b) kept.working.table lt,
    )
all_spared false {b = b} kept has lt inside =
    search (
      (saved_spares false kept inside).frames,
      homes_spare (frozen_generation b) kept inside,
      slots_spare b.plan (frozen_generation b) kept.frozen.table lt,
      half_spares (working_generation b) (frozen_generation b) kept.plan (later_half b has.1) kept.working.table kept.working.few inside,
    )

-- a frame was written into its slot
module _ (since : Bool) {old new : Disk} {b : Books} {n : ℕ} (f : Frame) (kept : IsIntact old.sectors old.seen b) (lt : n < count_of b.plan)
    (has : HasSlot since b n)
    (writes : WritesAt (slot_sector b.plan (generation_of since b) (slot_for (places since b) n)) (place_length b.plan n) old new) where
  abbrev g : ℕ
  g = generation_of since b

  abbrev slot : ℕ
  slot = slot_for (places since b) n

  abbrev torn : Books
  torn = with_places since b (set (places since b) n (Torn slot))

  inside : IsInside (place_extent b.plan g slot n) (half_extent b.plan.version b.plan.geometry (half_sector b.plan g))
  inside = place_inside b.plan g n (slot_low since n kept has)

  spared : SparesKept torn (place_extent b.plan g slot n)
  spared = all_spared since kept has (in_list since kept lt has) inside

  stays_kept : IsIntact new.sectors new.seen torn
  stays_kept = subst (λ (size : ℕ). IsIntact size new.seen torn) (sym writes.size)
      (kept_on old.sectors spared writes.elsewhere (tear_kept since kept lt has))

  stays_stored : stored_in new.seen torn ≡ putting since n Broken (stored_in old.seen b)
  stays_stored = stored_stays old.sectors spared writes.elsewhere ∙ tear_stored since kept lt has

  module _ (keepable : IsKeepable b.plan.geometry most n f) (written : slot_bytes new.seen b.plan g slot n
      ≡ frame_bytes b.plan.geometry n f) (summed : IsSlotSummed new.seen b.plan g slot n) where
    spelt : IsFrameOf b.plan.geometry most n (slot_bytes new.seen b.plan g slot n) (slot_frame new.seen b.plan g slot n)
        × (slot_frame new.seen b.plan g slot n ≡ f)
    spelt = bytes_spelt b.plan.geometry most n (slot_bytes new.seen b.plan g slot n) f keepable written

    put_kept : IsIntact new.sectors new.seen (with_places since b (set (places since b) n (Whole slot)))
    put_kept = kept_places n (Whole slot) kept since (set (places since b) n (Torn slot)) (in_list since kept lt has) has refl stays_kept
        (mended_put (places since b) n slot (are_put since b (set (places since b) n (Torn slot)) stays_kept) lt spelt.0 summed)

    put_stored : stored_in new.seen (with_places since b (set (places since b) n (Whole slot)))
        ≡ putting since n (Kept f) (stored_in old.seen b)
    put_stored =
        stored_put since new.seen b (set (places since b) n (Torn slot)) (set (places since b) n (Whole slot)) n (Kept f)
        (puts_mended (places since b) n slot (are_put since b (set (places since b) n (Torn slot)) stays_kept) lt spelt.1)
        ∙ ap (putting since n (Kept f)) stays_stored ∙ put_twice since (stored_in old.seen b) n Broken (Kept f)

  put_goes_on : (ps : List Place) → GoesOnSeen old new b (with_places since b ps)
  put_goes_on ps = goes_spared refl refl refl refl (saved_spares since kept inside) (touches writes)

  -- after the write the invariant holds, whether or not the device failed
  put_either : {T : Type 0} (r : Result T Failed) (ps : List Place) → IsKeepable b.plan.geometry most n f →
      OnOk r (ps ≡ set (places since b) n (Whole slot)) → OnErr r (ps ≡ set (places since b) n (Torn slot)) →
      OnOk r (slot_bytes new.seen b.plan g slot n ≡ frame_bytes b.plan.geometry n f) → OnOk r (IsSlotSummed new.seen b.plan g slot n) →
      IsIntact new.sectors new.seen (with_places since b ps)
      × OnOk r (stored_in new.seen (with_places since b ps) ≡ putting since n (Kept f) (stored_in old.seen b))
      × OnErr r (stored_in new.seen (with_places since b ps) ≡ putting since n Broken (stored_in old.seen b))
  put_either {T} r ps keepable ok err written summed = grind (arith, nat_tests, put_kept, put_stored, stays_kept, stays_stored)

-- ---- working frames

module _ {old : Disk} {b : Books} {n : ℕ} (is : IsDurable old b) (lt : n < count_of b.plan)
    (has : HasFreeSlot b.plan.geometry.log (stored_on old b).working n) where
  pub working_room : slot_for b.working n < b.plan.geometry.log
  working_room = slot_room (seen_by old.seen b) b.plan (working_generation b) is.kept.working.count lt is.kept.working.table
      is.kept.working.few has

  pub working_puts : {T : Type 0} {new : Disk} {f : Frame} {r : Result T Failed} →
      WritesAt (slot_sector b.plan (working_generation b) (slot_for b.working n)) (place_length b.plan n) old new → Counts old new r →
      {ps : List Place} → IsKeepable b.plan.geometry most n f → OnOk r (ps ≡ set b.working n (Whole (slot_for b.working n)))
      → OnErr r (ps ≡ set b.working n (Torn (slot_for b.working n)))
      → OnOk r (slot_bytes new.seen b.plan (working_generation b) (slot_for b.working n) n ≡ frame_bytes b.plan.geometry n f)
      → OnOk r (IsSlotSummed new.seen b.plan (working_generation b) (slot_for b.working n) n)
      → PutsFrame old new b (record b { working = ps }) f (λ put. with_working n put (stored_on old b)) r
  working_puts {new = new} {f = f} {r = r} writes counts {ps} keepable ok err written summed =
      let wrote = writes_mended b.unwritten writes in
      let read = on_ok_weaker r (λ is_written. working_again is new.seen n working_room ∙ is_written) written in
      let sums = on_ok_weaker r (working_sums is new.seen n working_room) summed in
      let both = put_either true f is.kept lt working_room wrote r ps keepable ok err read sums in
      search (goes_seen (put_goes_on true f is.kept lt working_room wrote ps), counts)

-- ---- frames of the frozen checkpoint

module _ {old : Disk} {b : Books} {k n : ℕ} (is : IsDurable old b) (size : b.frozen_size ≡ Some k) (lt : n < count_of b.plan)
    (has : HasFreeSlot k (puts_in (seen_by old.seen b) b.plan (frozen_generation b) b.frozen) n) where
  was : IsRunning b (Some k)
  was = subst (IsRunning b) size is.kept.running

  frozen_low : slot_for b.frozen n < k
  frozen_low = slot_room (seen_by old.seen b) b.plan (frozen_generation b) is.kept.frozen.count lt is.kept.frozen.table was.1 has

  pub frozen_room : slot_for b.frozen n < b.plan.geometry.log
  frozen_room = omega (arith, frozen_low, was.2)

  -- marking a frame as torn, and writing the unwritten cluster
  module _ {new : Disk} {o : Option Unwritten} (seen : mended new.seen o ≡ mended old.seen b.unwritten)
      (touches : (u : Unwritten) → b.unwritten ≡ Some u → Touches u.sector 8 old new) (nothing : b.unwritten ≡ None → new ≡ old)
      (either : (o ≡ None) ⊎ (o ≡ b.unwritten)) (only_now : (c : Image) → old.left_since old.moment c → old.may_leave c) where
    keeps : Keeps b.plan (frozen_generation b) (entries_of b.frozen) old b.unwritten new o
    keeps = keeps_written only_now (frozen_fits is.kept) (entry_of b b.unwritten is.unwritten) seen touches nothing either

    has_slot : HasSlot false b n
    has_slot = (k, size, frozen_low)

    mid : IsIntact new.sectors (mended new.seen o) b
    mid = mid_kept is.kept size keeps

    pub torn_stores : Stores old new b (record b { frozen = set b.frozen n (Torn (slot_for b.frozen n)); unwritten = o })
        (with_frozen n Broken (stored_on old b))
    torn_stores =
        search (
          kept_with {o = o} (tear_kept false mid lt has_slot),
          held_after b (Torn (slot_for b.frozen n)) (omega (arith, lt, is.kept.frozen.count)) refl is.unwritten either,
          tear_stored false mid lt has_slot ∙ ap (with_frozen n Broken) (stored_after is.kept size keeps),
          goes_seen (goes_after is.kept size keeps {c = record b { frozen = set b.frozen n (Torn (slot_for b.frozen n)); unwritten = o }}
              refl refl refl refl),
        )

pub frozen_puts : {T : Type 0} {old new : Disk} {b : Books} {n k : ℕ} {f : Frame} {r : Result T Failed} → MayPut old b k n f →
    b.unwritten ≡ None → WritesAt (slot_sector b.plan (frozen_generation b) (slot_for b.frozen n)) (place_length b.plan n) old new →
    Counts old new r → {ps : List Place} → OnOk r (ps ≡ set b.frozen n (Whole (slot_for b.frozen n))) →
    OnErr r (ps ≡ set b.frozen n (Torn (slot_for b.frozen n)))
    → OnOk r (slot_bytes new.seen b.plan (frozen_generation b) (slot_for b.frozen n) n ≡ frame_bytes b.plan.geometry n f)
    → OnOk r (IsSlotSummed new.seen b.plan (frozen_generation b) (slot_for b.frozen n) n)
    → PutsFrame old new b (record b { frozen = ps }) f (λ put. with_frozen n put (stored_on old b)) r
frozen_puts {old = old} {new = new} {b = b} {n = n} {k = k} {f = f} {r = r} may none writes counts {ps} ok err written summed =
    let is = may.stands in
    let has : (j : ℕ) × (b.frozen_size ≡ Some j) × (slot_for b.frozen n < j) =
    (k, may.running, frozen_low is may.running may.object may.room) in
    let wrote = writes_mended b.unwritten writes in
    let read = on_ok_weaker r (λ is_written. ap (λ (image : Image). slot_bytes image b.plan (frozen_generation b) (slot_for b.frozen n) n)
    (unmended none)
    ∙ is_written) written in
    let sums = on_ok_weaker r (subst (λ (image : Image). IsSlotSummed image b.plan (frozen_generation b) (slot_for b.frozen n) n)
    (sym (unmended none))) summed in
    let both = put_either false f is.kept may.object has wrote r ps may.keepable ok err read sums in
    search (without (record b { frozen = ps }) none, goes_seen (put_goes_on false f is.kept may.object has wrote ps), counts)

-- the unwritten cluster's sectors exist on the device
pub unwritten_low : {disk : Disk} {b : Books} → IsDurable disk b → (u : Unwritten) → b.unwritten ≡ Some u → u.sector + 8 ≤ disk.sectors
unwritten_low {disk} {b} is u some =
    omega (
      arith,
      (unwritten_inside (frozen_generation b) is.kept.plan (frozen_fits is.kept) (entry_of b b.unwritten is.unwritten) some),
      is.kept.inside,
    )

-- ---- marking a frame as torn keeps its slot

torn_room : (old mid : Disk) (b c : Books) {size n : ℕ} → b.frozen_size ≡ Some size → c.frozen_size ≡ Some size →
    stored_on mid c ≡ with_frozen n Broken (stored_on old b) → n < count_of b.plan
    → HasFreeSlot size (puts_in (seen_by mid.seen c) c.plan (frozen_generation c) c.frozen) n
torn_room old mid b c {size} {n} running still torn known = grind (arith, nat_tests, length_puts, same_Some, get_or-set_same)

-- after that, the frame may be written
pub may_put_torn : {old mid : Disk} {a b : Books} {k n : ℕ} {f : Frame} → MayPut old a k n f →
    Stores old mid a b (with_frozen n Broken (stored_on old a)) → b.frozen_size ≡ Some k → MayPut mid b k n f
may_put_torn {old} {mid} {a} {b} {k} {n} {f} may torn still = grind (arith, nat_tests, torn_room)

-- if the device failed before the frame was written, the frame is marked as torn
pub puts_none : {T E U F : Type 0} {old mid : Disk} {a b : Books} (n : ℕ) {f : Frame} {e : E} {r : Result U F} →
    Stores old mid a b (with_frozen n Broken (stored_on old a)) → IsErr r → Counts {T = T} old mid (Err e)
    → PutsFrame old mid a b f (λ put. with_frozen n put (stored_on old a)) r
puts_none n {r} torn failed counts = search (IfOk-from_err, on_err r torn.stored, err_counts failed counts)

pub puts_after : {T E : Type 0} {old mid new : Disk} {a b c : Books} (n : ℕ) {f : Frame} {r : Result T E} →
    Stores old mid a b (with_frozen n Broken (stored_on old a)) → mid.failures ≡ old.failures
    → PutsFrame mid new b c f (λ put. with_frozen n put (stored_on mid b)) r →
    PutsFrame old new a c f (λ put. with_frozen n put (stored_on old a)) r
puts_after {old = old} {mid = mid} {new = new} {a = a} {b = b} {c = c} n {f} {r} torn none is = record {
  stands = is.stands;
  put = on_ok_weaker r (λ e. e ∙ ap (with_frozen n (Kept f)) torn.stored ∙ put_twice false (stored_on old a) n Broken (Kept f)) is.put;
  broken = on_err_weaker r (λ e. e ∙ ap (with_frozen n Broken) torn.stored ∙ put_twice false (stored_on old a) n Broken Broken) is.broken;
  goes_on = goes_trans old mid new a b c (ap (λ (s : Stored). s.saved) torn.stored) torn.goes_on is.goes_on;
  cause = counts_on none is.cause;
}
