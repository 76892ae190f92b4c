-- The slot of the first entry of a cluster gets the whole cluster.
use Rattle.migrator.proofs.Names.{nat_tests, place_length, ℕ, Option, Some, None, List, refl, sym, ap, subst, arith, Image, Disk, Entry, Extent, entry_at}
use Rattle.migrator.proofs.Names.{half_sector, IsInside, half_extent, found_slot, own_slot, Keeps, Unwritten, mended, IfUnwritten, slot_bytes, Touches, Result}
use Rattle.migrator.proofs.Names.{[], length, inl, inr, cases_eq, OnOk, OnErr, Elsewhere, image_of, sectors_of, elsewhere_on, OnlyNow, Shape, IsDirectory}
use Rattle.migrator.proofs.Names.{home_place, shape_of, bytes_at, sectors_from, slot_in, slot_sector, shape_bytes, Plan, IsPlan, IsApart, whole_sectors}
use Rattle.migrator.proofs.Names.{IsObject, IsWhole, alone, one_length, row, Sums, same_sectors, agrees_is, ReadsOnly, EndsInZeros, Bool, true, false}
use Rattle.migrator.proofs.Names.{place_extent, halves_within, IsFilled, IsComplete, KeepsOne, half_has, IsSlotSummed, IfSummed, none_summed, frame_sector}
use Rattle.migrator.proofs.Names.{root_of, units_in, IsClusterOf, new_bytes}
use Rattle.std.proofs.Common.{◌≡◌, ◌*◌, ◌<◌, ◌∙◌, ◌⊎◌, ◌+◌, ◌-◌, ◌≤◌}
use Rattle.migrator.proofs.PlacesApart.{mended_here, mended_elsewhere, elsewhere_within, touches_within}
use Rattle.migrator.proofs.PlacesApart.{touches_on, home_apart, reads_touch, stays, bytes_stay}
use Rattle.migrator.proofs.PlacesApart.{no_entries, sums_stay}
use Rattle.migrator.proofs.Blocks.{block_home}
use Rattle.migrator.proofs.NewFrames.{new_home, new_own}
use Rattle.migrator.proofs.NextUnits.{list_kept}

-- the slots of a half are in it
pub slots_in_half : (p : Plan) (generation : ℕ) →
    IsInside (record { sector = half_sector p generation; length = 9 * p.geometry.log })
    (half_extent p.version p.geometry (half_sector p generation))
slots_in_half p generation = let has = half_has p.version p.geometry in record { starts = omega arith; ends = omega (arith, has) }

-- ---- the cluster is written into the slot of its entry

pub half_of_slot : (p : Plan) (generation : ℕ) {slot : ℕ} → slot < p.geometry.log →
    IsInside (record { sector = slot_sector p generation slot; length = 8 }) (half_extent p.version p.geometry (half_sector p generation))
half_of_slot p generation low =
    let has = half_has p.version p.geometry in
    record { starts = omega arith; ends = omega (arith, has, low) }

-- a slot contains the cluster that was written to it
pub cluster_read : (image : Image) (u : Unwritten) → length u.bytes ≡ 4096 → sectors_from (mended image (Some u)) u.sector 8 ≡ u.bytes
cluster_read image u size =
    let eight : sectors_of u.bytes ≡ 8 = omega (arith, size) in
    subst (λ (k : ℕ). sectors_from (mended image (Some u)) u.sector k ≡ u.bytes) eight
    (whole_sectors (mended image (Some u)) u.sector u.bytes (omega (arith, size)) (λ j lt.
    let few : u.sector + j - u.sector ≡ j = omega arith in
    sym (mended_here image u (omega arith) (omega (arith, lt, size)) ∙ ap (image_of u.bytes) few)))

-- if the cluster that was written ends in zeros, so does the slot
pub zeros_written : (p : Plan) (n : ℕ) (old new : Image) (u : Unwritten) {now : Option Unwritten} → length u.bytes ≡ 4096 →
    mended new now ≡ mended old (Some u) → now ≡ None → EndsInZeros p n u.bytes → EndsInZeros p n (sectors_from new u.sector 8)
zeros_written p n old new u {now} size seen none zeros = grind (arith, nat_tests, cluster_read)

pub packed_read : (image : Image) (u : Unwritten) (p : Plan) (n : ℕ) → length u.bytes ≡ 4096 → place_length p n ≡ 8 →
    bytes_at (mended image (Some u)) u.sector p n ≡ shape_bytes (shape_of p n) u.bytes
packed_read image u p n size long =
    ap (λ (k : ℕ). shape_bytes (shape_of p n) (sectors_from (mended image (Some u)) u.sector k)) long
    ∙ ap (shape_bytes (shape_of p n)) (cluster_read image u size)

-- in version 3 the frame of a node doesn't fill its block
node_shares : (p : Plan) (n : ℕ) → (row p.version).sealed ≡ true → n < p.geometry.nodes → IsWhole (shape_of p n) → ⊥
node_shares p n sealed less whole = grind (arith, nat_tests)

module _ {p : Plan} (generation : ℕ) {es : List Entry} (i : ℕ) (fits : IsPlan p) (is : IsDirectory p.geometry es) (within : i < length es)
  where
    abbrev e : Entry
    e = entry_at es i

    own : slot_in es e.object ≡ Some e.slot
    own = own_slot es i is.rising within

    -- an entry whose frame fills its block is complete
    pub own_complete : (image : Image) → IsWhole (shape_of p e.object) → IsComplete image p generation es i
    own_complete image whole first = record {
      frames = λ n is_n same.
          let one : n ≡ e.object = alone fits is_n (is.each i (record { object = 0; slot = 0 }) within).object same whole in
          sym (new_own image p generation es n (ap (slot_in es) one ∙ own));
      seal = λ sealed n less begins same.
          let object = (is.each i (record { object = 0; slot = 0 }) within).object in
          let one : n ≡ e.object = alone fits (omega (arith, less)) object same whole in
          absurd (node_shares p n sealed less (subst (λ (k : ℕ). IsWhole (shape_of p k)) (sym one) whole));
    }

    -- an entry that follows another of the same cluster is complete
    pub later_complete : (image : Image) → (0 < i) × (home_place p (entry_at es (i - 1)).object ≡ home_place p e.object) →
        IsComplete image p generation es i
    later_complete image follows first = absurd (first (i - 1) (omega (arith, follows.0)) follows.1)

    -- the sectors of the entry's slot
    abbrev sectors : Extent
    sectors = record { sector = slot_sector p generation e.slot; length = 8 }

    slot_low : e.slot < p.geometry.log
    slot_low = (is.each i (record { object = 0; slot = 0 }) within).slot

    -- these sectors don't overlap the slots of other entries
    others_apart : {j : ℕ} (n : ℕ) → j < length es → (j ≡ i → ⊥) → IsApart (place_extent p generation (entry_at es j).slot n) sectors
    others_apart {j} n lt other = grind (arith, nat_tests)

    clusters_apart : {j : ℕ} → j < length es → (j ≡ i → ⊥) →
        IsApart (record { sector = slot_sector p generation (entry_at es j).slot; length = 8 }) sectors
    clusters_apart {j} lt other = grind (arith, nat_tests)

    module _ {image new : Image} (change : Elsewhere (slot_sector p generation e.slot) 8 image new) where
      -- other slots, and homes, don't change
      pub slot_stays : {j : ℕ} (n : ℕ) → j < length es → (j ≡ i → ⊥) → slot_bytes new p generation (entry_at es j).slot n
          ≡ slot_bytes image p generation (entry_at es j).slot n
      slot_stays {j} n lt other = bytes_stay p n (others_apart n lt other) change

      pub slot_sums : {j : ℕ} (n : ℕ) → j < length es → (j ≡ i → ⊥) → IsSlotSummed image p generation (entry_at es j).slot n →
          IsSlotSummed new p generation (entry_at es j).slot n
      slot_sums {j} n lt other = sums_stay p n (others_apart n lt other) change

      cluster_stays : {j : ℕ} → j < length es → (j ≡ i → ⊥) → sectors_from new (slot_sector p generation (entry_at es j).slot) 8
          ≡ sectors_from image (slot_sector p generation (entry_at es j).slot) 8
      cluster_stays {j} lt other =
          same_sectors (slot_sector p generation (entry_at es j).slot) 8 image new (stays (clusters_apart lt other) change)

      pub homes_stay : {n : ℕ} → IsObject p.geometry n → bytes_at new (home_place p n) p n ≡ bytes_at image (home_place p n) p n
      homes_stay {n} is_n = bytes_stay p n (home_apart generation fits is_n (half_of_slot p generation slot_low)) change

      module _ (own_same : slot_bytes new p generation e.slot e.object ≡ slot_bytes image p generation e.slot e.object) where
        -- the frame in the slot of an entry doesn't change
        entry_stays : {k : ℕ} → k < length es → slot_bytes new p generation (entry_at es k).slot (entry_at es k).object
            ≡ slot_bytes image p generation (entry_at es k).slot (entry_at es k).object
        entry_stays {k} lt = elim (cases_eq k i) [
          | inl here ↦
              subst (λ (j : ℕ). slot_bytes new p generation (entry_at es j).slot (entry_at es j).object
              ≡ slot_bytes image p generation (entry_at es j).slot (entry_at es j).object) (sym here) own_same
          | inr other ↦ slot_stays (entry_at es k).object lt other
        ]

        slot_same : (n : ℕ) {s : ℕ} → slot_in es n ≡ Some s → slot_bytes new p generation s n ≡ slot_bytes image p generation s n
        slot_same n {s} some =
            let entry = found_slot es n s some in
            subst (λ (k : ℕ). slot_bytes new p generation k n ≡ slot_bytes image p generation k n) entry.slot_is
            (subst (λ (m : ℕ). slot_bytes new p generation (entry_at es entry.index).slot m
            ≡ slot_bytes image p generation (entry_at es entry.index).slot m) entry.object_is (entry_stays entry.within))

        -- new frames don't change
        new_stays : {n : ℕ} → IsObject p.geometry n → new_bytes new p generation es n ≡ new_bytes image p generation es n
        new_stays {n} is_n = by (slot_in es n) refl where
          by : (o : Option ℕ) → slot_in es n ≡ o → new_bytes new p generation es n ≡ new_bytes image p generation es n
          by None none = new_home new p generation es n none ∙ homes_stay is_n ∙ sym (new_home image p generation es n none)
          by (Some s) some = new_own new p generation es n some ∙ slot_same n some ∙ sym (new_own image p generation es n some)

        -- complete slots stay complete
        pub complete_stays : {j : ℕ} → j < i → IsComplete image p generation es j → IsComplete new p generation es j
        complete_stays {j} less was first =
            let lt : j < length es = omega (arith, less, within) in
            let other : j ≡ i → ⊥ = λ same. omega (arith, same, less) in
            record {
              frames = λ n is_n same. slot_stays n lt other ∙ (was first).frames n is_n same ∙ sym (new_stays is_n);
              seal = λ sealed. subst (IsClusterOf p (entry_at es j).object) (sym (cluster_stays lt other)) ((was first).seal sealed);
            }

-- the shape of a cluster has no sums
node_plain : (p : Plan) (n : ℕ) → place_length p n ≡ 8 → (shape_of p n).has_sums ≡ false
node_plain p n long = grind (arith, nat_tests)

-- the block of a node has no sums
short_sums : (p : Plan) (n : ℕ) (bytes : List ℕ) → place_length p n ≡ 8 → IfSummed (shape_of p n) bytes
short_sums p n bytes long = none_summed (shape_of p n) bytes (node_plain p n long)

-- ---- the result for one entry's cluster

module _ {p : Plan} (generation : ℕ) {es : List Entry} (i : ℕ) (fits : IsPlan p) (is : IsDirectory p.geometry es) (within : i < length es)
    (long : place_length p (entry_at es i).object ≡ 8) (bytes : List ℕ) (size : length bytes ≡ 4096) where
  abbrev entry : Entry
  entry = entry_at es i

  abbrev u : Unwritten
  u = record { sector = slot_sector p generation entry.slot; bytes = bytes }

  object : IsObject p.geometry entry.object
  object = (is.each i (record { object = 0; slot = 0 }) within).object

  module _ {old new : Disk} (now : Option Unwritten) (filled : IsFilled old.seen p generation es (entry_at es i).object bytes)
      (seen : mended new.seen now ≡ mended old.seen (Some u)) (touches : Touches u.sector 8 old new)
      (either : (now ≡ None) ⊎ (now ≡ Some u)) where
    change : Elsewhere u.sector 8 old.seen (mended new.seen now)
    change = subst (Elsewhere u.sector 8 old.seen) (sym seen) (mended_elsewhere u)

    now_fits : {o : Option Unwritten} → (o ≡ None) ⊎ (o ≡ Some u) → IfUnwritten p generation es o
    now_fits {o} which = grind (arith, nat_tests)

    -- the entry's own frame is in the cluster
    own_there : slot_bytes (mended old.seen (Some u)) p generation entry.slot entry.object ≡ slot_bytes old.seen p generation entry.slot
        entry.object
    own_there = packed_read old.seen u p entry.object size long ∙ filled entry.object object refl
        ∙ new_own old.seen p generation es entry.object (own_slot es i is.rising within)

    pub kept_one : KeepsOne p generation es i old new now
    kept_one = record {
      touches = touches;
      elsewhere = change;
      own = ap (λ (image : Image). slot_bytes image p generation entry.slot entry.object) seen ∙ own_there;
      sums = λ _. short_sums p entry.object (sectors_from (mended new.seen now) u.sector (place_length p entry.object)) long;
      unwritten = now_fits either;
    }

    module _ (seal : (row p.version).sealed ≡ true → IsClusterOf p (entry_at es i).object bytes) where
      there_complete : IsComplete (mended old.seen (Some u)) p generation es i
      there_complete first = record {
        frames = λ n is_n same.
            packed_read old.seen u p n size (one_length p n entry.object fits is_n object same ∙ long) ∙ filled n is_n same
            ∙ sym (new_stays generation i fits is within (mended_elsewhere u) own_there is_n);
        seal = λ sealed. subst (IsClusterOf p entry.object) (sym (cluster_read old.seen u size)) (seal sealed);
      }

      pub one_complete : now ≡ None → IsComplete new.seen p generation es i
      one_complete none =
          subst (λ (image : Image). IsComplete image p generation es i) (sym (ap (mended new.seen) (sym none) ∙ seen)) there_complete

-- the block of a frame that doesn't fill it is a cluster of 8 sectors
cluster_length : (p : Plan) (n : ℕ) → (IsWhole (shape_of p n) → ⊥) → place_length p n ≡ 8
cluster_length p n other = grind (arith, nat_tests)

pub whole_length : (p : Plan) (n : ℕ) → IsWhole (shape_of p n) → place_length p n ≡ 8 → ⊥
whole_length p n whole long = grind (arith, nat_tests)

pub long_of : (p : Plan) (n : ℕ) {s : Shape} {test : Bool} → s ≡ shape_of p n → test ≡ false → (IsWhole s → test ≡ true) →
    place_length p n ≡ 8
long_of p n {s} {test} is fails holds = cluster_length p n (λ whole.
    let never : false ≡ true = sym fails ∙ holds (subst IsWhole (sym is) whole) in cc)

-- ---- one entry after another

-- without a call no sector changes
pub touches_none : {at n : ℕ} {disk : Disk} → OnlyNow disk → Touches at n disk disk
touches_none {at} {n} {disk} only_now = grind (arith, nat_tests)

slots_hold : (p : Plan) (generation : ℕ) {slot : ℕ} → slot < p.geometry.log →
    IsInside (record { sector = slot_sector p generation slot; length = 8 })
    (record { sector = half_sector p generation; length = 9 * p.geometry.log })
slots_hold p generation low = record { starts = omega arith; ends = omega (arith, low) }

-- after a write no cluster is unwritten, or the same one as before
pub either_of : {T E : Type 0} {o p : Option Unwritten} (result : Result T E) → OnOk result (p ≡ None) → OnErr result (p ≡ o) →
    (p ≡ None) ⊎ (p ≡ o)
either_of {T} {E} {o} {p} result none same = grind (arith, nat_tests)

-- an unwritten cluster belongs in sectors of the device
pub unwritten_inside : {p : Plan} (generation : ℕ) {es : List Entry} {o : Option Unwritten} {u : Unwritten} → IsPlan p →
    IsDirectory p.geometry es → IfUnwritten p generation es o → o ≡ Some u → u.sector + 8 ≤ p.total
unwritten_inside {p} generation {es} {o} {u} fits is has some =
    let here : IfUnwritten p generation es (Some u) = subst (IfUnwritten p generation es) some has in
    let slot = half_of_slot p generation (is.each here.index (record { object = 0; slot = 0 }) here.within).slot in
    let within = halves_within p generation fits in
    omega (arith, here.sector_is, slot.ends, within.1)

-- writing an unwritten cluster keeps the frames of all entries
pub keeps_written : {p : Plan} {generation : ℕ} {es : List Entry} {old new : Disk} {was now : Option Unwritten} → OnlyNow old →
    IsDirectory p.geometry es → IfUnwritten p generation es was → mended new.seen now ≡ mended old.seen was
    → ((u : Unwritten) → was ≡ Some u → Touches u.sector 8 old new) → (was ≡ None → new ≡ old) → (now ≡ None) ⊎ (now ≡ was) →
    Keeps p generation es old was new now
keeps_written {p} {generation} {es} {old} {new} {was} only_now is fits seen touches none either = record {
  touches = touched was refl fits;
  elsewhere = subst (Elsewhere (half_sector p generation) (9 * p.geometry.log) (mended old.seen was)) (sym seen)
      (record { before = λ i lt. refl; after = λ i le. refl });
  frames = λ i lt. ap (λ (image : Image). slot_bytes image p generation (entry_at es i).slot (entry_at es i).object) seen;
  sums = λ i lt. subst (λ (image : Image). IsSlotSummed image p generation (entry_at es i).slot (entry_at es i).object) (sym seen);
  unwritten = elim either [
    | inl empty ↦ subst (IfUnwritten p generation es) (sym empty) tt
    | inr same ↦ subst (IfUnwritten p generation es) (sym same) fits
  ];
} where
  touched : (o : Option Unwritten) → was ≡ o → IfUnwritten p generation es o →
      Touches (half_sector p generation) (9 * p.geometry.log) old new
  touched None empty fits = subst (Touches (half_sector p generation) (9 * p.geometry.log) old) (sym (none empty)) (touches_none only_now)
  touched (Some u) some fits =
      touches_within (let inside = slots_hold p generation (is.each fits.index (record { object = 0; slot = 0 }) fits.within).slot in
      record { starts = omega (arith, inside.starts, fits.sector_is); ends = omega (arith, inside.ends, fits.sector_is) }) (touches u some)

-- after the slots of i entries and of the next were completed, those of i + 1 are
pub keeps_more : {p : Plan} {generation : ℕ} {es : List Entry} {i : ℕ} {old mid new : Disk} {was now : Option Unwritten} → IsPlan p →
    IsDirectory p.geometry es → i < length es
    → Keeps p generation es old was mid None → KeepsOne p generation es i mid new now → Keeps p generation es old was new now
keeps_more {p} {generation} {es} {i} {old} {mid} {new} {was} {now} fits is within so_far one =
    let low : (entry_at es i).slot < p.geometry.log = (is.each i (record { object = 0; slot = 0 }) within).slot in
    let inside = slots_hold p generation low in
    let half : Extent = record { sector = half_sector p generation; length = 9 * p.geometry.log } in
    record {
      touches = touches_on so_far.touches (touches_within inside one.touches);
      elsewhere =
          elsewhere_on half.sector half.length (mended old.seen was) mid.seen (mended new.seen now) so_far.elsewhere
          (elsewhere_within inside one.elsewhere);
      frames = λ j lt.
          elim (cases_eq j i) [
            | inl here ↦
                subst (λ (k : ℕ). slot_bytes (mended new.seen now) p generation (entry_at es k).slot (entry_at es k).object
                ≡ slot_bytes (mended old.seen was) p generation (entry_at es k).slot (entry_at es k).object) (sym here)
                (one.own ∙ so_far.frames i within)
            | inr other ↦
                slot_stays generation i fits is within one.elsewhere (entry_at es j).object lt other ∙ so_far.frames j lt
          ];
      sums = λ j lt summed.
          elim (cases_eq j i) [
            | inl here ↦
                subst (λ (k : ℕ). IsSlotSummed (mended new.seen now) p generation (entry_at es k).slot (entry_at es k).object) (sym here)
                (one.sums (subst (λ (k : ℕ). IsSlotSummed mid.seen p generation (entry_at es k).slot (entry_at es k).object) here
                (so_far.sums j lt summed)))
            | inr other ↦
                slot_sums generation i fits is within one.elsewhere (entry_at es j).object lt other (so_far.sums j lt summed)
          ];
      unwritten = one.unwritten;
    }

-- the root of the units at home stays
pub home_stays_root : {p : Plan} {generation : ℕ} {es : List Entry} {old new : Disk} {was now : Option Unwritten} {root : Sums} → IsPlan p →
    Keeps p generation es old was new now → root ≡ root_of (units_in (mended old.seen was) p generation []) →
    root ≡ root_of (units_in (mended new.seen now) p generation [])
home_stays_root {p} {generation} {es} {old} {new} {was} {now} {root} fits keeps is =
    is ∙ ap root_of (sym (list_kept p generation generation [] [] (mended old.seen was) (mended new.seen now) (λ n lt.
    let inside = slots_in_half p generation in
    let home : frame_sector p generation [] n ≡ home_place p n = block_home p generation [] n (no_entries p [] n refl) in
    rw home (stays {d = record { sector = home_place p n; length = place_length p n }} (home_apart generation fits lt inside)
    keeps.elsewhere))))

-- reads after all slots were completed
pub keeps_read : {p : Plan} {generation : ℕ} {es : List Entry} {old mid new : Disk} {was now : Option Unwritten} → now ≡ None →
    Keeps p generation es old was mid now → ReadsOnly mid new → Keeps p generation es old was new now
keeps_read {p} {generation} {es} {old} {mid} {new} {was} {now} none keeps reads =
    let same : mended mid.seen now ≡ mended new.seen now = ap (λ (image : Image). mended image now) (sym (agrees_is new.seen mid.seen
    reads.seen)) in
    record {
      touches = touches_on keeps.touches (reads_touch reads);
      elsewhere = subst (Elsewhere (half_sector p generation) (9 * p.geometry.log) (mended old.seen was)) same keeps.elsewhere;
      frames = λ i lt. subst (λ (image : Image). slot_bytes image p generation (entry_at es i).slot (entry_at es i).object
          ≡ slot_bytes (mended old.seen was) p generation (entry_at es i).slot (entry_at es i).object) same (keeps.frames i lt);
      sums = λ i lt summed. subst (λ (image : Image). IsSlotSummed image p generation (entry_at es i).slot (entry_at es i).object) same
          (keeps.sums i lt summed);
      unwritten = keeps.unwritten;
    }
