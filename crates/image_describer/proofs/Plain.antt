-- The plain frames of objects, with all counts 0, stand for these objects. They are sound if the objects are.
use Rattle.image_describer.proofs.Names.{nat_tests, ℕ, nat_lt, Bool, true, false, List, [], map, length, slice_index_or, refl, sym, ap, subst, arith, All}
use Rattle.image_describer.proofs.Names.{get_or-map, length-map, All-map, All-weaker, Cap, Capability, Void, Frame, ObjectHeader, Geometry, Content, Object}
use Rattle.image_describer.proofs.Names.{blank_frame, conveyed, current_count, frame_at, header_at, headers, object_of, objects_of, void_held, AreCurrent}
use Rattle.image_describer.proofs.Names.{AreKeepable, AreKeptSlots, Follows, IsCurrent, IsKeepable, IsKeptCap, IsSoundFrames, MayBeKept, caps_in, world_at}
use Rattle.image_describer.proofs.Names.{map_content, IsSpace, object_at, fresh_cap, kind_map, mapped, sound_named, described_once, plain_frame, plain_frames}
use Rattle.image_describer.proofs.Names.{DescribedIsLaid, DescribedIsSame, plain_at}
use Rattle.std.proofs.Common.{◌≡◌, if◌then◌else◌, ◌∷◌, ◌∙◌}
use Rattle.model.specs.declared.object.Content.TheVariants as content
use Rattle.description.specs.declared.fault.BuildFault.TheVariants as fault

header_plain : (os : List Object) (n : ℕ) → header_at (headers (plain_frames os)) n ≡ (plain_frame (object_at os n)).header
header_plain os n = get_or-map (λ (f : Frame). f.header) (plain_frames os) n blank_frame ∙ ap (λ (f : Frame). f.header) (plain_at os n)

-- every allocation count is 0
no_allocations : (os : List Object) (n : ℕ) → (header_at (headers (plain_frames os)) n).allocations ≡ 0
no_allocations os n = ap (λ (h : ObjectHeader). h.allocations) (header_plain os n)

no_calls : (os : List Object) (n : ℕ) → (header_at (headers (plain_frames os)) n).calls ≡ 0
no_calls os n = ap (λ (h : ObjectHeader). h.calls) (header_plain os n)

no_count : (os : List Object) (c : Capability) → current_count (headers (plain_frames os)) c ≡ 0
no_count os c = grind (arith, nat_tests, no_allocations, no_calls)

-- each capability of plain frames conveys itself: none is stale
conveyed_plain : (os : List Object) (c : Capability) → conveyed (headers (plain_frames os)) (fresh_cap c) ≡ c
conveyed_plain os c = ap (λ (n : ℕ). if nat_lt 0 n then Void else c) (no_count os c)

module _ (hs : List ObjectHeader) (same : (c : Capability) → conveyed hs (fresh_cap c) ≡ c) where
  caps_same : (cs : List Capability) → map (conveyed hs) (map fresh_cap cs) ≡ cs
  caps_same [] = refl
  caps_same (c ∷ cs) = ap (λ (d : Capability). d ∷ map (conveyed hs) (map fresh_cap cs)) (same c)
      ∙ ap (λ (ds : List Capability). c ∷ ds) (caps_same cs)

  content_same : (c : Content Capability) → map_content (conveyed hs) (map_content fresh_cap c) ≡ c
  content_same c = grind (arith, nat_tests, caps_same)

  objects_same : (us : List Object) → map (object_of hs) (map plain_frame us) ≡ us
  objects_same [] = refl
  objects_same (u ∷ us) = grind (arith, nat_tests, objects_same us, content_same)

pub objects_plain : (os : List Object) → objects_of (plain_frames os) ≡ os
unfolding objects_of plain_frames
objects_plain os = objects_same (headers (plain_frames os)) (conveyed_plain os) os

-- The parameters: a geometry, an age and headers. If a content has an encoding, it has one with counts of 0.
module _ (g : Geometry) (age : ℕ) (hs : List ObjectHeader) where
  follows_none : (count : ℕ) (c : Capability) → Follows g age count c → Follows g age 0 c
  follows_none count c h = grind (arith, nat_tests)

  kept_either : (c : Cap) (b : Bool) → IsKeptCap g age c → IsKeptCap g age (fresh_cap (if b then Void else c.what))
  kept_either c true kept = refl
  kept_either c false kept = follows_none c.count c.what kept

  kept_plain : (c : Cap) → IsKeptCap g age c → IsKeptCap g age (fresh_cap (conveyed hs c))
  kept_plain c kept = kept_either c (nat_lt c.count (current_count hs c.what)) kept

  space_either : (c : Capability) (b : Bool) → IsSpace c → IsSpace (if b then Void else c)
  space_either c true is = tt
  space_either c false is = is

  slots_plain : (slots : List Cap) → AreKeptSlots g age slots → AreKeptSlots g age (map fresh_cap (map (conveyed hs) slots))
  slots_plain slots kept = record {
    count = length-map _ fresh_cap ∙ length-map slots (conveyed hs) ∙ kept.count;
    each = All-map (IsKeptCap g age) fresh_cap (map (conveyed hs) slots) (All-map (λ (c : Capability). IsKeptCap g age (fresh_cap c))
        (conveyed hs) slots
        (All-weaker (IsKeptCap g age) (λ (c : Cap). IsKeptCap g age (fresh_cap (conveyed hs c))) kept_plain slots kept.each));
  }

  first_plain : (registers : List Cap) → slice_index_or registers 0 void_held ≡ void_held →
      slice_index_or (map fresh_cap (map (conveyed hs) registers)) 0 void_held ≡ void_held
  first_plain registers void =
      get_or-map fresh_cap (map (conveyed hs) registers) 0 Void
      ∙ ap fresh_cap (get_or-map (conveyed hs) registers 0 void_held ∙ ap (conveyed hs) void)

  content_plain : (c : Content Cap) → MayBeKept g age c → MayBeKept g age (map_content fresh_cap (map_content (conveyed hs) c))
  content_plain c kept = grind (arith, nat_tests, slots_plain, kept_plain, space_either, first_plain)

  frame_plain : (n : ℕ) (f : Frame) → IsKeepable g age n f → IsKeepable g age n (plain_frame (object_of hs f))
  frame_plain n f keepable = grind (arith, nat_tests, mapped, kind_map, content_plain)

object_is : (fs : List Frame) (n : ℕ) → object_at (objects_of fs) n ≡ object_of (headers fs) (frame_at fs n)
unfolding objects_of
object_is fs n = get_or-map (object_of (headers fs)) fs n blank_frame

length_is : (fs : List Frame) → length (plain_frames (objects_of fs)) ≡ length fs
unfolding objects_of plain_frames
length_is fs = length-map (map (object_of (headers fs)) fs) plain_frame ∙ length-map fs (object_of (headers fs))

keepable_plain : (g : Geometry) (age : ℕ) (fs : List Frame) → AreKeepable g age fs → AreKeepable g age (plain_frames (objects_of fs))
keepable_plain g age fs keepable = record {
  count = length_is fs ∙ keepable.count;
  each = λ n inside. subst (IsKeepable g age n) (sym (plain_at _ n ∙ ap plain_frame (object_is fs n)))
      (frame_plain g age _ n _ (keepable.each n inside));
}

-- No capability's count is above its object's.
never_ahead : (hs : List ObjectHeader) (c : Content Capability) → All (IsCurrent hs) (caps_in (map_content fresh_cap c))
never_ahead hs (content.Node slots) = All-map (IsCurrent hs) fresh_cap slots (λ k d inside. omega arith)
never_ahead hs (content.Root r) = All-map (IsCurrent hs) fresh_cap (r.space ∷ []) (λ k d inside. omega arith)
never_ahead hs (content.Annex registers) = All-map (IsCurrent hs) fresh_cap registers (λ k d inside. omega arith)
never_ahead hs other = λ k d inside. absurd (omega (arith, inside))

current_plain : (os : List Object) → AreCurrent (plain_frames os)
current_plain os n = subst (λ (f : Frame). All (IsCurrent (headers (plain_frames os))) (caps_in f.content)) (sym (plain_at os n))
    (never_ahead _ _)

pub sound_plain : (g : Geometry) (age : ℕ) (fs : List Frame) → IsSoundFrames g age fs → IsSoundFrames g age (plain_frames (objects_of fs))
sound_plain g age fs sound = record {
  keepable = keepable_plain g age fs sound.keepable;
  current = current_plain _;
  sound = rw (objects_plain _) sound.sound;
}

-- The laws of descriptions of worlds.
pub described_is_same : DescribedIsSame
described_is_same g age fs gs d sound describes is =
    let same : plain_frames (objects_of fs) ≡ gs = described_once d (plain_frames (objects_of fs)) gs describes.frames is in (
      rw describes.geometry (rw describes.age (rw (← same) (sound_plain g age fs sound))),
      ap (λ (m : ℕ). world_at m gs) describes.age
          ∙ ap (λ (hs : List Frame). world_at age hs) (sym same)
          ∙ ap (λ (os : List Object). let w = record (world_at age fs) { objects = os } in w) (objects_plain (objects_of fs)),
    )

pub described_is_laid : DescribedIsLaid
described_is_laid g age fs d fault.Number sound describes wrong = absurd (wrong describes.numbers)
described_is_laid g age fs d fault.Field sound describes wrong = absurd (wrong.1 describes.fields)
described_is_laid g age fs d fault.Target sound describes wrong =
    absurd (wrong.2 (plain_frames (objects_of fs)) describes.frames (sound_named g age (plain_frames (objects_of fs))
    (sound_plain g age fs sound)))
described_is_laid g age fs d fault.NoMemory sound describes wrong = refl
described_is_laid g age fs d other sound describes wrong = absurd wrong
