-- If counts rise, the capabilities compared with them become void, and the frames stay sound.
use Rattle.capability.proofs.Names.{ℕ, Bool, List, [], map, length, slice_set, refl, sym, ap, subst, arith, zero-add, All, enumerate_from, nat_tests}
use Rattle.capability.proofs.Names.{get_or-set_other, get_or-set_same, length-map, length-set, get_or-enumerate_from, length-enumerate_from, Cap, Capability}
use Rattle.capability.proofs.Names.{Void, Number, Page, Node, Space, Process, Start, Resume, Bank, Discrim, ObjectHeader, Geometry, Content, Object, called}
use Rattle.capability.proofs.Names.{conveyed, current_count, frames_in, given_up, header_at, held_at, objects_of, AreCurrent, AreKeepable, IsCurrent}
use Rattle.capability.proofs.Names.{IsKeepable, caps_in, free, map_content, consume, is_member, names_member, rescind, resumes, void_where, without, object_at}
use Rattle.capability.proofs.Names.{AreGivenUp, Parts, frames_of, with_header, objects_in, IsSound, ConsumeKeepsSoundFrames, RescindKeepsSoundFrames}
use Rattle.std.proofs.Common.{◌≡◌, ◌+◌, ◌^◌, ◌<◌, ◌≤◌, if◌then◌else◌, ◌∷◌, ◌∙◌}
use Rattle.std.proofs.lemmas.List.{get_or-map}
use Rattle.model.specs.declared.object.Content.TheVariants as content
use Rattle.capability.proofs.Edits.{content_agree, current_from, current_held, field_same}
use Rattle.capability.proofs.FrameLists.{length_objects, object_in, objects_by}
use Rattle.capability.proofs.Keeping.{frame_later, keepable_at, keepable_count, keepable_from, call_stays_keepable}

-- a count, with 1 added if it is raised
abbrev raised : Bool → ℕ → ℕ
raised b n = if b then n + 1 else n

void_either : (b : Bool) → Void ≡ (if b then Void else Void)
void_either b = grind (arith, nat_tests)

-- `ks` is `hs` with the counts raised that belong to the capabilities for which `goes` holds
module _ (goes : Capability → Bool) (hs ks : List ObjectHeader) (raises : (w : Capability) →
    current_count ks w ≡ raised (goes w) (current_count hs w)) where
  stale : (c : Cap) → IsCurrent hs c → conveyed ks c ≡ void_where goes (conveyed hs c)
  stale c current = grind (arith, nat_tests, void_either)

  grown : (b : Bool) (n m k : ℕ) → n ≤ m → k ≡ raised b m → n ≤ k
  grown b n m k le is = grind (arith, nat_tests)

  all_current : (cs : List Cap) → All (IsCurrent hs) cs → All (IsCurrent ks) cs
  all_current cs all = grind (arith, nat_tests, grown)

  twice : (xs : List Cap) → map (void_where goes) (map (conveyed hs) xs) ≡ map (λ c. void_where goes (conveyed hs c)) xs
  twice [] = refl
  twice (x ∷ xs) = ap (λ (t : List Capability). void_where goes (conveyed hs x) ∷ t) (twice xs)

  content_twice : (c : Content Cap) → map_content (void_where goes) (map_content (conveyed hs) c)
      ≡ map_content (λ d. void_where goes (conveyed hs d)) c
  content_twice c = grind (arith, nat_tests, twice)

  -- a content conveys what it conveyed before, except that capabilities for which `goes` holds are void
  conveyed_without : (c : Content Cap) → All (IsCurrent hs) (caps_in c) →
      map_content (conveyed ks) c ≡ map_content (void_where goes) (map_content (conveyed hs) c)
  conveyed_without c all = search (content_agree, stale, content_twice)

-- ---- rescinding the members of a set
allocations_given : (b : Bool) (h k : ObjectHeader) → k ≡ (if b then given_up h else h) → k.allocations ≡ raised b h.allocations
allocations_given b h k is = grind (arith, nat_tests)

calls_given : (b : Bool) (h k : ObjectHeader) → k ≡ (if b then given_up h else h) → k.calls ≡ raised b h.calls
calls_given b h k is = grind (arith, nat_tests)

given_object : (set : List ℕ) (hs ks : List ObjectHeader) → ((w : Capability) →
    current_count ks w ≡ raised (names_member set w) (current_count hs w)) → (b : Bool) (h k : ObjectHeader) (c d : Content Cap) →
    k ≡ (if b then given_up h else h) → d ≡ (if b then content.Free else c) → All (IsCurrent hs) (caps_in c) →
    (let o : Object = record { owner = k.owner; content = map_content (conveyed ks) d } in o)
    ≡ (if b then free else without (names_member set) (record { owner = h.owner; content = map_content (conveyed hs) c }))
given_object set hs ks raises b h k c d is are all = grind (arith, nat_tests, conveyed_without)

given_kept : (g : Geometry) (age n : ℕ) → age + 1 < 2 ^ 64 → (b : Bool) (h k : ObjectHeader) (c d : Content Cap) →
    k ≡ (if b then given_up h else h) → d ≡ (if b then content.Free else c) →
    IsKeepable g age n (record { header = h; content = c }) → IsKeepable g (age + 1) n (record { header = k; content = d })
given_kept g age n few b h k c d is are old = grind (arith, nat_tests, frame_later)

module _ (set : List ℕ) (p q : Parts) (given : AreGivenUp set p q) where
  given_raises : (w : Capability) → current_count q.headers w ≡ raised (names_member set w) (current_count p.headers w)
  given_raises Void = refl
  given_raises (Number n) = refl
  given_raises (Page o a) = allocations_given (is_member set o) (header_at p.headers o) (header_at q.headers o) (given.headers o)
  given_raises (Node o a) = allocations_given (is_member set o) (header_at p.headers o) (header_at q.headers o) (given.headers o)
  given_raises (Space o h a) = allocations_given (is_member set o) (header_at p.headers o) (header_at q.headers o) (given.headers o)
  given_raises (Process o) = allocations_given (is_member set o) (header_at p.headers o) (header_at q.headers o) (given.headers o)
  given_raises (Start o key) = allocations_given (is_member set o) (header_at p.headers o) (header_at q.headers o) (given.headers o)
  given_raises (Resume o) = calls_given (is_member set o) (header_at p.headers o) (header_at q.headers o) (given.headers o)
  given_raises (Bank o) = allocations_given (is_member set o) (header_at p.headers o) (header_at q.headers o) (given.headers o)
  given_raises Discrim = refl

  rescinded_at : (os : List Object) (n : ℕ) → n < length os →
      object_at (rescind set os) n ≡ (if is_member set n then free else without (names_member set) (object_at os n))
  unfolding rescind
  rescinded_at os n inside =
      let at : n < length (enumerate_from 0 os) = rw (length-enumerate_from 0 os) inside in
      let f : ℕ × Object → Object = λ e. if is_member set e.0 then free else without (names_member set) e.1 in
      get_or-map f (enumerate_from 0 os) n (0, free) free at
      ∙ ap f (get_or-enumerate_from 0 os n (0, free) inside ∙ ap (λ (m : ℕ). (m, object_at os n)) (zero-add n))

  length_rescinded : (os : List Object) → length (rescind set os) ≡ length os
  unfolding rescind
  length_rescinded os = length-map (enumerate_from 0 os) (λ e. if is_member set e.0 then free else without (names_member set) e.1)
      ∙ length-enumerate_from 0 os

  -- raising both counts of the members and freeing them rescinds them
  pub objects_given_up : AreCurrent (frames_of p) → objects_in q ≡ rescind set (objects_in p)
  objects_given_up current =
      let os = objects_in p in
      let count : length os ≡ length p.headers = length_objects p.headers p.contents in
      objects_by q.headers q.contents (rescind set os) (length_rescinded os ∙ count ∙ sym given.header_count)
      (λ n known.
      let old : n < length p.headers = omega (arith, given.header_count) in
      let inside : n < length os = omega (arith, count) in
      given_object set p.headers q.headers given_raises (is_member set n) (header_at p.headers n) (header_at q.headers n)
      (held_at p.contents n)
      (held_at q.contents n)
      (given.headers n) (given.contents n) (current_held p current n old)
      ∙ sym (rescinded_at os n inside
      ∙ ap (λ (o : Object). if is_member set n then free else without (names_member set) o) (object_in p.headers p.contents n old)))

  pub current_given_up : AreCurrent (frames_of p) → AreCurrent (frames_of q)
  current_given_up current = grind (arith, nat_tests, current_from, all_current, given_raises, current_held)

  pub keepable_given_up : (g : Geometry) (age : ℕ) → age + 1 < 2 ^ 64 → AreKeepable g age (frames_of p) →
      AreKeepable g (age + 1) (frames_of q)
  keepable_given_up g age few k = keepable_from g (age + 1) q (given.header_count ∙ keepable_count g age p k) (λ n known.
      let old : n < length p.headers = omega (arith, given.header_count) in
      given_kept g age n few (is_member set n) (header_at p.headers n) (header_at q.headers n) (held_at p.contents n) (held_at q.contents n)
      (given.headers n) (given.contents n) (keepable_at g age p n old k))

-- ---- raising a call count
module _ (r : ℕ) (p q : Parts) (known : r < length p.headers) (is : q ≡ with_header p r (called (header_at p.headers r))) where
  abbrev next : List ObjectHeader
  next = slice_set p.headers r (called (header_at p.headers r))

  called_raises : (w : Capability) → current_count next w ≡ raised (resumes r w) (current_count p.headers w)
  called_raises w = grind (arith, nat_tests, field_same, get_or-set_same, get_or-set_other)

  consumed_objects : AreCurrent (frames_of p) → objects_of (frames_in next p.contents) ≡ consume r (objects_in p)
  unfolding consume
  consumed_objects current =
      let os = objects_in p in
      let count : length os ≡ length p.headers = length_objects p.headers p.contents in
      let same : length next ≡ length p.headers = length-set p.headers r (called (header_at p.headers r)) in
      objects_by next p.contents (consume r os) (length-map os (without (resumes r)) ∙ count ∙ sym same)
      (λ n within.
      let old : n < length p.headers = omega (arith, same) in
      let inside : n < length os = omega (arith, count) in
      ap (λ (owner : ℕ). let o : Object = record { owner = owner; content = map_content (conveyed next) (held_at p.contents n) } in o)
      (field_same (λ (k : ObjectHeader). k.owner) p.headers r (called (header_at p.headers r)) refl n)
      ∙ ap (λ (e : Content Capability). let o : Object = record { owner = (header_at p.headers n).owner; content = e } in o)
      (conveyed_without (resumes r) p.headers next called_raises (held_at p.contents n) (current_held p current n old))
      ∙ sym (get_or-map (without (resumes r)) os n free free inside ∙ ap (without (resumes r)) (object_in p.headers p.contents n old)))

  -- raising the call count of process r consumes the capabilities that resume r
  pub objects_called : AreCurrent (frames_of p) → objects_in q ≡ consume r (objects_in p)
  objects_called current = ap (λ (k : Parts). objects_in k) is ∙ consumed_objects current

  pub current_called : AreCurrent (frames_of p) → AreCurrent (frames_of q)
  current_called current = grind (arith, nat_tests, current_from, length-set, all_current, called_raises, current_held)

pub rescind_keeps_sound_frames : RescindKeepsSoundFrames
rescind_keeps_sound_frames g age set old new frames given world = record {
  keepable = keepable_given_up set old new given g age (omega (arith, world.age)) frames.keepable;
  current = current_given_up set old new given frames.current;
  sound = subst (λ (os : List Object). IsSound g (record { objects = os; age = age + 1 }))
      (sym (objects_given_up set old new given frames.current)) world;
}

pub consume_keeps_sound_frames : ConsumeKeepsSoundFrames
consume_keeps_sound_frames g age p old new frames known is world = record {
  keepable = call_stays_keepable g age old new p known (omega (arith, world.age)) is frames.keepable;
  current = current_called p old new known is frames.current;
  sound = subst (λ (os : List Object). IsSound g (record { objects = os; age = age + 1 }))
      (sym (objects_called p old new known is frames.current)) world;
}
