-- Objects named by capabilities that may be held have headers. Frames stay sound after a word of a page is written. A walk down a tree.
use Rattle.address_space.proofs.Names.{ℕ, List, length, sym, ap, subst, arith, IsTrue, Access, Capability, Space, Frame, Geometry}
use Rattle.address_space.proofs.Names.{objects_of, AreKeepable, IsSoundFrames, is_page, MayBeHeld, content_at, root_at, Parts, frames_of, objects_in}
use Rattle.address_space.proofs.Names.{known_used, node_used, page_used, keepable_later, Object, AreCurrent, world_at, is_waiting, IsSound, World, with_word}
use Rattle.address_space.proofs.Names.{edited_word, Waits, nearly_from, nearly_to, nearly_weaken, slot_at, path, walk_along, AreSound, Tree}
use Rattle.capability.specs.Parts.{touched_too}
use Rattle.std.proofs.Common.{◌≡◌, ◌-◌, ◌^◌, ◌<◌, ◌∙◌}

pub space_known : (p : Parts) (n h : ℕ) (a : Access) → MayBeHeld (objects_in p) (Space n h a) → n < length p.headers
space_known p n h a held = known_used p n (node_used (content_at (objects_in p) n) held.1)

pub page_known : (p : Parts) (n : ℕ) → IsTrue (is_page (content_at (objects_in p) n)) → n < length p.headers
page_known p n is = known_used p n (page_used (content_at (objects_in p) n) is)

-- sound frames may be kept at any age
pub sound_keepable : (g : Geometry) (age : ℕ) (fs : List Frame) → IsSoundFrames g age fs → AreKeepable g (2 ^ 64 - 1) fs
sound_keepable g age fs sound = keepable_later g age (2 ^ 64 - 1) fs (omega (arith, sound.sound.age)) sound.keepable

-- Facts after a call that only reads: the parts are the same, so their objects are, and the frames are as sound as before.
module _ (p q : Parts) (same : q ≡ p) where
  pub space_held : {g : Geometry} {age : ℕ} → IsSoundFrames g age (frames_of p) → (n : ℕ) (c : Capability) →
      c ≡ (root_at (objects_in q) n).space → MayBeHeld (objects_in p) c
  space_held sound n c is = subst (MayBeHeld (objects_in p)) (sym (is ∙ ap (λ (r : Parts). (root_at (objects_in r) n).space) same))
      (sound.sound.spaces n).0

  pub page_still_known : (n : ℕ) → IsTrue (is_page (content_at (objects_in p) n)) → n < length q.headers
  page_still_known n is = page_known q n (ap (λ (r : Parts). is_page (content_at (objects_in r) n)) same ∙ is)

world_with_word : (g : Geometry) (w : World) (n i word : ℕ) → word < 2 ^ 64 → IsSound g w →
    IsSound g (record { objects = with_word w.objects n i word; age = w.age })
world_with_word g w n i word fits sound =
    let us = with_word w.objects n i word in
    let edited = edited_word g (Waits w.objects) w.objects n i word (nearly_from g w sound) fits in
    nearly_to g us w.age (nearly_weaken g (Waits w.objects) (Waits us) us (λ p waits. ap is_waiting (edited.states p) ∙ waits) edited.sound)
    sound.age

pub word_stays_sound : (g : Geometry) (age : ℕ) (fs gs : List Frame) (n i word : ℕ) → word < 2 ^ 64 →
    objects_of gs ≡ with_word (objects_of fs) n i word → (AreCurrent fs → AreCurrent gs) → (AreKeepable g age fs → AreKeepable g age gs) →
    IsSoundFrames g age fs → IsSoundFrames g age gs
word_stays_sound g age fs gs n i word fits is current keepable sound = record {
  keepable = keepable sound.keepable;
  current = current sound.current;
  sound = subst (λ (os : List Object). IsSound g (record { objects = os; age = age })) (sym is)
      (world_with_word g (world_at age fs) n i word fits sound.sound);
}

-- after a word of an announced page is written, the frames are as sound as before
pub word_written : (p q : Parts) (written : List ℕ) → q ≡ touched_too written p → (fs : List Frame) → ((age : ℕ) →
    IsSoundFrames q.geometry age (frames_of q) → IsSoundFrames q.geometry age fs) → (age : ℕ) → IsSoundFrames p.geometry age (frames_of p) →
    IsSoundFrames p.geometry age fs
word_written p q written is fs =
    subst (λ (r : Parts). (age : ℕ) → IsSoundFrames r.geometry age (frames_of r) → IsSoundFrames r.geometry age fs) is

-- the walk went from `tree` down to `at`, on the way to the page with this index, and only read
pub record HasDescended {S : Type 0} (parts : S → Parts) (Continues : S → S → Type 0) (index : ℕ) (tree : Tree) (old : S) (at : Tree)
    (now : S) : Type 0 where
  pub same : parts now ≡ parts old
  pub continues : Continues old now
  pub held : MayBeHeld (objects_in (parts old)) (Space at.node at.height at.access)
  pub way : walk_along (objects_in (parts old)) (Space tree.node tree.height tree.access) (path tree.height index) ≡
      walk_along (objects_in (parts old)) (Space at.node at.height at.access) (path at.height index)

module _ {S : Type 0} {parts : S → Parts} {Continues : S → S → Type 0} {index : ℕ} {tree at : Tree} {old now : S}
    (so_far : HasDescended parts Continues index tree old at now) where
  pub same_objects : objects_in (parts now) ≡ objects_in (parts old)
  same_objects = ap objects_in so_far.same

  pub read_there : (s : Capability) (i : ℕ) → s ≡ slot_at (objects_in (parts now)) at.node i →
      s ≡ slot_at (objects_in (parts old)) at.node i
  read_there s i is = is ∙ ap (λ (us : List Object). slot_at us at.node i) same_objects

  pub still_sound : AreSound (parts old) → AreSound (parts now)
  still_sound = subst AreSound (sym so_far.same)

  pub still_held : MayBeHeld (objects_in (parts now)) (Space at.node at.height at.access)
  still_held = subst (λ (us : List Object). MayBeHeld us (Space at.node at.height at.access)) (sym same_objects) so_far.held
