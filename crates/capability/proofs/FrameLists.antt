-- Frames made of a list of headers and a list of contents, number by number.
use Rattle.capability.proofs.Names.{nat_tests, ℕ, zero, suc, true, false, List, [], length, slice_index, slice_index_or, slice_set, refl, sym, ap, subst, arith}
use Rattle.capability.proofs.Names.{IsTrue, get_or-map, ext_get_or, get_or_past, get_or-set_same, get_or-set_other, set_past, length-map, Cap, Capability, Void}
use Rattle.capability.proofs.Names.{Frame, ObjectHeader, Content, Object, Root, blank_frame, conveyed, frame_at, frames_in, header_at, headers, held_at}
use Rattle.capability.proofs.Names.{object_of, objects_of, free, is_annex, is_bank, is_free, is_node, is_page, is_root, map_content, root_in, slots_in}
use Rattle.capability.proofs.Names.{words_in, content_at, is_process, object_at, owner_at, slot_at, word_at, Parts, objects_in}
use Rattle.std.proofs.Common.{◌≡◌, ◌<◌, ◌≤◌, ◌∷◌, ◌∙◌}
use Rattle.model.specs.declared.object.Content.TheVariants as content
use Rattle.std.proofs.lemmas.List.{get_or-map as read_through}
use Rattle.capability.proofs.Mapped.{mapped}

-- after item n is set to x, item m has a property if x has it and the old item m has it
pub at_set : {X : Type 0} (P : ℕ → X → Type 0) (xs : List X) (n m : ℕ) (x d : X) → P n x → P m (slice_index_or xs m d) →
    P m (slice_index_or (slice_set xs n x) m d)
at_set P xs n m x d new old = grind (arith, nat_tests, get_or-set_other, get_or-set_same, set_past)

-- the frames made from a list of headers have these headers
pub headers_in : (hs : List ObjectHeader) (cs : List (Content Cap)) → headers (frames_in hs cs) ≡ hs
unfolding frames_in
headers_in [] cs = refl
headers_in (h ∷ hs) [] = ap (λ (t : List ObjectHeader). h ∷ t) (headers_in hs [])
headers_in (h ∷ hs) (c ∷ cs) = ap (λ (t : List ObjectHeader). h ∷ t) (headers_in hs cs)

pub length_in : (hs : List ObjectHeader) (cs : List (Content Cap)) → length (frames_in hs cs) ≡ length hs
length_in hs cs = sym (length-map (frames_in hs cs) (λ (f : Frame). f.header)) ∙ ap length (headers_in hs cs)

-- the frame at a number: its header and its content
abbrev pub pair_at : List ObjectHeader → List (Content Cap) → ℕ → Frame
pair_at hs cs n = record { header = header_at hs n; content = held_at cs n }

pub frame_in : (hs : List ObjectHeader) (cs : List (Content Cap)) (n : ℕ) → n < length hs → frame_at (frames_in hs cs) n ≡ pair_at hs cs n
unfolding frames_in
frame_in [] cs n inside = absurd (omega arith)
frame_in (h ∷ hs) [] zero inside = refl
frame_in (h ∷ hs) [] (suc n) inside = frame_in hs [] n (omega arith)
frame_in (h ∷ hs) (c ∷ cs) zero inside = refl
frame_in (h ∷ hs) (c ∷ cs) (suc n) inside = frame_in hs cs n (omega arith)

-- past the last header there is no frame
pub frame_past : (hs : List ObjectHeader) (cs : List (Content Cap)) (n : ℕ) → length hs ≤ n → frame_at (frames_in hs cs) n ≡ blank_frame
frame_past hs cs n past = get_or_past (frames_in hs cs) n blank_frame (rw length_in past)

-- changing both lists at a number changes the frame there
pub set_in : (hs : List ObjectHeader) (cs : List (Content Cap)) (n : ℕ) (h : ObjectHeader) (c : Content Cap) → n < length cs →
    frames_in (slice_set hs n h) (slice_set cs n c) ≡ slice_set (frames_in hs cs) n (record { header = h; content = c })
unfolding frames_in
set_in [] cs n h c inside = refl
set_in (g ∷ hs) [] n h c inside = absurd (omega arith)
set_in (g ∷ hs) (d ∷ cs) zero h c inside = refl
set_in (g ∷ hs) (d ∷ cs) (suc n) h c inside = ap (λ (t : List Frame). record { header = g; content = d } ∷ t)
    (set_in hs cs n h c (omega arith))

-- the object at a number: its owner, and its content with stale capabilities void
abbrev pub shown_at : List ObjectHeader → List (Content Cap) → ℕ → Object
shown_at hs cs n = record { owner = (header_at hs n).owner; content = map_content (conveyed hs) (held_at cs n) }

object_at_frame : (fs : List Frame) (n : ℕ) → object_at (objects_of fs) n ≡ object_of (headers fs) (frame_at fs n)
unfolding objects_of
object_at_frame fs n = get_or-map (object_of (headers fs)) fs n blank_frame

pub object_in : (hs : List ObjectHeader) (cs : List (Content Cap)) (n : ℕ) → n < length hs →
    object_at (objects_of (frames_in hs cs)) n ≡ shown_at hs cs n
object_in hs cs n inside = search (object_at_frame, frame_in, headers_in)

pub length_objects : (hs : List ObjectHeader) (cs : List (Content Cap)) → length (objects_of (frames_in hs cs)) ≡ length hs
unfolding objects_of
length_objects hs cs = length-map (frames_in hs cs) (object_of (headers (frames_in hs cs))) ∙ length_in hs cs

-- objects are determined by the object at each number
pub objects_by : (hs : List ObjectHeader) (cs : List (Content Cap)) (os : List Object) → length os ≡ length hs →
    ((n : ℕ) → n < length hs → shown_at hs cs n ≡ object_at os n) → objects_of (frames_in hs cs) ≡ os
objects_by hs cs os count each =
    ext_get_or free (objects_of (frames_in hs cs)) os (length_objects hs cs ∙ sym count)
    (λ i inside. let known : i < length hs = subst (λ k. i < k) (length_objects hs cs) inside in object_in hs cs i known ∙ each i known)

-- numbers past the last header are free
pub object_past : (hs : List ObjectHeader) (cs : List (Content Cap)) (n : ℕ) → length hs ≤ n →
    object_at (objects_of (frames_in hs cs)) n ≡ free
object_past hs cs n past = get_or_past (objects_of (frames_in hs cs)) n free (rw length_objects past)

-- an object's owner is the one in its header
pub owner_in : (hs : List ObjectHeader) (cs : List (Content Cap)) (n : ℕ) →
    owner_at (objects_of (frames_in hs cs)) n ≡ (header_at hs n).owner
owner_in hs cs n = grind (arith, nat_tests, object_in, object_past, get_or_past)

-- the owner that is read from the table is the object's
pub owner_read : (p : Parts) (hs : List ObjectHeader) (h : ObjectHeader) (n : ℕ) → hs ≡ p.headers → h ≡ header_at hs n →
    h.owner ≡ owner_at (objects_in p) n
owner_read p hs h n table is = grind (arith, nat_tests, owner_in)

-- a number that isn't free has a header
pub known_used : (p : Parts) (n : ℕ) → is_free (content_at (objects_in p) n) ≡ false → n < length p.headers
known_used p n used = grind (arith, nat_tests, object_past)

-- a root isn't free
pub root_used : {C : Type 0} (c : Content C) → is_root c ≡ true → is_free c ≡ false
root_used c is = grind (arith, nat_tests)

pub annex_used : {C : Type 0} (c : Content C) → is_annex c ≡ true → is_free c ≡ false
annex_used c is = grind (arith, nat_tests)

pub page_used : {C : Type 0} (c : Content C) → is_page c ≡ true → is_free c ≡ false
page_used c is = grind (arith, nat_tests)

pub node_used : {C : Type 0} (c : Content C) → is_node c ≡ true → is_free c ≡ false
node_used c is = grind (arith, nat_tests)

pub bank_used : {C : Type 0} (c : Content C) → is_bank c ≡ true → is_free c ≡ false
bank_used c is = grind (arith, nat_tests)

-- a process has a header
pub process_known : (p : Parts) (n : ℕ) → IsTrue (is_process (objects_in p) n) → n < length p.headers
process_known p n is = known_used p n (root_used (content_at (objects_in p) n) is)

-- facts about the object at a number, if its content is c
module _ (p : Parts) (n : ℕ) (known : n < length p.headers) (c : Content Cap) (is : held_at p.contents n ≡ c) where
  pub content_there : content_at (objects_in p) n ≡ map_content (conveyed p.headers) c
  content_there = grind (arith, nat_tests, object_in)

  pub slot_there : (slots : List Cap) → slots ≡ slots_in c → (hs : List ObjectHeader) → hs ≡ p.headers →
      (i : ℕ) (default : Cap) (r : Capability) → r ≡ conveyed hs (slice_index_or slots i default) → i < length slots →
      r ≡ slot_at (objects_in p) n i
  slot_there slots are hs same i default r reads within = grind (arith, nat_tests, read_through, mapped, content_there)

  pub no_slot_there : (i : ℕ) → slots_in c ≡ [] → slot_at (objects_in p) n i ≡ Void
  no_slot_there i none = grind (arith, nat_tests, content_there, mapped)

  pub word_there : (i : ℕ) → word_at (objects_in p) n i ≡ slice_index (words_in c) i
  word_there i = grind (arith, nat_tests, content_there, mapped)

  pub no_word_there : (i : ℕ) → ((x : List ℕ) → c ≡ content.Page x → ⊥) → word_at (objects_in p) n i ≡ 0
  no_word_there i page = grind (arith, nat_tests, word_there)

  pub no_root_there : ((x : Root Cap) → c ≡ content.Root x → ⊥) → is_process (objects_in p) n ≡ false
  no_root_there root = grind (arith, nat_tests, content_there, mapped)

  pub no_process_annex : ((x : Root Cap) → c ≡ content.Root x → ⊥) → (root_in (content_at (objects_in p) n)).annex ≡ 0
  no_process_annex root = grind (arith, nat_tests, content_there)

  pub no_annex_there : ((x : List Cap) → c ≡ content.Annex x → ⊥) → is_annex (content_at (objects_in p) n) ≡ false
  no_annex_there annex = grind (arith, nat_tests, content_there, mapped)

-- the object at a number is made of its header and its content
pub object_there : (p : Parts) (n : ℕ) → n < length p.headers → (hs ks : List ObjectHeader) (h : ObjectHeader) (now : Content Cap)
    (shown : Content Capability) →
    hs ≡ p.headers → ks ≡ p.headers → h ≡ header_at hs n → now ≡ held_at p.contents n → shown ≡ map_content (conveyed ks) now →
    record { owner = h.owner; content = shown } ≡ object_at (objects_in p) n
object_there p n known hs ks h now shown first second is held made = grind (arith, nat_tests, object_in)
