-- Edits of objects keep sound objects sound.
use Rattle.model_laws.proofs.Names.{nat_tests, inl, inr, ℕ, List, map, length, get_or, set, refl, sym, ap, subst, arith, IsTrue, slice_index, cases_eq}
use Rattle.model_laws.proofs.Names.{get_or-set_same, get_or-set_other, set_past, length-set, length-map, get_or_past, Capability, Void, Geometry, Content}
use Rattle.model_laws.proofs.Names.{Object, Root, State, free, is_root, is_annex, root_in, with_word_in, with_slot_in, map_content, object_at, content_at}
use Rattle.model_laws.proofs.Names.{owner_at, root_at, annex_at, is_process, with_content, with_word, with_slot, with_root, with_state, void_where, without}
use Rattle.model_laws.proofs.Names.{resumes, consume, IsSpace}
use Rattle.std.proofs.Common.{◌≡◌, ◌≢◌, ◌^◌, ◌==◌, ◌<◌, ◌∙◌}
use Rattle.model.specs.declared.object.Content.TheVariants as content
use Rattle.model_laws.proofs.Usage.{AreAlike, SameFrame, alike_refl, frame_trans}
use Rattle.model_laws.proofs.Mapped.{alike_without, at_map, mapped}
use Rattle.model_laws.proofs.SoundParts.{IsHeld, IsFilled, IsNearlySound, state_at, nearly_on, held_void}

-- a property of the new item, and of the old items at other places, holds after a set
pub at_set : {X : Type 0} (P : ℕ → X → Type 0) (xs : List X) (n m : ℕ) (x d : X) → P n x → P m (get_or xs m d) →
    P m (get_or (set xs n x) m d)
at_set {X} P xs n m x d new old = grind (arith, nat_tests, get_or-set_other, get_or-set_same, set_past)

-- replacing a content by one of the same role, annex and limit keeps these for all objects (`SameFrame`)

pub frame_content : (os : List Object) (n : ℕ) (c : Content Capability) → AreAlike (object_at os n)
    (record { owner = owner_at os n; content = c }) → SameFrame os (with_content os n c)
unfolding with_content
frame_content os n c a = record {
  size = length-set os n (record { owner = owner_at os n; content = c });
  alike = λ m. at_set (λ k o. AreAlike (object_at os k) o) os n m (record { owner = owner_at os n; content = c }) free a
      (alike_refl (object_at os m));
}

pub at_content : (P : ℕ → Content Capability → Type 0) (os : List Object) (n m : ℕ) (c : Content Capability) → P n c → P m (content_at os m)
    → P m (content_at (with_content os n c) m)
unfolding with_content
at_content P os n m c new old = at_set (λ k o. P k o.content) os n m (record { owner = owner_at os n; content = c }) free new old

pub nearly_content : (g : Geometry) (W : ℕ → Type 0) (os : List Object) (n : ℕ) (c : Content Capability) → IsNearlySound g W os
    → AreAlike (object_at os n) (record { owner = owner_at os n; content = c }) → IsFilled os W c → IsNearlySound g W (with_content os n c)
nearly_content g W os n c h a filled =
    nearly_on g W os (with_content os n c) (frame_content os n c a) h.frame
    (λ m. at_content (λ k d. IsFilled os W d) os n m c filled (h.filled m))

-- objects after edits: they are as sound, and their processes have the same states
pub record IsEdited (g : Geometry) (W : ℕ → Type 0) (os us : List Object) : Type 0 where
  pub frame : SameFrame os us
  pub sound : IsNearlySound g W us
  pub states : (q : ℕ) → state_at us q ≡ state_at os q

pub edited_trans : (g : Geometry) (W : ℕ → Type 0) (os us vs : List Object) → IsEdited g W os us → IsEdited g W us vs → IsEdited g W os vs
edited_trans g W os us vs a b = search (arith, nat_tests, frame_trans)

-- setting a slot of an object keeps its owner, role, annex and limit (`AreAlike`)

pub alike_slot : (b i : ℕ) (k : Capability) (c : Content Capability) →
    AreAlike (record { owner = b; content = c }) (record { owner = b; content = with_slot_in c i k })
alike_slot b i k c = grind (arith, nat_tests)

root_slot : (i : ℕ) (k : Capability) (c : Content Capability) → root_in (with_slot_in c i k) ≡ root_in c
root_slot i k c = grind (arith, nat_tests)

filled_slot : (os : List Object) (W : ℕ → Type 0) (i : ℕ) (k : Capability) (c : Content Capability) → IsFilled os W c → IsHeld os W k
    → (IsTrue (is_annex c) → i ≢ 0) → IsFilled os W (with_slot_in c i k)
filled_slot os W i k (content.Node slots) h held differ = record {
  shape = length-set slots i k ∙ h.shape;
  words = h.words;
  slots = λ j. at_set (λ m c. IsHeld os W c) slots i j k Void held (h.slots j);
  register_0 = λ e. cc;
  space = h.space;
  is_space = h.is_space;
}
filled_slot os W i k (content.Annex slots) h held differ = record {
  shape = length-set slots i k ∙ h.shape;
  words = h.words;
  slots = λ j. at_set (λ m c. IsHeld os W c) slots i j k Void held (h.slots j);
  register_0 = λ e. get_or-set_other slots i 0 k Void (λ z. differ refl (sym z)) ∙ h.register_0 refl;
  space = h.space;
  is_space = h.is_space;
}
filled_slot os W i k c h held differ = h

pub edited_slot : (g : Geometry) (W : ℕ → Type 0) (os : List Object) (n i : ℕ) (k : Capability) → IsNearlySound g W os → IsHeld os W k
    → (IsTrue (is_annex (content_at os n)) → i ≢ 0) → IsEdited g W os (with_slot os n i k)
unfolding with_slot
edited_slot g W os n i k h held differ =
    let c = with_slot_in (content_at os n) i k in
    let a = alike_slot (owner_at os n) i k (content_at os n) in
    record {
      frame = frame_content os n c a;
      sound = nearly_content g W os n c h a (filled_slot os W i k (content_at os n) (h.filled n) held differ);
      states = λ q. at_content (λ m d. (root_in d).state ≡ state_at os m) os n q c
          (ap (λ (r : Root Capability). r.state) (root_slot i k (content_at os n)))
          refl;
    }

-- setting a word of an object keeps its owner, role, annex and limit (`AreAlike`)

pub alike_word : (b i w : ℕ) (c : Content Capability) → AreAlike (record { owner = b; content = c })
    (record { owner = b; content = with_word_in c i w })
alike_word b i w c = grind (arith, nat_tests)

root_word : (i w : ℕ) (c : Content Capability) → root_in (with_word_in c i w) ≡ root_in c
root_word i w c = grind (arith, nat_tests)

filled_word : (os : List Object) (W : ℕ → Type 0) (i w : ℕ) (c : Content Capability) → IsFilled os W c → w < 2 ^ 64 →
    IsFilled os W (with_word_in c i w)
filled_word os W i w (content.Page words) h fits = record {
  shape = length-set words i w ∙ h.shape;
  words = λ j. at_set (λ m v. v < 2 ^ 64) words i j w 0 fits (h.words j);
  slots = h.slots;
  register_0 = h.register_0;
  space = h.space;
  is_space = h.is_space;
}
filled_word os W i w c h fits = h

pub edited_word : (g : Geometry) (W : ℕ → Type 0) (os : List Object) (n i w : ℕ) → IsNearlySound g W os → w < 2 ^ 64 →
    IsEdited g W os (with_word os n i w)
unfolding with_word
edited_word g W os n i w h fits =
    let c = with_word_in (content_at os n) i w in
    let a = alike_word (owner_at os n) i w (content_at os n) in
    record {
      frame = frame_content os n c a;
      sound = nearly_content g W os n c h a (filled_word os W i w (content_at os n) (h.filled n) fits);
      states = λ q. at_content (λ m d. (root_in d).state ≡ state_at os m) os n q c
          (ap (λ (r : Root Capability). r.state) (root_word i w (content_at os n)))
          refl;
    }

-- replacing a root by one with the same annex keeps its object's owner, role, annex and limit (`AreAlike`)

pub alike_root : (b : ℕ) (r : Root Capability) (c : Content Capability) → IsTrue (is_root c) → r.annex ≡ (root_in c).annex
    → AreAlike (record { owner = b; content = c }) (record { owner = b; content = content.Root r })
alike_root b r c is e = grind (arith, nat_tests)

-- a valid root for process p
pub record IsRootOf (os : List Object) (W : ℕ → Type 0) (p : ℕ) (r : Root Capability) : Type 0 where
  pub is_process : IsTrue (is_process os p)
  pub annex : r.annex ≡ annex_at os p
  pub count : length r.words ≡ 4
  pub words : (i : ℕ) → slice_index r.words i < 2 ^ 64
  pub key : r.key < 2 ^ 16
  pub space : IsHeld os W r.space
  pub is_space : IsSpace r.space

filled_root : (os : List Object) (W : ℕ → Type 0) (p : ℕ) (r : Root Capability) → IsRootOf os W p r → IsFilled os W (content.Root r)
filled_root os W p r h = grind (arith, nat_tests)

pub root_frame : (os : List Object) (p : ℕ) (r : Root Capability) → IsTrue (is_process os p) → r.annex ≡ annex_at os p →
    SameFrame os (with_root os p r)
unfolding with_root
root_frame os p r is same = frame_content os p (content.Root r) (alike_root (owner_at os p) r (content_at os p) is same)

-- changing the state of a process keeps owners, roles, annexes and limits (`SameFrame`)
pub state_frame : (os : List Object) (p : ℕ) (s : State) → IsTrue (is_process os p) → SameFrame os (with_state os p s)
unfolding with_state
state_frame os p s is = root_frame os p _ is refl

pub nearly_root : (g : Geometry) (W : ℕ → Type 0) (os : List Object) (p : ℕ) (r : Root Capability) → IsNearlySound g W os →
    IsRootOf os W p r → IsNearlySound g W (with_root os p r)
unfolding with_root
nearly_root g W os p r h fits =
    nearly_content g W os p (content.Root r) h (alike_root (owner_at os p) r (content_at os p) fits.is_process fits.annex)
    (filled_root os W p r fits)

pub root_same : (os : List Object) (p : ℕ) (r : Root Capability) → IsTrue (is_process os p) → root_at (with_root os p r) p ≡ r
unfolding with_root with_content
root_same os p r is = grind (arith, nat_tests, get_or-set_same, get_or_past)

pub root_other : (os : List Object) (p q : ℕ) (r : Root Capability) → q ≢ p → root_at (with_root os p r) q ≡ root_at os q
unfolding with_root with_content
root_other os p q r differ = grind (arith, nat_tests, get_or-set_other)

-- objects that satisfy `IsNearlySound` still do after a root is replaced by one of the same state
pub edited_root : (g : Geometry) (W : ℕ → Type 0) (os : List Object) (p : ℕ) (r : Root Capability) → IsNearlySound g W os →
    IsRootOf os W p r → r.state ≡ state_at os p → IsEdited g W os (with_root os p r)
edited_root g W os p r h fits e = record {
  frame = root_frame os p r fits.is_process fits.annex;
  sound = nearly_root g W os p r h fits;
  states = λ q. elim (cases_eq q p) [
    | inl same ↦ ap (λ (k : ℕ). state_at (with_root os p r) k) same
        ∙ (ap (λ (r : Root Capability). r.state) (root_same os p r fits.is_process) ∙ (e ∙ ap (λ (k : ℕ). state_at os k) (sym same)))
    | inr differ ↦ ap (λ (r : Root Capability). r.state) (root_other os p q r differ)
  ];
}

-- Contents whose capabilities a function f has changed. The parameters: if a capability may be held, so may the one that f makes of it.

module _ (os us : List Object) (W V : ℕ → Type 0) (f : Capability → Capability) (void : f Void ≡ Void)
    (held : (c : Capability) → IsHeld os W c → IsHeld us V (f c)) (space : (c : Capability) → IsSpace c → IsSpace (f c)) where
  slots_map : (slots : List Capability) (i : ℕ) → IsHeld os W (get_or slots i Void) → IsHeld us V (get_or (map f slots) i Void)
  slots_map slots i h = rw (at_map f slots i Void void) (held (get_or slots i Void) h)

  pub filled_map : (c : Content Capability) → IsFilled os W c → IsFilled us V (map_content f c)
  filled_map c h = grind (arith, nat_tests, length-map, slots_map, held_void, at_map)

-- after a consume each object has lost its capabilities that resume p, and nothing else

pub object_consume : (p : ℕ) (os : List Object) (n : ℕ) → object_at (consume p os) n ≡ without (resumes p) (object_at os n)
unfolding consume
object_consume p os n = at_map (without (resumes p)) os n free refl

pub frame_consume : (p : ℕ) (os : List Object) → SameFrame os (consume p os)
frame_consume p os = record {
  size = unfold consume in length-map os (without (resumes p));
  alike = λ n. rw (object_consume p os n) (alike_without (resumes p) (object_at os n));
}

-- the processes in W, except p
abbrev pub But : (ℕ → Type 0) → ℕ → ℕ → Type 0
But W p q = W q × (q ≢ p)

held_consume : (os : List Object) (W : ℕ → Type 0) (p : ℕ) (c : Capability) → IsHeld os W c → IsHeld os (But W p) (void_where (resumes p) c)
held_consume os W p c h = grind (arith, nat_tests)

space_consume : (p : ℕ) (c : Capability) → IsSpace c → IsSpace (void_where (resumes p) c)
space_consume p c h = grind (arith, nat_tests)

filled_consume : (os : List Object) (W : ℕ → Type 0) (p : ℕ) (c : Content Capability) → IsFilled os W c →
    IsFilled os (But W p) (map_content (void_where (resumes p)) c)
filled_consume os W p = filled_map os os W (But W p) (void_where (resumes p)) refl (held_consume os W p) (space_consume p)

pub nearly_consume : (g : Geometry) (W : ℕ → Type 0) (p : ℕ) (os : List Object) → IsNearlySound g W os →
    IsNearlySound g (But W p) (consume p os)
nearly_consume g W p os h = nearly_on g (But W p) os (consume p os) (frame_consume p os) h.frame
    (λ n. subst (λ o. IsFilled os (But W p) o.content) (sym (object_consume p os n)) (filled_consume os W p (content_at os n) (h.filled n)))

pub state_consume : (p : ℕ) (os : List Object) (q : ℕ) → state_at (consume p os) q ≡ state_at os q
state_consume p os q = ap (λ (o : Object). (root_in o.content).state) (object_consume p os q)
    ∙ (mapped (void_where (resumes p)) (content_at os q)).state
