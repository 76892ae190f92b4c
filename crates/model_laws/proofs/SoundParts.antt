-- The parts of soundness, and how they pass from some objects to others.
use Rattle.model_laws.proofs.Names.{arith, nat_tests, ℕ, true, Some, List, length, sym, IsTrue, slice_index, slice_index_or, Contains, Capability, Void, Resume}
use Rattle.model_laws.proofs.Names.{Geometry, Content, Object, State, IsWellFormed, named, is_free, is_annex, is_bank, is_waiting, role_of, words_in, slots_in}
use Rattle.model_laws.proofs.Names.{limit_in, root_in, World, content_at, owner_at, root_at, annex_at, is_process, chain, usage, IsOfKind, HasShape, IsSpace}
use Rattle.model_laws.proofs.Names.{NamesItsKind, MayBeHeld, IsSound, object_count}
use Rattle.std.proofs.Common.{◌≡◌, ◌≢◌, ◌^◌, ◌<◌, ◌≤◌, ◌∙◌}
use Rattle.model_laws.proofs.Usage.{SameFrame, tests_at, frame_refl, chain_same, usage_same}

-- the state of a process
abbrev pub state_at : List Object → ℕ → State
state_at os p = (root_at os p).state

-- whether a process waits
abbrev pub Waits : List Object → ℕ → Type 0
Waits os p = IsTrue (is_waiting (state_at os p))

-- a capability names an object of its kind; a resume capability names a process in W
abbrev pub NamesAmong : List Object → (ℕ → Type 0) → Capability → Type 0
NamesAmong os W (Resume p) = IsTrue (is_process os p) × W p
NamesAmong os W c = NamesItsKind os c

-- a capability that may be held if exactly the processes in W may be resumed
pub record IsHeld (os : List Object) (W : ℕ → Type 0) (c : Capability) : Type 0 where
  pub well_formed : IsWellFormed c
  pub names : NamesAmong os W c

-- a content of valid shape, in which each capability satisfies `IsHeld`
pub record IsFilled (os : List Object) (W : ℕ → Type 0) (c : Content Capability) : Type 0 where
  pub shape : HasShape c
  pub words : (i : ℕ) → slice_index (words_in c) i < 2 ^ 64
  pub slots : (i : ℕ) → IsHeld os W (slice_index_or (slots_in c) i Void)
  pub register_0 : IsTrue (is_annex c) → slice_index_or (slots_in c) 0 Void ≡ Void
  pub space : IsHeld os W (root_in c).space
  pub is_space : IsSpace (root_in c).space

-- the part of soundness that depends only on owners, roles, annexes and limits (the frame of the objects)
pub record IsFramed (g : Geometry) (os : List Object) : Type 0 where
  pub size : length os ≡ object_count g
  pub kinds : (n : ℕ) → IsOfKind g n (content_at os n)
  pub annexes : (p : ℕ) → IsTrue (is_process os p) → IsTrue (is_annex (content_at os (annex_at os p)))
      × (owner_at os (annex_at os p) ≡ owner_at os p)
  pub one_root : (p q : ℕ) → IsTrue (is_process os p) → IsTrue (is_process os q) → annex_at os p ≡ annex_at os q → p ≡ q
  pub some_root : (a : ℕ) → IsTrue (is_annex (content_at os a)) → (p : ℕ) × IsTrue (is_process os p) × (annex_at os p ≡ a)
  pub unowned : (n : ℕ) → IsTrue (is_free (content_at os n)) → owner_at os n ≡ 0
  pub owners : (n : ℕ) → is_free (content_at os n) ≢ true → IsTrue (is_bank (content_at os (owner_at os n)))
  pub prime : IsTrue (is_bank (content_at os 0)) × (owner_at os 0 ≡ 0)
  pub chains : (b : ℕ) → IsTrue (is_bank (content_at os b)) → Contains (chain os b) 0
  pub limits : (b : ℕ) → IsTrue (is_bank (content_at os b)) → usage os b ≤ limit_in (content_at os b)

-- sound objects, except that the processes in W may be resumed, not the waiting ones
pub record IsNearlySound (g : Geometry) (W : ℕ → Type 0) (os : List Object) : Type 0 where
  pub frame : IsFramed g os
  pub filled : (n : ℕ) → IsFilled os W (content_at os n)

pub held_from : (os : List Object) (c : Capability) → MayBeHeld os c → IsHeld os (Waits os) c
held_from os c h = grind (arith, nat_tests)

pub held_to : (os : List Object) (c : Capability) → IsHeld os (Waits os) c → MayBeHeld os c
held_to os c h = grind (arith, nat_tests)

-- a capability that may be held among os may be held among us, if the object that it names has the same role there, and may still be
-- resumed
pub held_alike : (os us : List Object) (W V : ℕ → Type 0) (c : Capability) →
    ((n : ℕ) → named c ≡ Some n → role_of (content_at us n) ≡ role_of (content_at os n))
    → ((p : ℕ) → named c ≡ Some p → W p → V p) → IsHeld os W c → IsHeld us V c
held_alike os us W V c s f h = grind (arith, nat_tests)

pub held_on : (os us : List Object) (W V : ℕ → Type 0) (c : Capability) → SameFrame os us → ((p : ℕ) → W p → V p) → IsHeld os W c →
    IsHeld us V c
held_on os us W V c s f = held_alike os us W V c (λ n is. (s.alike n).role) (λ p is. f p)

pub held_void : (os : List Object) (W : ℕ → Type 0) → IsHeld os W Void
held_void os W = record { well_formed = tt; names = tt }

pub filled_on : (os us : List Object) (W V : ℕ → Type 0) (c : Content Capability) → SameFrame os us → ((p : ℕ) → W p → V p) →
    IsFilled os W c → IsFilled us V c
filled_on os us W V c s f h = grind (arith, nat_tests)

pub framed_on : (g : Geometry) (os us : List Object) → SameFrame os us → IsFramed g os → IsFramed g us
framed_on g os us s h =
    let t = tests_at os us s in
    record {
      size = s.size ∙ h.size;
      kinds = λ n. (t n).kind g n (h.kinds n);
      annexes = λ p is.
          let known = h.annexes p (sym (t p).root ∙ is) in
          rw (s.alike p).annex ((t (annex_at os p)).annex ∙ known.0, (s.alike (annex_at os p)).owner ∙ (known.1 ∙ sym (s.alike p).owner));
      one_root = λ p q is iq same.
          h.one_root p q (sym (t p).root ∙ is) (sym (t q).root ∙ iq) (sym (s.alike p).annex ∙ (same ∙ (s.alike q).annex));
      some_root = grind (arith, nat_tests);
      unowned = λ n is. (s.alike n).owner ∙ h.unowned n (sym (t n).free ∙ is);
      owners = λ n is. rw (s.alike n).owner ((t (owner_at os n)).bank ∙ h.owners n (λ e. is ((t n).free ∙ e)));
      prime = ((t 0).bank ∙ h.prime.0, (s.alike 0).owner ∙ h.prime.1);
      chains = λ b is. rw (chain_same os us s b) (h.chains b (sym (t b).bank ∙ is));
      limits = λ b is. rw (usage_same os us s b, (s.alike b).limit) (h.limits b (sym (t b).bank ∙ is));
    }

-- if os satisfies `IsFramed`, us has the same owners, roles, annexes and limits (`SameFrame`), and all
-- contents of us satisfy `IsFilled`, us satisfies `IsNearlySound`
pub nearly_on : (g : Geometry) (W : ℕ → Type 0) (os us : List Object) → SameFrame os us → IsFramed g os
    → ((n : ℕ) → IsFilled os W (content_at us n)) → IsNearlySound g W us
nearly_on g W os us s h filled = record {
  frame = framed_on g os us s h;
  filled = λ n. filled_on os us W W (content_at us n) s (λ p w. w) (filled n);
}

pub nearly_weaken : (g : Geometry) (W V : ℕ → Type 0) (os : List Object) → ((p : ℕ) → W p → V p) → IsNearlySound g W os →
    IsNearlySound g V os
nearly_weaken g W V os f h = record {
  frame = h.frame;
  filled = λ n. filled_on os os W V (content_at os n) (frame_refl os) f (h.filled n);
}

-- a sound world satisfies `IsNearlySound`, with the waiting processes as those that may be resumed
pub nearly_from : (g : Geometry) (w : World) → IsSound g w → IsNearlySound g (Waits w.objects) w.objects
nearly_from g w h = record {
  frame = grind (arith, nat_tests);
  filled = λ n. record {
    shape = h.shapes n;
    words = h.words n;
    slots = λ i. held_from w.objects (slice_index_or (slots_in (content_at w.objects n)) i Void) (h.slots n i);
    register_0 = h.register_0 n;
    space = held_from w.objects (root_at w.objects n).space (h.spaces n).0;
    is_space = (h.spaces n).1;
  };
}

pub nearly_to : (g : Geometry) (os : List Object) (age : ℕ) → IsNearlySound g (Waits os) os → age ≤ 2 ^ 62 →
    IsSound g (record { objects = os; age = age })
nearly_to g os age h fits = record {
  size = h.frame.size;
  kinds = h.frame.kinds;
  annexes = h.frame.annexes;
  one_root = h.frame.one_root;
  some_root = h.frame.some_root;
  unowned = h.frame.unowned;
  owners = h.frame.owners;
  prime = h.frame.prime;
  chains = h.frame.chains;
  limits = h.frame.limits;
  shapes = λ n. (h.filled n).shape;
  words = λ n. (h.filled n).words;
  slots = λ n i. held_to os (slice_index_or (slots_in (content_at os n)) i Void) ((h.filled n).slots i);
  register_0 = λ n. (h.filled n).register_0;
  spaces = λ n. (held_to os (root_at os n).space (h.filled n).space, (h.filled n).is_space);
  age = fits;
}
