-- The worlds that scripts begin with are sound.
use Rattle.model_laws.proofs.Names.{nat_tests, ℕ, false, zero, suc, true, List, [], length, replicate, refl, sym, subst, inl, inr, arith, false≢true, IsTrue}
use Rattle.model_laws.proofs.Names.{slice_index, slice_index_or, slice_set, Contains, Capability, Void, Page, Node, Process, Start, Bank, Geometry, Content}
use Rattle.model_laws.proofs.Names.{Object, State, Available, Running, full, free, all_slots, zero_words, is_free, is_root, is_annex, is_bank, words_in}
use Rattle.model_laws.proofs.Names.{slots_in, limit_in, root_in, World, object_at, content_at, owner_at, slot_at, annex_at, is_process, chain, usage, IsOfKind}
use Rattle.model_laws.proofs.Names.{HasShape, IsSpace, MayBeHeld, IsSound, object_count, small, of_prime_bank, fresh_root, prime_bank, f0, i0}
use Rattle.std.proofs.Common.{◌≡◌, ◌≢◌, ◌⊎◌, ◌+◌, ◌^◌, ◌<◌, ◌≤◌, ◌∷◌, ◌++◌, ◌∙◌}
use Rattle.model.specs.declared.object.Content.TheVariants as content
use Rattle.model_laws.proofs.SoundEdits.{at_set}

-- if all elements of a list and its default have a property, they still do after an element with it is set
pub holds_set : {C : Type 0} (P : C → Type 0) (xs : List C) (i : ℕ) (c d : C) → P c → ((j : ℕ) → P (slice_index_or xs j d))
    → (j : ℕ) → P (slice_index_or (slice_set xs i c) j d)
holds_set P xs i c d new old j = at_set (λ k x. P x) xs i j c d new (old j)

pub holds_replicate : {C : Type 0} (P : C → Type 0) (n : ℕ) (c d : C) → P c → P d → (j : ℕ) → P (slice_index_or (replicate n c) j d)
holds_replicate P zero c d new old j = old
holds_replicate P (suc n) c d new old zero = new
holds_replicate P (suc n) c d new old (suc j) = holds_replicate P n c d new old j

-- a property of void holds of each slot of a new node
pub holds_void : (P : Capability → Type 0) → P Void → (i : ℕ) → P (slice_index_or (all_slots Void) i Void)
unfolding all_slots
holds_void P void i = holds_replicate P 32 Void Void void void i

pub zero_words_fit : (i : ℕ) → slice_index zero_words i < 2 ^ 64
unfolding zero_words
zero_words_fit i = holds_replicate (λ n. n < 2 ^ 64) 512 0 0 (omega arith) (omega arith) i

pub zero_words_length : length zero_words ≡ 512
unfolding zero_words
zero_words_length = refl

pub all_slots_length : length (all_slots Void) ≡ 32
unfolding all_slots
all_slots_length = refl

-- a property of each object of a list together with its number
abbrev pub Each : (ℕ → Object → Type 0) → ℕ → List Object → Type 0
Each P k [] = Unit {0}
Each P k (o ∷ os) = P k o × Each P (k + 1) os

-- if `Each` holds of a list, and P of free objects at all numbers, P holds at each number
pub each_at : (P : ℕ → Object → Type 0) (k : ℕ) (os : List Object) → Each P k os → ((m : ℕ) → P m free)
    → (n m : ℕ) → m ≡ k + n → P m (slice_index_or os n free)
each_at P k [] each blank n m e = blank m
each_at P k (o ∷ os) each blank zero m e = grind (arith, nat_tests)
each_at P k (o ∷ os) each blank (suc n) m e = each_at P (k + 1) os each.1 blank n m (omega (arith, e))

-- if P holds of free objects at all numbers, and `Each` of a list, `Each` holds of m free objects and then the list
pub each_after : (P : ℕ → Object → Type 0) (m k j : ℕ) (os : List Object) → ((n : ℕ) → P n free) → j ≡ k + m → Each P j os
    → Each P k (replicate m free ++ os)
each_after P zero k j os blank e each = grind (arith, nat_tests)
each_after P (suc m) k j os blank e each = (blank k, each_after P m (k + 1) j os blank (omega (arith, e)) each)

-- the registers of a process: 32, and the first is void
abbrev AreRegisters : List Capability → Type 0
AreRegisters registers = (length registers ≡ 32) × (slice_index_or registers 0 Void ≡ Void)

-- object n is valid: its slots hold only capabilities in H, and an annex comes directly after its root
record IsInPlace (g : Geometry) (os : List Object) (H : Capability → Type 0) (n : ℕ) (o : Object) : Type 0 where
  kind : IsOfKind g n o.content
  shape : HasShape o.content
  words : (i : ℕ) → slice_index (words_in o.content) i < 2 ^ 64
  slots : (i : ℕ) → H (slice_index_or (slots_in o.content) i Void)
  register_0 : IsTrue (is_annex o.content) → slice_index_or (slots_in o.content) 0 Void ≡ Void
  space : (root_in o.content).space ≡ Void
  annex : IsTrue (is_root o.content) → IsTrue (is_annex (content_at os (root_in o.content).annex))
      × (owner_at os (root_in o.content).annex ≡ o.owner)
  next : IsTrue (is_root o.content) → (root_in o.content).annex ≡ n + 1
  some_root : IsTrue (is_annex o.content) → (p : ℕ) × IsTrue (is_process os p) × (annex_at os p ≡ n)
  unowned : IsTrue (is_free o.content) → o.owner ≡ 0
  owned : is_free o.content ≢ true → IsTrue (is_bank (content_at os o.owner))
  chains : IsTrue (is_bank o.content) → Contains (chain os n) 0
  limits : IsTrue (is_bank o.content) → usage os n ≤ limit_in o.content

-- a world is sound if each object is valid (`IsInPlace`), and may hold its capabilities
sound_from : (g : Geometry) (w : World) (H : Capability → Type 0) → length w.objects ≡ object_count g
    → IsTrue (is_bank (content_at w.objects 0)) → owner_at w.objects 0 ≡ 0 → w.age ≤ 2 ^ 62
    → ((c : Capability) → H c → MayBeHeld w.objects c) → ((n : ℕ) → IsInPlace g w.objects H n (object_at w.objects n)) → IsSound g w
sound_from g w H size bank own age may at = record {
  size = size;
  kinds = λ n. (at n).kind;
  shapes = λ n. (at n).shape;
  words = λ n. (at n).words;
  slots = λ n i. may (slot_at w.objects n i) ((at n).slots i);
  register_0 = λ a. (at a).register_0;
  spaces = λ p. subst (λ c. MayBeHeld w.objects c × IsSpace c) (sym (at p).space) ((tt, tt), tt);
  annexes = λ p. (at p).annex;
  one_root = λ p q is iq same. omega (arith, sym ((at p).next is) ∙ (same ∙ (at q).next iq));
  some_root = λ a. (at a).some_root;
  unowned = λ n. (at n).unowned;
  owners = λ n. (at n).owned;
  prime = (bank, own);
  chains = λ b. (at b).chains;
  limits = λ b. (at b).limits;
  age = age;
}

module _ (g : Geometry) (os : List Object) (H : Capability → Type 0) (bank : IsTrue (is_bank (content_at os 0))) (void : H Void) where
  -- an object that is no bank, root or annex is valid (`IsInPlace`)
  plain_in_place : (n : ℕ) (c : Content Capability) → is_bank c ≡ false → is_root c ≡ false → is_annex c ≡ false → (root_in c).space ≡ Void
      → IsOfKind g n c → HasShape c → ((i : ℕ) → slice_index (words_in c) i < 2 ^ 64) → ((i : ℕ) → H (slice_index_or (slots_in c) i Void))
      → IsInPlace g os H n (of_prime_bank c)
  plain_in_place n c no_bank no_root no_annex space kind shape words slots = grind (arith, nat_tests)

  free_in_place : (n : ℕ) → IsInPlace g os H n free
  free_in_place n = plain_in_place n content.Free refl refl refl refl tt tt (λ i. omega arith) (λ i. void)

  node_in_place : (n : ℕ) → n < g.nodes → IsInPlace g os H n (of_prime_bank (content.Node (all_slots Void)))
  node_in_place n fits = plain_in_place n (content.Node (all_slots Void)) refl refl refl refl fits all_slots_length (λ i. omega arith)
      (holds_void H void)

  page_in_place : (n : ℕ) → g.nodes ≤ n → n < object_count g → IsInPlace g os H n (of_prime_bank (content.Page zero_words))
  page_in_place n from fits = plain_in_place n (content.Page zero_words) refl refl refl refl (from, fits) zero_words_length zero_words_fit
      (λ i. void)

  bank_in_place : 0 < g.nodes → usage os 0 ≤ 1000 → IsInPlace g os H 0 prime_bank
  unfolding chain
  bank_in_place fits within = grind (arith, nat_tests)

  root_in_place : (n annex : ℕ) (s : State) → n < g.nodes → annex ≡ n + 1 → IsTrue (is_annex (content_at os annex)) → owner_at os annex ≡ 0
      → IsInPlace g os H n (fresh_root s annex)
  root_in_place n annex s fits next is_there own = grind (arith, nat_tests)

  annex_in_place : (n p : ℕ) (registers : List Capability) → n < g.nodes → AreRegisters registers
      → ((i : ℕ) → H (slice_index_or registers i Void))
      → IsTrue (is_process os p) → annex_at os p ≡ n → IsInPlace g os H n (of_prime_bank (content.Annex registers))
  annex_in_place n p registers fits are held is_there same = grind (arith, nat_tests)

are_void : AreRegisters (all_slots Void)
unfolding all_slots
are_void = (refl, refl)

-- the capabilities in the slots of world F0
abbrev IsInF0 : Capability → Type 0
IsInF0 c = (c ≡ Void) ⊎ (c ≡ Node 5 full) ⊎ (c ≡ Page 16 full)

abbrev f0_registers : List Capability
f0_registers = slice_set (slice_set (all_slots Void) 5 (Node 5 full)) 6 (Page 16 full)

are_f0_registers : AreRegisters f0_registers
unfolding all_slots
are_f0_registers = (refl, refl)

f0_held : (i : ℕ) → IsInF0 (slice_index_or f0_registers i Void)
f0_held =
    holds_set IsInF0 (slice_set (all_slots Void) 5 (Node 5 full)) 6 (Page 16 full) Void (inr (inr refl))
    (holds_set IsInF0 (all_slots Void) 5 (Node 5 full) Void (inr (inl refl)) (holds_void IsInF0 (inl refl)))

f0_usage : usage f0.objects 0 ≤ 1000
unfolding f0 chain usage
f0_usage = omega arith

f0_in_place : (n : ℕ) → IsInPlace small f0.objects IsInF0 n (object_at f0.objects n)
unfolding f0
f0_in_place n =
    let os : List Object = f0.objects in
    let P : ℕ → Object → Type 0 = IsInPlace small os IsInF0 in
    let blank : (m : ℕ) → P m free = free_in_place small os IsInF0 refl (inl refl) in
    each_at P 0 os (
      bank_in_place small os IsInF0 refl (inl refl) (omega arith) f0_usage,
      (
        root_in_place small os IsInF0 refl (inl refl) 1 2 Running (omega arith) refl refl refl,
        (
          annex_in_place small os IsInF0 refl (inl refl) 2 1 f0_registers (omega arith) are_f0_registers f0_held refl refl,
          (
            blank 3,
            (
              blank 4,
              (
                node_in_place small os IsInF0 refl (inl refl) 5 (omega arith),
                each_after P 10 6 16 (of_prime_bank (content.Page zero_words) ∷ replicate 7 free) blank refl
                    (page_in_place small os IsInF0 refl (inl refl) 16 (omega arith) (omega arith), each_after P 7 17 24 [] blank refl tt),
              ),
            ),
          ),
        ),
      ),
    ) blank n n (omega arith)

f0_may : (c : Capability) → IsInF0 c → MayBeHeld f0.objects c
unfolding f0
f0_may c held = grind (arith, nat_tests)

pub f0_sound : IsSound small f0
unfolding f0
f0_sound = sound_from small f0 IsInF0 refl refl refl (omega arith) f0_may f0_in_place

abbrev i0_registers : List Capability
i0_registers = slice_set (slice_set (slice_set (slice_set (all_slots Void) 1 (Process 1)) 2 (Bank 0)) 3 (Start 3 7)) 4 (Process 3)

are_i0_registers : AreRegisters i0_registers
unfolding all_slots
are_i0_registers = (refl, refl)

i0_held : (i : ℕ) → MayBeHeld i0.objects (slice_index_or i0_registers i Void)
unfolding i0
i0_held =
    let P : Capability → Type 0 = MayBeHeld i0.objects in
    holds_set P (slice_set (slice_set (slice_set (all_slots Void) 1 (Process 1)) 2 (Bank 0)) 3 (Start 3 7)) 4 (Process 3) Void (tt, refl)
    (holds_set P (slice_set (slice_set (all_slots Void) 1 (Process 1)) 2 (Bank 0)) 3 (Start 3 7) Void (omega arith, refl)
    (holds_set P (slice_set (all_slots Void) 1 (Process 1)) 2 (Bank 0) Void (tt, refl)
    (holds_set P (all_slots Void) 1 (Process 1) Void (tt, refl) (holds_void P (tt, tt)))))

i0_usage : usage i0.objects 0 ≤ 1000
unfolding i0 chain usage
i0_usage = omega arith

i0_in_place : (n : ℕ) → IsInPlace small i0.objects (MayBeHeld i0.objects) n (object_at i0.objects n)
unfolding i0
i0_in_place n =
    let os : List Object = i0.objects in
    let H : Capability → Type 0 = MayBeHeld os in
    let P : ℕ → Object → Type 0 = IsInPlace small os H in
    let blank : (m : ℕ) → P m free = free_in_place small os H refl (tt, tt) in
    each_at P 0 os (
      bank_in_place small os H refl (tt, tt) (omega arith) i0_usage,
      (
        root_in_place small os H refl (tt, tt) 1 2 Running (omega arith) refl refl refl,
        (
          annex_in_place small os H refl (tt, tt) 2 1 i0_registers (omega arith) are_i0_registers i0_held refl refl,
          (
            root_in_place small os H refl (tt, tt) 3 4 Available (omega arith) refl refl refl,
            (
              annex_in_place small os H refl (tt, tt) 4 3 (all_slots Void) (omega arith) are_void (holds_void H (tt, tt)) refl refl,
              each_after P 19 5 24 [] blank refl tt,
            ),
          ),
        ),
      ),
    ) blank n n (omega arith)

pub i0_sound : IsSound small i0
unfolding i0
i0_sound = sound_from small i0 (MayBeHeld i0.objects) refl refl refl (omega arith) (λ c held. held) i0_in_place
