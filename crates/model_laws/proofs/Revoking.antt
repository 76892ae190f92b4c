-- After a rescind or a consume, no capability names what was rescinded or consumed.
use Rattle.model_laws.proofs.Names.{nat_tests, ℕ, zero, suc, Bool, false, List, [], map, refl, sym, ap, arith, add-zero, zero-add, enumerate_from, Capability}
use Rattle.model_laws.proofs.Names.{Void, Object, free, slots_in, root_in, object_at, void_where, without, is_member, names_member, rescind, RescindsAll}
use Rattle.model_laws.proofs.Names.{ConsumesAll}
use Rattle.std.proofs.Common.{◌≡◌, ◌+◌, ◌∷◌, ◌∙◌, if◌then◌else◌, slice_index_or}
use Rattle.model_laws.proofs.Mapped.{void_void, without_mapped}
use Rattle.model_laws.proofs.Cases.{chosen, one_of}
use Rattle.model_laws.proofs.SoundEdits.{object_consume}

module _ (goes : Capability → Bool) (void_stays : goes Void ≡ false) where
  -- after the change a capability no longer passes the test `goes`
  gone : (c : Capability) → goes (void_where goes c) ≡ false
  gone c = chosen (λ k. goes k ≡ false) (goes c) Void c (λ _. void_stays) (λ e. e)

  -- after the change no slot and no address space of the object holds a capability that passes the test
  pub gone_from_slot : (o : Object) (i : ℕ) → goes (slice_index_or (slots_in (without goes o).content) i Void) ≡ false
  gone_from_slot o i = ap goes ((without_mapped goes o).slot (void_void goes) i) ∙ gone (slice_index_or (slots_in o.content) i Void)

  pub gone_from_space : (o : Object) → goes (root_in (without goes o).content).space ≡ false
  gone_from_space o = ap goes ((without_mapped goes o).space (void_void goes)) ∙ gone (root_in o.content).space

-- a consume only makes capabilities void, and after it none resumes the process
pub consumes_all : ConsumesAll
consumes_all p os = grind (arith, nat_tests, object_consume, gone_from_slot, gone_from_space)

-- an object with its number, after a rescind
abbrev after_rescind : List ℕ → ℕ × Object → Object
after_rescind set p = if is_member set p.0 then free else without (names_member set) p.1

-- a free object stays free
free_stays : (set : List ℕ) (n : ℕ) → free ≡ after_rescind set (n, free)
free_stays set n = one_of (λ o. free ≡ o) (is_member set n) free _ refl refl

at_rescind_from : (set : List ℕ) (os : List Object) (k n : ℕ) →
    object_at (map (after_rescind set) (enumerate_from k os)) n ≡ after_rescind set (k + n, object_at os n)
at_rescind_from set [] k n = free_stays set (k + n)
at_rescind_from set (o ∷ os) k zero = ap (λ j. after_rescind set (j, o)) (sym (add-zero k))
at_rescind_from set (o ∷ os) k (suc n) =
    let same : k + 1 + n ≡ k + suc n = omega arith in
    at_rescind_from set os (k + 1) n ∙ ap (λ j. after_rescind set (j, object_at os n)) same

-- the object at a number after a rescind: free if the number is a member, else without capabilities to members
pub at_rescind : (set : List ℕ) (os : List Object) (n : ℕ) →
    object_at (rescind set os) n ≡ (if is_member set n then free else without (names_member set) (object_at os n))
unfolding rescind
at_rescind set os n = at_rescind_from set os 0 n ∙ ap (λ j. after_rescind set (j, object_at os n)) (zero-add n)

pub rescinds_all : RescindsAll
rescinds_all set os = grind (arith, nat_tests, at_rescind, one_of, gone_from_slot, gone_from_space)
