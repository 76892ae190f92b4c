-- What members of a closed set hold, in a sound world.
use Rattle.reach.proofs.Names.{ℕ, zero, suc, Bool, false, List, [], length, refl, sym, ap, arith, IsTrue, All, get_or_default, Capability, Void, Content}
use Rattle.reach.proofs.Names.{Object, free, is_root, slots_in, content_at, slot_at, NamesWithin, AreSoundObjects}
use Rattle.std.specs.Prelude.{slice_index_or}
use Rattle.std.proofs.Common.{◌≡◌, ◌<◌, ◌∷◌, ◌∙◌}
use Rattle.model.specs.declared.object.Content.TheVariants as content

-- a number that isn't free is the number of an object
pub known : (os : List Object) (n : ℕ) (test : Content Capability → Bool) → test content.Free ≡ false → IsTrue (test (content_at os n)) →
    n < length os
known [] n test none passes = let no : false ≡ test content.Free = sym none in absurd (cc)
known (o ∷ os) zero test none passes = omega arith
known (o ∷ os) (suc n) test none passes = let later : n < length os = known os n test none passes in omega (arith, later)

-- the number of a process is the number of an object
pub processes_known : (os : List Object) (ns : List ℕ) → All (λ n. IsTrue (is_root (content_at os n))) ns → All (λ n. n < length os) ns
processes_known os ns all k d lt = known os (slice_index_or ns k d) is_root refl (all k d lt)

-- the content of an object in a slice is the content at its number
pub content_is : (os : List Object) (n : ℕ) (o : Object) (x : Content Capability) → n < length os → (slice_index_or os n o).content ≡ x →
    content_at os n ≡ x
content_is os n o x lt content = ap (λ (p : Object). p.content) (get_or_default os n free o lt) ∙ content

-- the capability in a slot of an object with these slots
pub slot_is : (os : List Object) (n : ℕ) (slots : List Capability) → slots_in (content_at os n) ≡ slots → (k : ℕ) (d : Capability) →
    k < length slots → slot_at os n k ≡ slice_index_or slots k d
slot_is os n slots is k d lt = ap (λ (l : List Capability). slice_index_or l k Void) is ∙ get_or_default slots k Void d lt

pub slots_known : (os : List Object) (n count : ℕ) (slots : List Capability) → AreSoundObjects os → count ≡ length os →
    slots_in (content_at os n) ≡ slots → All (NamesWithin count) slots
slots_known os n count slots sound same is k d lt =
    rw same (rw (← slot_is os n slots is k d lt) (search (arith, known, (slot_at os n k), (sound.2.slots n k).1)))
