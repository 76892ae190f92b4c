-- A content with each capability in it changed stays the same otherwise.
use Rattle.model_laws.proofs.Names.{arith, nat_tests, ℕ, zero, suc, Bool, List, [], map, get_or, refl, sym, Capability, Void, Content, Object, is_bank, is_free}
use Rattle.model_laws.proofs.Names.{is_root, limit_in, map_content, role_of, root_in, slots_in, void_where, without}
use Rattle.std.proofs.Common.{◌≡◌, ◌∷◌}
use Rattle.model_laws.proofs.Cases.{one_of}
use Rattle.model_laws.proofs.Usage.{AreAlike}

pub at_map : {X : Type 0} (f : X → X) (xs : List X) (i : ℕ) (d : X) → f d ≡ d → get_or (map f xs) i d ≡ f (get_or xs i d)
at_map f [] i d e = sym e
at_map f (x ∷ xs) zero d e = refl
at_map f (x ∷ xs) (suc i) d e = at_map f xs i d e

pub void_void : (goes : Capability → Bool) → void_where goes Void ≡ Void
void_void goes = one_of (λ c. c ≡ Void) (goes Void) Void Void refl refl

pub record IsMapped (f : Capability → Capability) (c d : Content Capability) : Type 0 where
  pub role : role_of d ≡ role_of c
  pub free : is_free d ≡ is_free c
  pub root : is_root d ≡ is_root c
  pub bank : is_bank d ≡ is_bank c
  pub limit : limit_in d ≡ limit_in c
  pub state : (root_in d).state ≡ (root_in c).state
  pub annex : (root_in d).annex ≡ (root_in c).annex
  pub space : f Void ≡ Void → (root_in d).space ≡ f (root_in c).space
  pub slot : f Void ≡ Void → (i : ℕ) → get_or (slots_in d) i Void ≡ f (get_or (slots_in c) i Void)

pub mapped : (f : Capability → Capability) (c : Content Capability) → IsMapped f c (map_content f c)
mapped f c = grind (arith, nat_tests, at_map)

-- voiding some capabilities of an object maps its content (`IsMapped`)
pub without_mapped : (goes : Capability → Bool) (o : Object) → IsMapped (void_where goes) o.content (without goes o).content
without_mapped goes o = mapped (void_where goes) o.content

pub alike_without : (goes : Capability → Bool) (o : Object) → AreAlike o (without goes o)
alike_without goes o = grind (arith, nat_tests)
