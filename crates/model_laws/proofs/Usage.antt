-- Banks have the same chains and usages in lists of objects that agree in owners, roles, annexes and limits.
use Rattle.model_laws.proofs.Names.{arith, nat_tests, ℕ, zero, suc, Bool, not, List, length, refl, ap, Capability, Geometry, Content, Object, free, is_free}
use Rattle.model_laws.proofs.Names.{is_page, is_node, is_root, is_annex, is_bank, role_of, limit_in, root_in, object_at, content_at, owner_at, chain_within}
use Rattle.model_laws.proofs.Names.{chain, is_under, usage, IsOfKind}
use Rattle.std.proofs.Common.{◌≡◌, ◌==◌, ◌&&◌}
use Rattle.model_laws.proofs.Counts.{count_alike}

-- two objects with the same owner, role, annex and limit; the rest may differ
pub record AreAlike (x y : Object) : Type 0 where
  pub owner : y.owner ≡ x.owner
  pub role : role_of y.content ≡ role_of x.content
  pub annex : (root_in y.content).annex ≡ (root_in x.content).annex
  pub limit : limit_in y.content ≡ limit_in x.content

-- two lists of objects agree in owners, roles, annexes and limits: at each number the objects are alike
pub record SameFrame (os us : List Object) : Type 0 where
  pub size : length us ≡ length os
  pub alike : (n : ℕ) → AreAlike (object_at os n) (object_at us n)

pub alike_refl : (x : Object) → AreAlike x x
alike_refl x = record { owner = refl; role = refl; annex = refl; limit = refl }

pub frame_trans : (os us vs : List Object) → SameFrame os us → SameFrame us vs → SameFrame os vs
frame_trans os us vs p q = grind (arith, nat_tests)

pub frame_refl : (os : List Object) → SameFrame os os
frame_refl os = record { size = refl; alike = λ n. alike_refl (object_at os n) }

-- contents of the same role pass the same tests
pub record SameTests (c d : Content Capability) : Type 0 where
  pub free : is_free d ≡ is_free c
  pub page : is_page d ≡ is_page c
  pub node : is_node d ≡ is_node c
  pub root : is_root d ≡ is_root c
  pub annex : is_annex d ≡ is_annex c
  pub bank : is_bank d ≡ is_bank c
  pub kind : (g : Geometry) (n : ℕ) → IsOfKind g n c → IsOfKind g n d

pub same_tests : (c d : Content Capability) → role_of d ≡ role_of c → SameTests c d
same_tests c d e = grind (arith, nat_tests)

pub tests_at : (os us : List Object) → SameFrame os us → (n : ℕ) → SameTests (content_at os n) (content_at us n)
tests_at os us s n = same_tests (content_at os n) (content_at us n) (s.alike n).role

-- chains and usages depend only on owners, roles, annexes and limits (`SameFrame`)
chain_within_same : (k : ℕ) (os us : List Object) → SameFrame os us → (b : ℕ) → chain_within k us b ≡ chain_within k os b
chain_within_same zero os us s b = refl
chain_within_same (suc k) os us s b =
    rw (s.alike b).owner (rw (chain_within_same k os us s (owner_at os b)) refl)

pub chain_same : (os us : List Object) → SameFrame os us → (b : ℕ) → chain us b ≡ chain os b
unfolding chain
chain_same os us s b = chain_within_same 16 os us s b

pub under_same : (os us : List Object) → SameFrame os us → (b : ℕ) (x y : Object) → AreAlike x y → is_under us b y ≡ is_under os b x
under_same os us s b x y a = rw ((same_tests x.content y.content a.role).free, a.owner, chain_same os us s x.owner) refl

pub usage_same : (os us : List Object) → SameFrame os us → (b : ℕ) → usage us b ≡ usage os b
unfolding usage
usage_same os us s b =
    count_alike (λ p. not (p.0 == b) && is_under us b p.1) (λ p. not (p.0 == b) && is_under os b p.1) os us free s.size
    (λ i. ap (λ (u : Bool). not (i == b) && u) (under_same os us s b (object_at os i) (object_at us i) (s.alike i)))
