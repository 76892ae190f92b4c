-- A content with each capability in it changed stays the same otherwise.
use Rattle.capability.proofs.Names.{arith, ℕ, map, nat_tests, Geometry, Content, is_annex, is_bank, is_root, limit_in, map_content, role_of, slots_in, words_in}
use Rattle.capability.proofs.Names.{IsOfKind}
use Rattle.std.proofs.Common.{◌≡◌}

pub record IsMapped {B C : Type 0} (f : B → C) (c : Content B) (d : Content C) : Type 0 where
  pub role : role_of d ≡ role_of c
  pub root : is_root d ≡ is_root c
  pub annex : is_annex d ≡ is_annex c
  pub bank : is_bank d ≡ is_bank c
  pub words : words_in d ≡ words_in c
  pub limit : limit_in d ≡ limit_in c
  pub slots : slots_in d ≡ map f (slots_in c)

pub mapped : {B C : Type 0} (f : B → C) (c : Content B) → IsMapped f c (map_content f c)
mapped f c = grind (arith, nat_tests)

pub kind_map : {B C : Type 0} (g : Geometry) (n : ℕ) (f : B → C) (c : Content B) → IsOfKind g n c → IsOfKind g n (map_content f c)
kind_map g n f c kind = grind (arith, nat_tests)
