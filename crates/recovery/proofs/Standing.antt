-- The frame and the object at a number.
use Rattle.recovery.proofs.Names.{arith, ℕ, zero, suc, Bool, true, List, Option, Some, length, sym, ap, nat_tests, IsTrue, get_or-map, eqb-true, length-map}
use Rattle.recovery.proofs.Names.{Capability, Frame, Content, Object, Role, blank_frame, conveyed, frame_at, header_at, headers, object_of, objects_of}
use Rattle.recovery.proofs.Names.{is_annex, is_bank, is_free, is_node, is_page, is_root, is_waiting, limit_in, map_content, role_number, role_of, NamesItsKind}
use Rattle.recovery.proofs.Names.{annex_at, content_at, is_process, owner_at, root_at, HaveTheirRoles, mapped, IsRootOf, NamesItsRole, annex_in}
use Rattle.recovery.proofs.Names.{is_waiting_root, owner_of, role_at}
use Rattle.std.proofs.Common.{◌≡◌, ◌==◌, ◌∙◌}
use Rattle.model.specs.declared.object.Role.TheVariants as role

-- the header at a number is that of its frame
pub header_is : (fs : List Frame) (n : ℕ) → header_at (headers fs) n ≡ (frame_at fs n).header
header_is fs n = get_or-map (λ (f : Frame). f.header) fs n blank_frame

pub content_is : (fs : List Frame) (n : ℕ) → content_at (objects_of fs) n ≡ map_content (conveyed (headers fs)) (frame_at fs n).content
unfolding objects_of
content_is fs n = ap (λ (o : Object). o.content) (get_or-map (object_of (headers fs)) fs n blank_frame)

pub owner_is : (fs : List Frame) (n : ℕ) → owner_at (objects_of fs) n ≡ owner_of fs n
unfolding objects_of
owner_is fs n = ap (λ (o : Object). o.owner) (get_or-map (object_of (headers fs)) fs n blank_frame)

pub length_is : (fs : List Frame) → length (objects_of fs) ≡ length fs
unfolding objects_of
length_is fs = length-map fs (object_of (headers fs))

-- whether two roles are the same
abbrev pub is : Role → Role → Bool
is r s = role_number r == role_number s

role_from : ℕ → Role
role_from zero = role.Free
role_from (suc zero) = role.Page
role_from (suc (suc zero)) = role.Node
role_from (suc (suc (suc zero))) = role.Root
role_from (suc (suc (suc (suc zero)))) = role.Annex
role_from _ = role.Bank

from_number : (r : Role) → role_from (role_number r) ≡ r
unfolding role_from
from_number r = grind (arith, nat_tests)

record AreTested {C : Type 0} (c : Content C) : Type 0 where
  free : is_free c ≡ is (role_of c) role.Free
  page : is_page c ≡ is (role_of c) role.Page
  node : is_node c ≡ is (role_of c) role.Node
  root : is_root c ≡ is (role_of c) role.Root
  annex : is_annex c ≡ is (role_of c) role.Annex
  bank : is_bank c ≡ is (role_of c) role.Bank

tested : {C : Type 0} (c : Content C) → AreTested c
tested {C} c = grind (arith, nat_tests)

-- the values of equal options are equal
pub some_same : (a b : ℕ) → (let x : Option ℕ = Some a in x) ≡ Some b → a ≡ b
some_same a b same = cc

pub limit_is : (fs : List Frame) (n : ℕ) → limit_in (content_at (objects_of fs) n) ≡ limit_in (frame_at fs n).content
limit_is fs n = ap (λ (c : Content Capability). limit_in c) (content_is fs n)
    ∙ (mapped (conveyed (headers fs)) (frame_at fs n).content).limit

module _ (fs : List Frame) (p : ℕ) where
  annex_is : annex_in (content_at (objects_of fs) p) ≡ annex_in (frame_at fs p).content
  annex_is = grind (arith, nat_tests, content_is)

  -- if p is a process, its frame is a root that names the process's annex
  pub root_of : IsTrue (is_process (objects_of fs) p) → IsRootOf fs p (annex_at (objects_of fs) p)
  root_of process = grind (arith, nat_tests, annex_is)

  pub process_of : (a : ℕ) → IsRootOf fs p a → IsTrue (is_process (objects_of fs) p) × (annex_at (objects_of fs) p ≡ a)
  process_of a root = grind (arith, nat_tests, annex_is)

  waiting_is : is_waiting_root (content_at (objects_of fs) p) ≡ is_waiting_root (frame_at fs p).content
  waiting_is = grind (arith, nat_tests, content_is)

  waiting_of : IsTrue (is_waiting_root (frame_at fs p).content) → IsTrue (is_process (objects_of fs) p)
      × IsTrue (is_waiting (root_at (objects_of fs) p).state)
  waiting_of waits = grind (arith, nat_tests, waiting_is)

  waits_of : IsTrue (is_waiting (root_at (objects_of fs) p).state) → IsTrue (is_waiting_root (frame_at fs p).content)
  waits_of waits = grind (arith, nat_tests, waiting_is)

-- the kind of an object follows from its frame's role, and conversely
module _ (fs : List Frame) (roles : HaveTheirRoles fs) (n : ℕ) where
  role_is : role_of (content_at (objects_of fs) n) ≡ role_at fs n
  role_is = ap (λ (c : Content Capability). role_of c) (content_is fs n) ∙ (mapped (conveyed (headers fs)) (frame_at fs n).content).role
      ∙ sym (roles n)

  to_role : (r : Role) (b : Bool) → b ≡ is (role_of (content_at (objects_of fs) n)) r → b ≡ true → role_at fs n ≡ r
  to_role r b test passes = grind (arith, nat_tests, role_is, from_number, role_from, eqb-true)

  of_role : (r : Role) (b : Bool) → b ≡ is (role_of (content_at (objects_of fs) n)) r → role_at fs n ≡ r → b ≡ is r r
  of_role r b test same = test ∙ ap (λ (s : Role). is s r) (role_is ∙ same)

  pub free_role : is_free (content_at (objects_of fs) n) ≡ true → role_at fs n ≡ role.Free
  free_role = to_role role.Free (is_free (content_at (objects_of fs) n)) (tested (content_at (objects_of fs) n)).free

  pub role_free : role_at fs n ≡ role.Free → is_free (content_at (objects_of fs) n) ≡ true
  role_free = of_role role.Free (is_free (content_at (objects_of fs) n)) (tested (content_at (objects_of fs) n)).free

  pub page_role : is_page (content_at (objects_of fs) n) ≡ true → role_at fs n ≡ role.Page
  page_role = to_role role.Page (is_page (content_at (objects_of fs) n)) (tested (content_at (objects_of fs) n)).page

  pub role_page : role_at fs n ≡ role.Page → is_page (content_at (objects_of fs) n) ≡ true
  role_page = of_role role.Page (is_page (content_at (objects_of fs) n)) (tested (content_at (objects_of fs) n)).page

  pub node_role : is_node (content_at (objects_of fs) n) ≡ true → role_at fs n ≡ role.Node
  node_role = to_role role.Node (is_node (content_at (objects_of fs) n)) (tested (content_at (objects_of fs) n)).node

  pub role_node : role_at fs n ≡ role.Node → is_node (content_at (objects_of fs) n) ≡ true
  role_node = of_role role.Node (is_node (content_at (objects_of fs) n)) (tested (content_at (objects_of fs) n)).node

  pub root_role : is_root (content_at (objects_of fs) n) ≡ true → role_at fs n ≡ role.Root
  root_role = to_role role.Root (is_root (content_at (objects_of fs) n)) (tested (content_at (objects_of fs) n)).root

  pub role_root : role_at fs n ≡ role.Root → is_root (content_at (objects_of fs) n) ≡ true
  role_root = of_role role.Root (is_root (content_at (objects_of fs) n)) (tested (content_at (objects_of fs) n)).root

  pub annex_role : is_annex (content_at (objects_of fs) n) ≡ true → role_at fs n ≡ role.Annex
  annex_role = to_role role.Annex (is_annex (content_at (objects_of fs) n)) (tested (content_at (objects_of fs) n)).annex

  pub role_annex : role_at fs n ≡ role.Annex → is_annex (content_at (objects_of fs) n) ≡ true
  role_annex = of_role role.Annex (is_annex (content_at (objects_of fs) n)) (tested (content_at (objects_of fs) n)).annex

  pub bank_role : is_bank (content_at (objects_of fs) n) ≡ true → role_at fs n ≡ role.Bank
  bank_role = to_role role.Bank (is_bank (content_at (objects_of fs) n)) (tested (content_at (objects_of fs) n)).bank

  pub role_bank : role_at fs n ≡ role.Bank → is_bank (content_at (objects_of fs) n) ≡ true
  role_bank = of_role role.Bank (is_bank (content_at (objects_of fs) n)) (tested (content_at (objects_of fs) n)).bank

-- a capability names an object of its kind exactly if the frame has the capability's role
module _ (fs : List Frame) (roles : HaveTheirRoles fs) where
  pub names_kind : (c : Capability) → NamesItsRole fs c → NamesItsKind (objects_of fs) c
  names_kind c names = grind (arith, nat_tests, role_page, role_node, role_root, waiting_of, role_bank)

  pub names_role : (c : Capability) → NamesItsKind (objects_of fs) c → NamesItsRole fs c
  names_role c names = grind (arith, nat_tests, page_role, node_role, root_role, waits_of, bank_role)
