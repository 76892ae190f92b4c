-- In described frames every count is 0, and each object has a number for its kind.
use Rattle.description.proofs.Names.{nat_tests, arith, inl, inr, ℕ, List, refl, sym, ap, subst, get_or-map, Cap, Capability, Frame, ObjectHeader, Geometry}
use Rattle.description.proofs.Names.{Content, blank_frame, current_count, frame_at, header_at, headers, role_of, IsOfKind, object_count, Description}
use Rattle.description.proofs.Names.{NamesItsRole, HasNumbers, IsDescribed, first_frame, Entry, number_of, IsTarget}
use Rattle.std.proofs.Common.{◌≡◌, ◌≢◌, ◌<◌, ◌≤◌, ◌∙◌}
use Rattle.model.specs.declared.object.Role.TheVariants as role
use Rattle.description.proofs.Entries.{HasRange, IsFrameOf, described_cases, in_range}

-- the frame of an object that was never rescinded, at a number for its kind
pub record IsFirst (g : Geometry) (n : ℕ) (f : Frame) : Type 0 where
  pub role : f.header.role ≡ role_of f.content
  pub allocations : f.header.allocations ≡ 0
  pub calls : f.header.calls ≡ 0
  pub kind : IsOfKind g n f.content

first_is : (g : Geometry) (n owner : ℕ) (c : Content Cap) → IsOfKind g n c → IsFirst g n (first_frame owner c)
first_is g n owner c kind = record { role = refl; allocations = refl; calls = refl; kind = kind }

first_entry : (g : Geometry) (e : Entry) (f : Frame) → HasRange g e → IsFrameOf e f → IsFirst g (number_of e) f
first_entry g e f range frame = grind (arith, nat_tests, first_is)

blank_first : (g : Geometry) (n : ℕ) → IsFirst g n blank_frame
blank_first g n = record { role = refl; allocations = refl; calls = refl; kind = tt }

pub first_at : (d : Description) (fs : List Frame) (n : ℕ) → HasNumbers d → IsDescribed d fs → IsFirst d.geometry n (frame_at fs n)
first_at d fs n numbers is = elim (described_cases d fs n is) [
  | inl c ↦ subst (λ m. IsFirst d.geometry m (frame_at fs n)) c.2 (first_entry d.geometry c.0 (frame_at fs n) (in_range d c.0 numbers c.1)
      c.3)
  | inr blank ↦ subst (IsFirst d.geometry n) (sym blank) (blank_first d.geometry n)
]

header_in : (fs : List Frame) (n : ℕ) → header_at (headers fs) n ≡ (frame_at fs n).header
header_in fs n = get_or-map (λ (f : Frame). f.header) fs n blank_frame

-- every allocation count of described frames is 0
no_allocations : (d : Description) (fs : List Frame) (n : ℕ) → HasNumbers d → IsDescribed d fs → 0 ≡ (header_at (headers fs) n).allocations
no_allocations d fs n numbers is = sym (ap (λ (h : ObjectHeader). h.allocations) (header_in fs n)
    ∙ (first_at d fs n numbers is).allocations)

no_calls : (d : Description) (fs : List Frame) (n : ℕ) → HasNumbers d → IsDescribed d fs → 0 ≡ (header_at (headers fs) n).calls
no_calls d fs n numbers is = sym (ap (λ (h : ObjectHeader). h.calls) (header_in fs n) ∙ (first_at d fs n numbers is).calls)

pub never_raised : (d : Description) (fs : List Frame) (c : Capability) → HasNumbers d → IsDescribed d fs → 0 ≡ current_count (headers fs) c
never_raised d fs c numbers is = grind (arith, nat_tests, no_allocations, no_calls)

-- ---- the ranges of numbers for each kind

of_node : (g : Geometry) (n : ℕ) (c : Content Cap) → IsOfKind g n c → role_of c ≢ role.Free → role_of c ≢ role.Page → n < g.nodes
of_node g n c kind some other = search arith

not_page_node : role.Node ≢ role.Page
not_page_node is = cc

not_page_root : role.Root ≢ role.Page
not_page_root is = cc

not_page_bank : role.Bank ≢ role.Page
not_page_bank is = cc

module _ (d : Description) (fs : List Frame) (numbers : HasNumbers d) (is : IsDescribed d fs) where
  a_page : (o : ℕ) → (frame_at fs o).header.role ≡ role.Page → (d.geometry.nodes ≤ o) × (o < object_count d.geometry)
  a_page o role = let first = first_at d fs o numbers is in search (arith, first.kind, sym first.role ∙ role)

  a_node : (o : ℕ) → (frame_at fs o).header.role ≡ role.Node → o < d.geometry.nodes
  a_node o role = let first = first_at d fs o numbers is in
      of_node d.geometry o (frame_at fs o).content first.kind (λ e. cc) (λ e. not_page_node (sym role ∙ first.role ∙ e))

  a_root : (o : ℕ) → (frame_at fs o).header.role ≡ role.Root → o < d.geometry.nodes
  a_root o role = let first = first_at d fs o numbers is in
      of_node d.geometry o (frame_at fs o).content first.kind (λ e. cc) (λ e. not_page_root (sym role ∙ first.role ∙ e))

  a_bank : (o : ℕ) → (frame_at fs o).header.role ≡ role.Bank → o < d.geometry.nodes
  a_bank o role = let first = first_at d fs o numbers is in
      of_node d.geometry o (frame_at fs o).content first.kind (λ e. cc) (λ e. not_page_bank (sym role ∙ first.role ∙ e))

  pub role_target : (c : Capability) → NamesItsRole fs c → IsTarget d.geometry c
  role_target c names = grind (arith, nat_tests, a_page, a_node, a_root, first_at, a_bank)
