-- The objects of a description, as entries.
use Rattle.description.proofs.Names.{nat_tests, arith, inl, inr, ℕ, List, map, sym, subst, Contains, All-contains, Contains-append_cases, Contains-append_left}
use Rattle.description.proofs.Names.{Contains-append_right, Frame, Geometry, blank_frame, frame_at, object_count, Description, AreDistinct, HasNumbers}
use Rattle.description.proofs.Names.{IsDescribedAnnex, IsDescribed, IsDescribedNode, IsDescribedPage, IsDescribedRoot, first_frame, node_numbers, page_numbers}
use Rattle.description.proofs.Names.{Entry, OfBank, OfRoot, OfAnnex, OfNode, OfPage, entries, number_of}
use Rattle.std.proofs.Common.{◌≡◌, ◌⊎◌, ◌<◌, ◌≤◌, ◌++◌}
use Rattle.model.specs.declared.object.Content.TheVariants as content
use Rattle.description.proofs.Lists.{contains_either, contains_map, map_again, map_both, map_contains}

-- the description has this object
abbrev pub IsOf : Description → Entry → Type 0
IsOf d (OfBank b) = Contains d.banks.items b
IsOf d (OfRoot p) = Contains d.processes.items p
IsOf d (OfAnnex p) = Contains d.processes.items p
IsOf d (OfNode n) = Contains d.nodes.items n
IsOf d (OfPage p) = Contains d.pages.items p

-- the banks of a description, as entries
abbrev banks_of : Description → List Entry
banks_of d = map OfBank d.banks.items

abbrev roots_of : Description → List Entry
roots_of d = map OfRoot d.processes.items

abbrev annexes_of : Description → List Entry
annexes_of d = map OfAnnex d.processes.items

abbrev nodes_of : Description → List Entry
nodes_of d = map OfNode d.nodes.items

abbrev pages_of : Description → List Entry
pages_of d = map OfPage d.pages.items

pub of_entries : (d : Description) (e : Entry) → IsOf d e → Contains (entries d) e
of_entries d (OfBank b) h =
    Contains-append_left _ _ _ (Contains-append_left _ _ _ (Contains-append_left _ _ _ (Contains-append_left _ _ _ (contains_map _ _ _ h))))
of_entries d (OfRoot p) h = Contains-append_left (banks_of d ++ roots_of d ++ annexes_of d ++ nodes_of d) (pages_of d) (OfRoot p)
    (Contains-append_left (banks_of d ++ roots_of d ++ annexes_of d) (nodes_of d) (OfRoot p)
    (Contains-append_left (banks_of d ++ roots_of d) (annexes_of d) (OfRoot p)
    (Contains-append_right (banks_of d) (roots_of d) (OfRoot p) (contains_map _ _ _ h))))
of_entries d (OfAnnex p) h = Contains-append_left (banks_of d ++ roots_of d ++ annexes_of d ++ nodes_of d) (pages_of d) (OfAnnex p)
    (Contains-append_left (banks_of d ++ roots_of d ++ annexes_of d) (nodes_of d) (OfAnnex p)
    (Contains-append_right (banks_of d ++ roots_of d) (annexes_of d) (OfAnnex p) (contains_map _ _ _ h)))
of_entries d (OfNode n) h = Contains-append_left (banks_of d ++ roots_of d ++ annexes_of d ++ nodes_of d) (pages_of d) (OfNode n)
    (Contains-append_right (banks_of d ++ roots_of d ++ annexes_of d) (nodes_of d) (OfNode n) (contains_map _ _ _ h))
of_entries d (OfPage p) h = Contains-append_right (banks_of d ++ roots_of d ++ annexes_of d ++ nodes_of d) (pages_of d) (OfPage p)
    (contains_map _ _ _ h)

from_map : {X : Type 0} → (d : Description) (f : X → Entry) (xs : List X) (e : Entry) → ((x : X) → Contains xs x → IsOf d (f x)) →
    Contains (map f xs) e → IsOf d e
from_map d f xs e each h = let found = map_contains f e xs h in subst (IsOf d) found.2 (each found.0 found.1)

pub entries_of : (d : Description) (e : Entry) → Contains (entries d) e → IsOf d e
entries_of d e h = elim (Contains-append_cases (banks_of d ++ roots_of d ++ annexes_of d ++ nodes_of d) (pages_of d) e h) [
  | inr p ↦ from_map d OfPage d.pages.items e (λ x there. there) p
  | inl l ↦ elim (Contains-append_cases (banks_of d ++ roots_of d ++ annexes_of d) (nodes_of d) e l) [
    | inr n ↦ from_map d OfNode d.nodes.items e (λ x there. there) n
    | inl k ↦ elim (Contains-append_cases (banks_of d ++ roots_of d) (annexes_of d) e k) [
      | inr a ↦ from_map d OfAnnex d.processes.items e (λ x there. there) a
      | inl j ↦ elim (Contains-append_cases (banks_of d) (roots_of d) e j) [
        | inr r ↦ from_map d OfRoot d.processes.items e (λ x there. there) r
        | inl b ↦ from_map d OfBank d.banks.items e (λ x there. there) b
      ]
    ]
  ]
]

-- the numbers of the entries are those of the description
pub numbers_are : (d : Description) → map number_of (entries d) ≡ node_numbers d ++ page_numbers d
numbers_are d = grind (arith, nat_tests, map_both, map_again)

pub entries_distinct : (d : Description) → HasNumbers d → AreDistinct (map number_of (entries d))
entries_distinct d has = subst AreDistinct (sym (numbers_are d)) has.distinct

-- the number of the entry is in the range for its kind
abbrev pub HasRange : Geometry → Entry → Type 0
HasRange g (OfBank b) = b.number < g.nodes
HasRange g (OfRoot p) = p.root < g.nodes
HasRange g (OfAnnex p) = p.annex < g.nodes
HasRange g (OfNode n) = n.number < g.nodes
HasRange g (OfPage p) = (g.nodes ≤ p.number) × (p.number < object_count g)

-- the numbers of the banks
abbrev bank_numbers : Description → List ℕ
bank_numbers d = map (λ b. b.number) d.banks.items

abbrev root_numbers : Description → List ℕ
root_numbers d = map (λ p. p.root) d.processes.items

abbrev annex_numbers : Description → List ℕ
annex_numbers d = map (λ p. p.annex) d.processes.items

abbrev plain_numbers : Description → List ℕ
plain_numbers d = map (λ n. n.number) d.nodes.items

pub in_range : (d : Description) (e : Entry) → HasNumbers d → IsOf d e → HasRange d.geometry e
in_range d (OfBank b) has h = All-contains (λ n. n < d.geometry.nodes) _ _ has.nodes (Contains-append_left _ _ _ (Contains-append_left _ _ _
    (Contains-append_left _ _ _ (contains_map (λ c. c.number) b _ h))))
in_range d (OfRoot p) has h = All-contains (λ n. n < d.geometry.nodes) (node_numbers d) p.root has.nodes
    (Contains-append_left (bank_numbers d ++ root_numbers d ++ annex_numbers d) (plain_numbers d) p.root
    (Contains-append_left (bank_numbers d ++ root_numbers d) (annex_numbers d) p.root
    (Contains-append_right (bank_numbers d) (root_numbers d) p.root (contains_map (λ q. q.root) p d.processes.items h))))
in_range d (OfAnnex p) has h = All-contains (λ n. n < d.geometry.nodes) (node_numbers d) p.annex has.nodes
    (Contains-append_left (bank_numbers d ++ root_numbers d ++ annex_numbers d) (plain_numbers d) p.annex
    (Contains-append_right (bank_numbers d ++ root_numbers d) (annex_numbers d) p.annex
    (contains_map (λ q. q.annex) p d.processes.items h)))
in_range d (OfNode n) has h = All-contains (λ n. n < d.geometry.nodes) (node_numbers d) n.number has.nodes
    (Contains-append_right (bank_numbers d ++ root_numbers d ++ annex_numbers d) (plain_numbers d) n.number
    (contains_map (λ m. m.number) n d.nodes.items h))
in_range d (OfPage p) has h = All-contains (λ n. (d.geometry.nodes ≤ n) × (n < object_count d.geometry)) (page_numbers d) p.number has.pages
    (contains_map (λ q. q.number) p d.pages.items h)

-- the frame is that of this object
abbrev pub IsFrameOf : Entry → Frame → Type 0
IsFrameOf (OfBank b) f = f ≡ first_frame b.owner (content.Bank b.limit)
IsFrameOf (OfRoot p) f = IsDescribedRoot p f
IsFrameOf (OfAnnex p) f = IsDescribedAnnex p f
IsFrameOf (OfNode n) f = IsDescribedNode n f
IsFrameOf (OfPage p) f = IsDescribedPage p f

pub described_of : (d : Description) (fs : List Frame) (e : Entry) → IsDescribed d fs → IsOf d e → IsFrameOf e (frame_at fs (number_of e))
described_of d fs (OfBank b) is h = All-contains (λ b. frame_at fs b.number ≡ first_frame b.owner (content.Bank b.limit)) d.banks.items b
    is.banks h
described_of d fs (OfRoot p) is h = All-contains (λ p. IsDescribedRoot p (frame_at fs p.root)) d.processes.items p is.roots h
described_of d fs (OfAnnex p) is h = All-contains (λ p. IsDescribedAnnex p (frame_at fs p.annex)) d.processes.items p is.annexes h
described_of d fs (OfNode n) is h = All-contains (λ n. IsDescribedNode n (frame_at fs n.number)) d.nodes.items n is.nodes h
described_of d fs (OfPage p) is h = All-contains (λ p. IsDescribedPage p (frame_at fs p.number)) d.pages.items p is.pages h

-- at each number of the described frames there is the frame of an entry, or a free one
pub described_cases : (d : Description) (fs : List Frame) (n : ℕ) → IsDescribed d fs
    → ((e : Entry) × IsOf d e × (number_of e ≡ n) × IsFrameOf e (frame_at fs n)) ⊎ (frame_at fs n ≡ blank_frame)
described_cases d fs n is = elim (contains_either (map number_of (entries d)) n) [
  | inl h ↦
      let found = map_contains number_of n (entries d) h in
      let of = entries_of d found.0 found.1 in
      inl (found.0, of, found.2, subst (λ m. IsFrameOf found.0 (frame_at fs m)) found.2 (described_of d fs found.0 is of))
  | inr none ↦ inr (is.others n (λ h. none (subst (λ ns. Contains ns n) (sym (numbers_are d)) h)))
]
