-- The boxes and owners in the graph are those of the world.
use Rattle.image_drawer.proofs.Names.{ℕ, true, false, inl, inr, List, [], map, refl, sym, ap, subst, arith, Contains, flat_map, cases_eq, nat_tests}
use Rattle.image_drawer.proofs.Names.{Contains-append_cases, Contains-append_left, Contains-append_right, flat_map-map, Capability, Geometry, Content, Object}
use Rattle.image_drawer.proofs.Names.{free, is_annex, is_free, World, object_at, owner_at, Description, AreDistinct, node_numbers, page_numbers, Entry, OfAnnex}
use Rattle.image_drawer.proofs.Names.{OfBank, OfNode, OfPage, OfRoot, number_of, IsOf, described_cases, contains_cases, contains_here, contains_map}
use Rattle.image_drawer.proofs.Names.{contains_none, map_again, map_both, map_contains, Describes, plain_frames, boxes, joined, owners, BoxesAreObjects, HasBox}
use Rattle.image_drawer.proofs.Names.{IsOnce, IsOwner, OwnersAreOwners, distinct_apart, distinct_left, distinct_right}
use Rattle.std.proofs.Common.{◌≡◌, ◌≢◌, ◌∷◌, ◌++◌, ◌∙◌, ◌==◌}
use Rattle.model.specs.declared.object.Content.TheVariants as content
use Rattle.image_drawer.proofs.Once.{contains_flat, flat_contains, once_append, once_distinct, once_flat}
use Rattle.image_drawer.proofs.Texts.{flat_map-four}
use Rattle.image_drawer.proofs.Reported.{annex_reported, bank_reported, free_reported, node_reported, page_reported, root_reported}

-- the banks, each in a pair with its owner
abbrev bank_parts : Description → List (ℕ × ℕ)
bank_parts d = map (λ b. (b.owner, b.number)) d.banks.items

abbrev root_parts : Description → List (ℕ × ℕ)
root_parts d = map (λ p. (p.owner, p.root)) d.processes.items

abbrev node_parts : Description → List (ℕ × ℕ)
node_parts d = map (λ n. (n.owner, n.number)) d.nodes.items

abbrev page_parts : Description → List (ℕ × ℕ)
page_parts d = map (λ p. (p.owner, p.number)) d.pages.items

abbrev parts : Description → List (ℕ × ℕ)
parts d = bank_parts d ++ root_parts d ++ node_parts d ++ page_parts d

abbrev owned : ℕ × ℕ → ℕ
owned p = p.1

abbrev joined_part : ℕ × ℕ → List (ℕ × ℕ)
joined_part p = joined p.0 p.1

boxes_are : (d : Description) → map owned (parts d) ≡ boxes d
boxes_are d = grind (arith, nat_tests, map_both, map_again)

owners_are : (d : Description) → flat_map joined_part (parts d) ≡ owners d
owners_are d = grind (arith, nat_tests, flat_map-four, flat_map-map)

-- if the numbers are distinct, so are the boxes
boxes_once : (d : Description) → AreDistinct (node_numbers d ++ page_numbers d) → IsOnce (boxes d)
boxes_once d distinct =
    let B : List ℕ = map (λ b. b.number) d.banks.items in
    let R : List ℕ = map (λ p. p.root) d.processes.items in
    let A : List ℕ = map (λ p. p.annex) d.processes.items in
    let N : List ℕ = map (λ n. n.number) d.nodes.items in
    let P : List ℕ = map (λ p. p.number) d.pages.items in
    let nodes : AreDistinct (B ++ R ++ A ++ N) = distinct_left _ P distinct in
    once_append _ P (once_append _ N (once_distinct _ (distinct_left _ A (distinct_left _ N nodes)))
    (once_distinct N (distinct_right _ N nodes))
    (λ n one two. distinct_apart (B ++ R ++ A) N nodes n (Contains-append_left _ A n one) two))
    (once_distinct P (distinct_right _ P distinct))
    (λ n one two. distinct_apart (B ++ R ++ A ++ N) P distinct n (elim (Contains-append_cases _ N n one) [
      | inl left ↦ Contains-append_left _ N n (Contains-append_left _ A n left)
      | inr right ↦ Contains-append_right _ N n right
    ]) two)

-- an object that owns itself isn't joined to its owner
joined_none : (owner number : ℕ) → owner ≡ number → joined owner number ≡ []
joined_none owner number is = let test : (owner == number) ≡ true = grind (arith, nat_tests) in rw test refl

joined_some : (owner number : ℕ) → owner ≢ number → joined owner number ≡ (owner, number) ∷ []
joined_some owner number differ = let test : (owner == number) ≡ false = grind (arith, nat_tests) in rw test refl

in_joined : (owner number : ℕ) (p : ℕ × ℕ) → Contains (joined owner number) p → ((owner, number) ≡ p) × (owner ≢ number)
in_joined owner number p h = grind (arith, nat_tests, contains_none, joined_none, contains_cases, joined_some)

joined_once : (owner number : ℕ) → IsOnce (joined owner number)
joined_once owner number = elim (cases_eq owner number) [
  | inl is ↦ subst (λ (ps : List (ℕ × ℕ)). IsOnce ps) (sym (joined_none owner number is)) tt
  | inr differ ↦ subst (λ (ps : List (ℕ × ℕ)). IsOnce ps) (sym (joined_some owner number differ))
      ((λ h. contains_none (owner, number) h), tt)
]

-- The parameters: a world and its description.
module _ (g : Geometry) (w : World) (d : Description) (describes : Describes g w d) where
  has_box : (n owner : ℕ) (c : Content Capability) → object_at w.objects n ≡ record { owner = owner; content = c } → is_free c ≡ false →
      is_annex c ≡ false → HasBox w.objects n × (owner_at w.objects n ≡ owner)
  has_box n owner c is free annex = (
    (ap (λ (o : Object). is_free o.content) is ∙ free, ap (λ (o : Object). is_annex o.content) is ∙ annex),
    ap (λ (o : Object). o.owner) is,
  )

  abbrev IsPart : ℕ × ℕ → Type 0
  IsPart p = HasBox w.objects p.1 × (owner_at w.objects p.1 ≡ p.0)

  part_from : {X : Type 0} (f : X → ℕ × ℕ) (xs : List X) (p : ℕ × ℕ) → ((x : X) → Contains xs x → IsPart (f x)) → Contains (map f xs) p →
      IsPart p
  part_from f xs p each h = let found = map_contains f p xs h in subst IsPart found.2 (each found.0 found.1)

  part_reported : (p : ℕ × ℕ) → Contains (parts d) p → IsPart p
  part_reported p h = elim (Contains-append_cases (bank_parts d ++ root_parts d ++ node_parts d) (page_parts d) p h) [
    | inr page ↦ part_from (λ p. (p.owner, p.number)) d.pages.items p
        (λ p there. let reported = page_reported g w d describes p there in
        has_box p.number p.owner (content.Page reported.0) reported.1 refl refl) page
    | inl rest ↦ elim (Contains-append_cases (bank_parts d ++ root_parts d) (node_parts d) p rest) [
      | inr node ↦ part_from (λ n. (n.owner, n.number)) d.nodes.items p
          (λ n there. let reported = node_reported g w d describes n there in
          has_box n.number n.owner (content.Node reported.0) reported.2 refl refl) node
      | inl more ↦ elim (Contains-append_cases (bank_parts d) (root_parts d) p more) [
        | inr root ↦ part_from (λ p. (p.owner, p.root)) d.processes.items p
            (λ p there. let reported = root_reported g w d describes p there in has_box p.root p.owner _ reported.3 refl refl) root
        | inl bank ↦ part_from (λ b. (b.owner, b.number)) d.banks.items p
            (λ b there. has_box b.number b.owner (content.Bank b.limit) (bank_reported g w d describes b there) refl refl) bank
      ]
    ]
  ]

  same_owner : (n owner : ℕ) (c : Content Capability) → object_at w.objects n ≡ record { owner = owner; content = c } →
      Contains (parts d) (owner, n) → Contains (parts d) (owner_at w.objects n, n)
  same_owner n owner c is there = subst (λ (m : ℕ). Contains (parts d) (m, n)) (sym (ap (λ (o : Object). o.owner) is)) there

  entry_part : (e : Entry) → IsOf d e → HasBox w.objects (number_of e) → Contains (parts d) (owner_at w.objects (number_of e), number_of e)
  entry_part (OfBank b) there has = same_owner _ _ _ (bank_reported g w d describes b there)
      (Contains-append_left _ _ _ (Contains-append_left _ _ _
      (Contains-append_left _ _ _ (contains_map (λ b. (b.owner, b.number)) b _ there))))
  entry_part (OfRoot p) there has = same_owner p.root p.owner _ (root_reported g w d describes p there).3
      (Contains-append_left (bank_parts d ++ root_parts d ++ node_parts d) (page_parts d) (p.owner, p.root)
      (Contains-append_left (bank_parts d ++ root_parts d) (node_parts d) (p.owner, p.root)
      (Contains-append_right (bank_parts d) (root_parts d) (p.owner, p.root)
      (contains_map (λ p. (p.owner, p.root)) p d.processes.items there))))
  entry_part (OfAnnex p) there has =
      let wrong = sym has.1 ∙ ap (λ (o : Object). is_annex o.content) (annex_reported g w d describes p there).2 in cc
  entry_part (OfNode n) there has = same_owner n.number n.owner _ (node_reported g w d describes n there).2
      (Contains-append_left (bank_parts d ++ root_parts d ++ node_parts d) (page_parts d) (n.owner, n.number)
      (Contains-append_right (bank_parts d ++ root_parts d) (node_parts d) (n.owner, n.number)
      (contains_map (λ n. (n.owner, n.number)) n d.nodes.items there)))
  entry_part (OfPage p) there has = same_owner p.number p.owner _ (page_reported g w d describes p there).1
      (Contains-append_right (bank_parts d ++ root_parts d ++ node_parts d) (page_parts d) (p.owner, p.number)
      (contains_map (λ p. (p.owner, p.number)) p d.pages.items there))

  reported_part : (n : ℕ) → HasBox w.objects n → Contains (parts d) (owner_at w.objects n, n)
  reported_part n has = elim (described_cases d (plain_frames w.objects) n describes.frames) [
    | inl found ↦ rw (← found.2) (entry_part found.0 found.1 (rw found.2 has))
    | inr blank ↦ let wrong = sym has.0 ∙ ap (λ (o : Object). is_free o.content) (free_reported g w d describes n blank) in cc
  ]

  in_boxes : (n : ℕ) → HasBox w.objects n → Contains (boxes d) n
  in_boxes n has = subst (λ (ns : List ℕ). Contains ns n) (boxes_are d) (contains_map owned (owner_at w.objects n, n) (parts d)
      (reported_part n has))

  of_boxes : (n : ℕ) → Contains (boxes d) n → HasBox w.objects n
  of_boxes n h =
      let found = map_contains owned n (parts d) (subst (λ (ns : List ℕ). Contains ns n) (sym (boxes_are d)) h) in
      subst (λ (m : ℕ). HasBox w.objects m) found.2 (part_reported found.0 found.1).0

  in_owners : (p : ℕ × ℕ) → IsOwner w.objects p → Contains (owners d) p
  in_owners p is =
      let there : Contains (parts d) p = rw (← is.1) (reported_part p.1 is.0) in
      rw (← owners_are d) (flat_contains joined_part p p (parts d) there (rw (joined_some p.0 p.1 is.2) (contains_here p [])))

  of_owners : (p : ℕ × ℕ) → Contains (owners d) p → IsOwner w.objects p
  of_owners p h =
      let found = contains_flat joined_part p (parts d) (subst (λ (ps : List (ℕ × ℕ)). Contains ps p) (sym (owners_are d)) h) in
      let pair = in_joined found.0.0 found.0.1 p found.2 in
      let reported : IsPart found.0 = part_reported found.0 found.1 in
      subst (IsOwner w.objects) pair.0 (reported.0, reported.1, pair.1)

  owners_once : IsOnce (owners d)
  owners_once = rw (← owners_are d) (once_flat joined_part owned owned (parts d)
      (rw (boxes_are d) (boxes_once d describes.numbers.distinct))
      (λ p there. joined_once p.0 p.1) (λ p q there. sym (ap owned (in_joined p.0 p.1 q there).0)))

pub boxes_are_objects : BoxesAreObjects
boxes_are_objects g w d describes = (
  boxes_once d describes.numbers.distinct,
  λ n. (of_boxes g w d describes n, in_boxes g w d describes n),
)

pub owners_are_owners : OwnersAreOwners
owners_are_owners g w d describes = (
  owners_once g w d describes,
  λ p. (of_owners g w d describes p, in_owners g w d describes p),
)
