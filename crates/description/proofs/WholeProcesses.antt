-- In described frames each process is a root with its annex.
use Rattle.description.proofs.Names.{inl, inr, ℕ, List, Option, None, Some, refl, sym, ap, subst, Contains, Frame, Role, frame_at, Description, ProcessEntry}
use Rattle.description.proofs.Names.{AreWholeProcesses, IsAnnexFor, IsRootOf, annex_in, owner_of, role_at, HasNumbers, IsDescribed, Entry, OfBank, OfRoot}
use Rattle.description.proofs.Names.{OfAnnex, OfNode, OfPage, entries, number_of}
use Rattle.std.proofs.Common.{◌≡◌, ◌∙◌}
use Rattle.model.specs.declared.object.Role.TheVariants as role
use Rattle.description.proofs.Entries.{IsFrameOf, IsOf, described_cases, described_of, entries_distinct, of_entries}
use Rattle.description.proofs.Lists.{same_entry}

-- q is the process with root p and annex a
pub record IsProcess (d : Description) (q : ProcessEntry) (p a : ℕ) : Type 0 where
  pub of : Contains d.processes.items q
  pub root : q.root ≡ p
  pub annex : q.annex ≡ a

abbrev annex_of : Frame → Option ℕ
annex_of f = annex_in f.content

abbrev role_in : Frame → Role
role_in f = f.header.role

rooted : (d : Description) (e : Entry) (f : Frame) (p a : ℕ) → IsOf d e → number_of e ≡ p → IsFrameOf e f → annex_of f ≡ Some a →
    (q : ProcessEntry) × IsProcess d q p a
rooted d (OfBank b) f p a of is frame root = let none : None ≡ Some a = sym (ap annex_of frame) ∙ root in absurd cc
rooted d (OfRoot q) f p a of is frame root =
    let same : Some q.annex ≡ Some a = sym (ap annex_of frame.4) ∙ root in
    (q, record { of = of; root = is; annex = cc })
rooted d e f p a of is frame root = let none : None ≡ Some a = sym (ap annex_of frame.2) ∙ root in absurd cc

pub root_is : (d : Description) (fs : List Frame) (p a : ℕ) → IsDescribed d fs → IsRootOf fs p a → (q : ProcessEntry) × IsProcess d q p a
root_is d fs p a is root = elim (described_cases d fs p is) [
  | inl c ↦ rooted d c.0 (frame_at fs p) p a c.1 c.2 c.3 root
  | inr blank ↦ let none : None ≡ Some a = sym (ap annex_of blank) ∙ root in absurd cc
]

annexed : (d : Description) (e : Entry) (f : Frame) (a : ℕ) → IsOf d e → number_of e ≡ a → IsFrameOf e f → role_in f ≡ role.Annex
    → (q : ProcessEntry) × IsProcess d q q.root a
annexed d (OfBank b) f a of is frame annex = let other : role.Bank ≡ role.Annex = sym (ap role_in frame) ∙ annex in absurd cc
annexed d (OfRoot q) f a of is frame annex = let other : role.Root ≡ role.Annex = sym (ap role_in frame.4) ∙ annex in absurd cc
annexed d (OfAnnex q) f a of is frame annex = (q, record { of = of; root = refl; annex = is })
annexed d (OfNode n) f a of is frame annex = let other : role.Node ≡ role.Annex = sym (ap role_in frame.2) ∙ annex in absurd cc
annexed d (OfPage q) f a of is frame annex = let other : role.Page ≡ role.Annex = sym (ap role_in frame.2) ∙ annex in absurd cc

pub annex_is : (d : Description) (fs : List Frame) (a : ℕ) → IsDescribed d fs → role_at fs a ≡ role.Annex →
    (q : ProcessEntry) × IsProcess d q q.root a
annex_is d fs a is annex = elim (described_cases d fs a is) [
  | inl c ↦ annexed d c.0 (frame_at fs a) a c.1 c.2 c.3 annex
  | inr blank ↦ let other : role.Free ≡ role.Annex = sym (ap role_in blank) ∙ annex in absurd cc
]

-- the annex of a described process is an annex for its root
has_annex : (d : Description) (fs : List Frame) (q : ProcessEntry) (p a : ℕ) → IsDescribed d fs → IsProcess d q p a → IsAnnexFor fs p a
has_annex d fs q p a is q_is =
    let root = described_of d fs (OfRoot q) is q_is.of in
    let annex = described_of d fs (OfAnnex q) is q_is.of in
    let owners : owner_of fs q.annex ≡ owner_of fs q.root = ap (λ f. f.header.owner) annex.2 ∙ sym (ap (λ f. f.header.owner) root.4) in
    let both : IsAnnexFor fs q.root q.annex = (ap role_in annex.2, owners) in
    subst (λ n. IsAnnexFor fs p n) q_is.annex (subst (λ n. IsAnnexFor fs n q.annex) q_is.root both)

has_root : (d : Description) (fs : List Frame) (q : ProcessEntry) (p a : ℕ) → IsDescribed d fs → IsProcess d q p a → IsRootOf fs p a
has_root d fs q p a is q_is =
    let root = described_of d fs (OfRoot q) is q_is.of in
    let named : annex_of (frame_at fs q.root) ≡ Some q.annex = ap annex_of root.4 in
    subst (λ n. annex_of (frame_at fs n) ≡ Some a) q_is.root (named ∙ ap Some q_is.annex)

abbrev root_number : Entry → ℕ
root_number (OfAnnex p) = p.root
root_number other = 0

-- an annex belongs to one process
pub one_process : (d : Description) (q r : ProcessEntry) (m n a : ℕ) → HasNumbers d → IsProcess d q m a → IsProcess d r n a → m ≡ n
one_process d q r m n a has q_is r_is =
    let same : OfAnnex q ≡ OfAnnex r = same_entry number_of (entries d) (OfAnnex q) (OfAnnex r) (entries_distinct d has)
    (of_entries d (OfAnnex q) q_is.of) (of_entries d (OfAnnex r) r_is.of) (q_is.annex ∙ sym r_is.annex) in
    sym q_is.root ∙ ap root_number same ∙ r_is.root

pub whole : (d : Description) (fs : List Frame) → HasNumbers d → IsDescribed d fs → AreWholeProcesses fs
whole d fs has is = record {
  annexes = λ p a root. let q = root_is d fs p a is root in has_annex d fs q.0 p a is q.1;
  one_root = λ p q a root also.
      let first = root_is d fs p a is root in
      let second = root_is d fs q a is also in
      one_process d first.0 second.0 p q a has first.1 second.1;
  some_root = λ a annex. let q = annex_is d fs a is annex in (q.0.root, has_root d fs q.0 q.0.root a is q.1);
}
