-- If two descriptions are read from the same table, they describe the same frames.
use Rattle.image_describer.proofs.Names.{nat_tests, ℕ, suc, List, [], map, refl, sym, ap, subst, arith, All, Contains, All-cons, All-nil, Frame, Geometry}
use Rattle.image_describer.proofs.Names.{frame_at, object_count, BankEntry, Description, NodeEntry, PageEntry, ProcessEntry, Each, IsSame, IsSameNode}
use Rattle.image_describer.proofs.Names.{IsSamePage, IsSameProcess, IsDescribed, IsDescribedAnnex, IsDescribedNode, IsDescribedPage, IsDescribedRoot}
use Rattle.image_describer.proofs.Names.{first_frame, node_numbers, page_numbers}
use Rattle.std.proofs.Common.{◌≡◌, ◌∷◌, ◌++◌, ◌∙◌}
use Rattle.model.specs.declared.object.Content.TheVariants as content

-- if P holds of all items of one list, it holds of all related items of the other
all_same : {A : Type 0} (R : A → A → Type 0) (P : A → Type 0) → ((x y : A) → R x y → P y → P x) → (xs ys : List A) → Each R xs ys →
    All P ys → All P xs
all_same R P back [] ys each all = All-nil P
all_same R P back (x ∷ xs) [] each all = absurd each
all_same R P back (x ∷ xs) (y ∷ ys) each all =
    All-cons P x xs (back x y each.0 (all 0 y (omega arith))) (all_same R P back xs ys each.1
    (λ k d inside. all (suc k) d (omega (arith, inside))))

-- related items have equal numbers
numbers_same : {A : Type 0} (R : A → A → Type 0) (number : A → ℕ) → ((x y : A) → R x y → number x ≡ number y) → (xs ys : List A) →
    Each R xs ys → map number xs ≡ map number ys
numbers_same R number same [] [] each = refl
numbers_same R number same [] (y ∷ ys) each = absurd each
numbers_same R number same (x ∷ xs) [] each = absurd each
numbers_same R number same (x ∷ xs) (y ∷ ys) each = grind (arith, nat_tests, numbers_same R number same xs ys each.1)

-- equal entries describe equal frames
same_root : (p q : ProcessEntry) (f g : Frame) → IsSameProcess p q → f ≡ g → IsDescribedRoot q g → IsDescribedRoot p f
same_root p q f g same frames is = grind (arith, nat_tests)

same_annex : (p q : ProcessEntry) (f g : Frame) → IsSameProcess p q → f ≡ g → IsDescribedAnnex q g → IsDescribedAnnex p f
same_annex p q f g same frames is = (
  is.0,
  rw same.registers is.1,
  frames ∙ is.2
      ∙ ap (λ (n : ℕ). first_frame n (content.Annex is.0)) (sym same.owner),
)

same_node : (m n : NodeEntry) (f g : Frame) → IsSameNode m n → f ≡ g → IsDescribedNode n g → IsDescribedNode m f
same_node m n f g same frames is = (
  is.0,
  rw same.slots is.1,
  frames ∙ is.2
      ∙ ap (λ (k : ℕ). first_frame k (content.Node is.0)) (sym same.owner),
)

same_page : (p q : PageEntry) (f g : Frame) → IsSamePage p q → f ≡ g → IsDescribedPage q g → IsDescribedPage p f
same_page p q f g same frames is = (
  is.0,
  rw same.words is.1,
  frames ∙ is.2
      ∙ ap (λ (k : ℕ). first_frame k (content.Page is.0)) (sym same.owner),
)

module _ (d e : Description) (same : IsSame d e) where
  same_numbers : node_numbers d ++ page_numbers d ≡ node_numbers e ++ page_numbers e
  same_numbers = grind (arith, nat_tests, numbers_same)

  -- equal descriptions describe equal frames
  pub same_described : (frames : List Frame) → IsDescribed e frames → IsDescribed d frames
  same_described frames is = record {
    count = is.count ∙ ap (λ (g : Geometry). object_count g) (sym same.geometry);
    banks = subst (λ (bs : List BankEntry). All (λ b. frame_at frames b.number ≡ first_frame b.owner (content.Bank b.limit)) bs)
        (sym same.banks) is.banks;
    roots = all_same IsSameProcess (λ p. IsDescribedRoot p (frame_at frames p.root))
        (λ p q one root. same_root p q (frame_at frames p.root) (frame_at frames q.root) one (ap (frame_at frames) one.root) root) _ _
        same.processes is.roots;
    annexes = all_same IsSameProcess (λ p. IsDescribedAnnex p (frame_at frames p.annex))
        (λ p q one annex. same_annex p q (frame_at frames p.annex) (frame_at frames q.annex) one (ap (frame_at frames) one.annex) annex) _
        _ same.processes is.annexes;
    nodes = all_same IsSameNode (λ n. IsDescribedNode n (frame_at frames n.number))
        (λ m n one node. same_node m n (frame_at frames m.number) (frame_at frames n.number) one (ap (frame_at frames) one.number) node) _
        _ same.nodes is.nodes;
    pages = all_same IsSamePage (λ p. IsDescribedPage p (frame_at frames p.number))
        (λ p q one page. same_page p q (frame_at frames p.number) (frame_at frames q.number) one (ap (frame_at frames) one.number) page) _
        _ same.pages is.pages;
    others = λ n out. is.others n (λ named. out (subst (λ (ns : List ℕ). Contains ns n) (sym same_numbers) named));
  }
