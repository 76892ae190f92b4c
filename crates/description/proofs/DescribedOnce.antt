-- All lists of frames that a description names are equal.
use Rattle.description.proofs.Names.{nat_tests, ℕ, inl, inr, List, map, slice_index_or, sym, ap, arith, All, ext_get_or, All-append, All-contains, All-map}
use Rattle.description.proofs.Names.{get_or_from_slice_get, Cap, Frame, blank_frame, frame_at, void_held, Description, NodeEntry, PageEntry, ProcessEntry}
use Rattle.description.proofs.Names.{SlotEntry, WordEntry, HasNamedWords, HoldsNamed, IsDescribedAnnex, IsDescribed, IsDescribedNode, IsDescribedPage}
use Rattle.description.proofs.Names.{IsDescribedRoot, first_frame, node_numbers, page_numbers}
use Rattle.std.proofs.Common.{◌≡◌, ◌<◌, ◌++◌, ◌∙◌}
use Rattle.model.specs.declared.object.Content.TheVariants as content
use Rattle.description.proofs.Lists.{contains_either}

slots_once : (entries : List SlotEntry) (xs ys : List Cap) → HoldsNamed entries xs → HoldsNamed entries ys → xs ≡ ys
slots_once entries xs ys one other = ext_get_or void_held xs ys (one.count ∙ sym other.count) (λ i inside.
    let known : i < 32 = omega (arith, inside, one.count) in
    get_or_from_slice_get xs i _ _ (one.each i known)
    ∙ sym (get_or_from_slice_get ys i _ _ (other.each i known)))

words_once : (entries : List WordEntry) (xs ys : List ℕ) → HasNamedWords entries xs → HasNamedWords entries ys → xs ≡ ys
words_once entries xs ys one other = ext_get_or 0 xs ys (one.count ∙ sym other.count) (λ i inside.
    let known : i < 512 = omega (arith, inside, one.count) in
    get_or_from_slice_get xs i _ 0 (one.each i known)
    ∙ sym (get_or_from_slice_get ys i _ 0 (other.each i known)))

root_once : (p : ProcessEntry) (f g : Frame) → IsDescribedRoot p f → IsDescribedRoot p g → f ≡ g
root_once p f g one other = grind (arith, nat_tests)

annex_once : (p : ProcessEntry) (f g : Frame) → IsDescribedAnnex p f → IsDescribedAnnex p g → f ≡ g
annex_once p f g one other = one.2 ∙ ap (λ (slots : List Cap). first_frame p.owner (content.Annex slots))
    (slots_once _ one.0 _ one.1 other.1) ∙ sym other.2

node_once : (n : NodeEntry) (f g : Frame) → IsDescribedNode n f → IsDescribedNode n g → f ≡ g
node_once n f g one other = one.2 ∙ ap (λ (slots : List Cap). first_frame n.owner (content.Node slots)) (slots_once _ one.0 _ one.1 other.1)
    ∙ sym other.2

page_once : (p : PageEntry) (f g : Frame) → IsDescribedPage p f → IsDescribedPage p g → f ≡ g
page_once p f g one other = one.2 ∙ ap (λ (words : List ℕ). first_frame p.owner (content.Page words)) (words_once _ one.0 _ one.1 other.1)
    ∙ sym other.2

module _ (d : Description) (fs gs : List Frame) (one : IsDescribed d fs) (other : IsDescribed d gs) where
  -- the frames at number n are equal
  abbrev Same : ℕ → Type 0
  Same n = frame_at fs n ≡ frame_at gs n

  same_nodes : All Same (node_numbers d)
  same_nodes = All-append Same (map (λ b. b.number) d.banks.items ++ map (λ p. p.root) d.processes.items ++ map (λ p. p.annex)
      d.processes.items)
      (map (λ n. n.number) d.nodes.items)
      (All-append Same (map (λ b. b.number) d.banks.items ++ map (λ p. p.root) d.processes.items) (map (λ p. p.annex) d.processes.items)
      (All-append Same (map (λ b. b.number) d.banks.items) (map (λ p. p.root) d.processes.items)
      (All-map Same (λ b. b.number) d.banks.items (λ k b inside. one.banks k b inside ∙ sym (other.banks k b inside)))
      (All-map Same (λ p. p.root) d.processes.items (λ k p inside. let e = slice_index_or d.processes.items k p in
      root_once e _ _ (one.roots k p inside)
      (other.roots k p inside)))) (All-map Same (λ p. p.annex) d.processes.items
      (λ k p inside. let e = slice_index_or d.processes.items k p in annex_once e _ _ (one.annexes k p inside) (other.annexes k p inside))))
      (All-map Same (λ n. n.number) d.nodes.items (λ k n inside. let e = slice_index_or d.nodes.items k n in
      node_once e _ _ (one.nodes k n inside)
      (other.nodes k n inside)))

  same_pages : All Same (page_numbers d)
  same_pages = All-map Same (λ p. p.number) d.pages.items (λ k p inside. let e = slice_index_or d.pages.items k p in
      page_once e _ _ (one.pages k p inside)
      (other.pages k p inside))

  same_at : (n : ℕ) → frame_at fs n ≡ frame_at gs n
  same_at n = elim (contains_either (node_numbers d ++ page_numbers d) n) [
    | inl named ↦ All-contains Same (node_numbers d ++ page_numbers d) n (All-append Same (node_numbers d) (page_numbers d) same_nodes
        same_pages) named
    | inr out ↦ one.others n out ∙ sym (other.others n out)
  ]

  pub described_once : fs ≡ gs
  described_once = ext_get_or blank_frame fs gs (one.count ∙ sym other.count) (λ i inside. same_at i)
