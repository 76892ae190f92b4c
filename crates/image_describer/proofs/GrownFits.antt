-- The objects of a world fit into an image of other sizes exactly if those of its description do.
use Rattle.image_describer.proofs.Names.{nat_tests, inl, inr, ℕ, true, false, refl, sym, ap, subst, arith, true≢false, All-contains, Cap, Frame, Geometry}
use Rattle.image_describer.proofs.Names.{Content, frame_at, is_free, role_of, object_count, World, content_at, fresh_cap, mapped, BankEntry, Description}
use Rattle.image_describer.proofs.Names.{NodeEntry, PageEntry, ProcessEntry, first_frame, Entry, OfAnnex, OfBank, OfNode, OfPage, OfRoot, number_of, IsFrameOf}
use Rattle.image_describer.proofs.Names.{IsOf, described_cases, described_of, in_range, all_from, GrowthFault, Describes, plain_frames, IsNotRenumbered}
use Rattle.image_describer.proofs.Names.{IsUnsuited, NamesNodes, NamesPages, NodesFit, PagesFit, moved, plain_at}
use Rattle.std.proofs.Common.{◌≡◌, ◌≢◌, ◌<◌, ◌≤◌, ◌∙◌}
use Rattle.model.specs.declared.object.Content.TheVariants as content
use Rattle.model.specs.declared.object.Role.TheVariants as role
use Rattle.description.specs.declared.sizes.GrowthFault.TheVariants as fault

-- a content whose role isn't `Free` isn't free
role_not_free : {C : Type 0} (c : Content C) → role_of c ≢ role.Free → is_free c ≡ false
role_not_free content.Free other = absurd (other refl)
role_not_free one other = refl

free_has_role : {C : Type 0} (c : Content C) → role_of c ≡ role.Free → is_free c ≡ true
free_has_role content.Free is = refl
free_has_role other is = absurd cc

first_not_free : (f : Frame) (owner : ℕ) (c : Content Cap) → role_of c ≢ role.Free → f ≡ first_frame owner c → f.header.role ≢ role.Free
first_not_free f owner c other is free = other (sym (ap (λ (g : Frame). g.header.role) is) ∙ free)

entry_not_free : (e : Entry) (f : Frame) → IsFrameOf e f → f.header.role ≢ role.Free
entry_not_free (OfBank b) f is = first_not_free f b.owner (content.Bank b.limit) (λ same. absurd cc) is
entry_not_free (OfRoot p) f is = first_not_free f p.owner _ (λ same. absurd cc) is.4
entry_not_free (OfAnnex p) f is = first_not_free f p.owner (content.Annex is.0) (λ same. absurd cc) is.2
entry_not_free (OfNode n) f is = first_not_free f n.owner (content.Node is.0) (λ same. absurd cc) is.2
entry_not_free (OfPage p) f is = first_not_free f p.owner (content.Page is.0) (λ same. absurd cc) is.2

-- the parameters: a world and its description
module _ (old new : Geometry) (d : Description) (w : World) (describes : Describes old w d) where
  role_is : (n : ℕ) → (frame_at (plain_frames w.objects) n).header.role ≡ role_of (content_at w.objects n)
  role_is n = ap (λ (f : Frame). f.header.role) (plain_at w.objects n) ∙ (mapped fresh_cap (content_at w.objects n)).role

  pub named_not_free : (e : Entry) → IsOf d e → is_free (content_at w.objects (number_of e)) ≡ false
  named_not_free e there = role_not_free _ (λ is. entry_not_free e (frame_at (plain_frames w.objects) (number_of e))
      (described_of d _ e describes.frames there)
      (role_is _ ∙ is))

  pub is_named : (n : ℕ) → is_free (content_at w.objects n) ≡ false → (e : Entry) × IsOf d e × (number_of e ≡ n)
  is_named n some = elim (described_cases d _ n describes.frames) [
    | inl found ↦ (found.0, found.1, found.2)
    | inr blank ↦
        let free : is_free (content_at w.objects n) ≡ true = free_has_role _ (sym (role_is n) ∙ ap (λ (f : Frame). f.header.role) blank) in
        absurd (true≢false (sym free ∙ some))
  ]

  nodes_of : (n : ℕ) (e : Entry) → IsOf d e → number_of e ≡ n → n < old.nodes → NamesNodes new.nodes d → n < new.nodes
  nodes_of n e there is below names = grind (arith, nat_tests, All-contains, in_range)

  pages_of : (n : ℕ) (e : Entry) → IsOf d e → number_of e ≡ n → old.nodes ≤ n → NamesPages old new d → moved old new n < object_count new
  pages_of n e there is above names = grind (arith, nat_tests, in_range, All-contains)

  pub nodes_fit : NamesNodes new.nodes d → NodesFit old new w
  nodes_fit names n some below = let found = is_named n some in nodes_of n found.0 found.1 found.2 below names

  pub pages_fit : NamesPages old new d → PagesFit old new w
  pages_fit names n some above = let found = is_named n some in pages_of n found.0 found.1 found.2 above names

  below_old : (n : ℕ) → n < d.geometry.nodes → n < old.nodes
  below_old n below = subst (λ (g : Geometry). n < g.nodes) describes.geometry below

  pub fit_nodes : NodesFit old new w → NamesNodes new.nodes d
  fit_nodes fits = record {
    banks = all_from (λ (b : BankEntry). b.number < new.nodes) d.banks.items
        (λ b there. fits b.number (named_not_free (OfBank b) there) (below_old b.number (in_range d (OfBank b) describes.numbers there)));
    processes = all_from (λ (p : ProcessEntry). (p.root < new.nodes) × (p.annex < new.nodes)) d.processes.items (λ p there. (
      fits p.root (named_not_free (OfRoot p) there) (below_old p.root (in_range d (OfRoot p) describes.numbers there)),
      fits p.annex (named_not_free (OfAnnex p) there) (below_old p.annex (in_range d (OfAnnex p) describes.numbers there)),
    ));
    nodes = all_from (λ (n : NodeEntry). n.number < new.nodes) d.nodes.items
        (λ n there. fits n.number (named_not_free (OfNode n) there) (below_old n.number (in_range d (OfNode n) describes.numbers there)));
  }

  pub fit_pages : PagesFit old new w → NamesPages old new d
  fit_pages fits = all_from (λ (p : PageEntry). moved old new p.number < object_count new) d.pages.items (λ p there.
      fits p.number (named_not_free (OfPage p) there) (rw (← describes.geometry) (in_range d (OfPage p) describes.numbers there).0))

  -- if a description can't be renumbered, its world has no image of these sizes, for the same reason
  pub not_suited : (why : GrowthFault) → IsNotRenumbered d new why → IsUnsuited old new w why
  not_suited fault.Limits broken = broken
  not_suited fault.Nodes broken = (broken.0, λ fits. broken.1 (fit_nodes fits))
  not_suited fault.Pages broken = (broken.0, nodes_fit broken.1, λ fits. broken.2 (rw describes.geometry (fit_pages fits)))
  not_suited fault.NoMemory broken = tt
