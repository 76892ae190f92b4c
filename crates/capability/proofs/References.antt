-- The contents that references refer to.
use Rattle.capability.proofs.Names.{arith, ℕ, List, Bor, nat_tests, Cap, ContentRef, Root, content_behind}
use Rattle.std.proofs.Common.{◌≡◌}
use Rattle.model.specs.declared.object.Content.TheVariants as content
use Rattle.model.specs.declared.object.ContentRef.TheVariants as content_ref

-- a reference of one kind doesn't refer to content of another
pub not_page : (r : ContentRef) → ((x : Bor (List ℕ)) → r ≡ content_ref.Page x → ⊥) → (x : List ℕ) → content_behind r ≡ content.Page x → ⊥
not_page r other x is = grind (arith, nat_tests)

pub not_node : (r : ContentRef) → ((x : Bor (List Cap)) → r ≡ content_ref.Node x → ⊥) → (x : List Cap) → content_behind r ≡ content.Node x →
    ⊥
not_node r other x is = grind (arith, nat_tests)

pub not_root : (r : ContentRef) → ((x : Bor (Root Cap)) → r ≡ content_ref.Root x → ⊥) → (x : Root Cap) → content_behind r ≡ content.Root x →
    ⊥
not_root r other x is = grind (arith, nat_tests)

pub not_annex : (r : ContentRef) → ((x : Bor (List Cap)) → r ≡ content_ref.Annex x → ⊥) → (x : List Cap) →
    content_behind r ≡ content.Annex x → ⊥
not_annex r other x is = grind (arith, nat_tests)
