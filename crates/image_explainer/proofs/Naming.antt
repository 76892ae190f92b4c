-- Capabilities that name no object of their kind, or have the wrong count.
use Rattle.image_explainer.proofs.Names.{nat_tests, ℕ, List, [], None, Option, length, slice_index_or, sym, ap, subst, arith, IfNone, All, get_or_default, Cap}
use Rattle.image_explainer.proofs.Names.{Frame, ObjectHeader, Content, current_count, frame_at, header_at, caps_in, Parts, frames_of, IsNamed, header_read}
use Rattle.image_explainer.proofs.Names.{table_read, Misnamed, IsMisnamed, cap_at, void_held}
use Rattle.std.proofs.Common.{◌≡◌, ◌<◌, ◌∙◌}

-- if the capability at index i breaks `IsNamed`, it is misnamed
pub misnamed_here : (p : Parts) (n i : ℕ) (held : List Cap) (d : Cap) (hs ks : List ObjectHeader) (h : ObjectHeader) (current : ℕ) →
    held ≡ caps_in (frame_at (frames_of p) n).content → i < length held
    → hs ≡ p.headers → h ≡ header_at hs n → ks ≡ p.headers → current ≡ current_count ks (slice_index_or held i d).what →
    (IsNamed (frames_of p) (slice_index_or held i d) → ⊥)
    → IsMisnamed (frames_of p) (record { holder = n; role = h.role; index = i; held = slice_index_or held i d; current = current })
misnamed_here p n i held d hs ks h current all inside table is other reported broken =
    grind (arith, nat_tests, get_or_default, header_read, table_read)

-- the first i capabilities keep `IsNamed`
pub named_before : (fs : List Frame) (n i : ℕ) (held : List Cap) → held ≡ caps_in (frame_at fs n).content →
    ((k : ℕ) (d : Cap) → k < i → IsNamed fs (slice_index_or held k d)) →
    (k : ℕ) → k < i → IsNamed fs (cap_at (caps_in (frame_at fs n).content) k)
named_before fs n i held all before k lt = subst (λ (cs : List Cap). IsNamed fs (cap_at cs k)) all (before k void_held lt)

-- the parameters: the content of object n
module _ (fs : List Frame) (c : Content Cap) (n : ℕ) (is : c ≡ (frame_at fs n).content) where
  pub held_there : (held : List Cap) → caps_in c ≡ held → held ≡ caps_in (frame_at fs n).content
  held_there held all = sym all ∙ ap (λ (d : Content Cap). caps_in d) is

  pub none_there : (held : List Cap) (found : Option Misnamed) → caps_in c ≡ held → IfNone found (All (IsNamed fs) held) →
      IfNone found (All (IsNamed fs) (caps_in (frame_at fs n).content))
  none_there held found all named = subst (λ (cs : List Cap). IfNone found (All (IsNamed fs) cs)) (held_there held all) named

  pub nothing_there : caps_in c ≡ [] → All (IsNamed fs) (caps_in (frame_at fs n).content)
  nothing_there none = grind (arith, nat_tests)

-- if the search found nothing, all capabilities of the object keep `IsNamed`
pub none_found : (fs : List Frame) (n : ℕ) (found : Option Misnamed) → found ≡ None →
    IfNone found (All (IsNamed fs) (caps_in (frame_at fs n).content)) → All (IsNamed fs) (caps_in (frame_at fs n).content)
none_found fs n found is named = subst (λ (o : Option Misnamed). IfNone o (All (IsNamed fs) (caps_in (frame_at fs n).content))) is named
