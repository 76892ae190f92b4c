-- Whether the capabilities of objects satisfy `IsNamed`.
use Rattle.recovery.proofs.Names.{nat_tests, ℕ, inl, inr, Bool, true, List, [], length, slice_index_or, sym, ap, subst, arith, IsTrue, nat_lt, All, cases_lt}
use Rattle.recovery.proofs.Names.{get_or_default, Cap, Frame, ObjectHeader, Content, Role, Root, current_count, frame_at, headers, caps_in, role_of, Parts}
use Rattle.recovery.proofs.Names.{frames_of, AreNamed, IsNamed, NamesItsRole}
use Rattle.std.proofs.Common.{◌≡◌, ◌+◌, ◌↔◌, ◌<◌, ◌≤◌, ◌∷◌, ◌∙◌}
use Rattle.model.specs.declared.object.Content.TheVariants as content
use Rattle.model.specs.declared.object.Role.TheVariants as role
use Rattle.recovery.proofs.Tables.{frame_beyond, table_read}

-- facts about one capability, from its object's present count
module _ (p : Parts) (hs : List ObjectHeader) (c : Cap) (current : ℕ) (table : hs ≡ p.headers) (is : current ≡ current_count hs c.what)
  where
    count_is : current ≡ current_count (headers (frames_of p)) c.what
    count_is = is ∙ ap (λ (ks : List ObjectHeader). current_count ks c.what) (table_read p hs table)

    pub named_live : (b : Bool) → c.count ≡ current → (IsTrue b ↔ NamesItsRole (frames_of p) c.what) → IsTrue b ↔ IsNamed (frames_of p) c
    named_live b live tells = grind (arith, nat_tests, count_is)

    pub named_stale : (c.count ≡ current → ⊥) → IsTrue (nat_lt c.count current) ↔ IsNamed (frames_of p) c
    named_stale other = grind (arith, nat_tests, count_is)

-- facts about the capabilities of one object
module _ (fs : List Frame) (c : Content Cap) (n : ℕ) (is : c ≡ (frame_at fs n).content) (b : Bool) where
  -- if b decides whether all slots of a node or annex satisfy `IsNamed`, it decides this for all capabilities of the object
  pub held_named : (slots : List Cap) → caps_in c ≡ slots → (IsTrue b ↔ All (IsNamed fs) slots) →
      IsTrue b ↔ All (IsNamed fs) (caps_in (frame_at fs n).content)
  held_named slots all tells = subst (λ (cs : List Cap). IsTrue b ↔ All (IsNamed fs) cs) (sym all ∙ ap (λ (d : Content Cap). caps_in d) is)
      tells

  -- if b decides whether the address space of a root satisfies `IsNamed`, it decides this for all capabilities of the object
  pub space_named : (held : Cap) → caps_in c ≡ held ∷ [] → (IsTrue b ↔ IsNamed fs held) →
      IsTrue b ↔ All (IsNamed fs) (caps_in (frame_at fs n).content)
  space_named held all tells = grind (arith, nat_tests)

pub holds_none : (c : Content Cap) → ((x : List Cap) → c ≡ content.Node x → ⊥) → ((x : Root Cap) → c ≡ content.Root x → ⊥) →
    ((x : List Cap) → c ≡ content.Annex x → ⊥) → caps_in c ≡ []
holds_none c node root annex = grind (arith, nat_tests)

pub other_named : (fs : List Frame) (c : Content Cap) (n : ℕ) → c ≡ (frame_at fs n).content → caps_in c ≡ [] →
    IsTrue true ↔ All (IsNamed fs) (caps_in (frame_at fs n).content)
other_named fs c n is none = grind (arith, nat_tests)

pub role_holds_none : (c : Content Cap) (r : Role) → r ≡ role_of c → (r ≡ role.Node → ⊥) → (r ≡ role.Root → ⊥) → (r ≡ role.Annex → ⊥) →
    caps_in c ≡ []
role_holds_none c r is node root annex = grind (arith, nat_tests)

-- if there are at most n objects, and the capabilities of each satisfy `IsNamed`, `AreNamed` holds
pub named_whole : (p : Parts) (hs : List ObjectHeader) (count n : ℕ) → hs ≡ p.headers → count ≡ length hs → count ≤ n →
    ((m : ℕ) → m < n → All (IsNamed (frames_of p)) (caps_in (frame_at (frames_of p) m).content)) → AreNamed (frames_of p)
named_whole p hs count n table all past each m k d inside = grind (arith, nat_tests, frame_beyond)

-- if the first i capabilities of a list and the next satisfy `IsNamed`, the first i + 1 do
pub named_more : (fs : List Frame) (held : List Cap) (i : ℕ) (e : Cap) → i < length held →
    ((k : ℕ) (d : Cap) → k < i → IsNamed fs (slice_index_or held k d)) → IsNamed fs (slice_index_or held i e) →
    (k : ℕ) (d : Cap) → k < i + 1 → IsNamed fs (slice_index_or held k d)
named_more fs held i e inside before here k d next = elim (cases_lt k i) [
  | inl earlier ↦ before k d earlier
  | inr later ↦ grind (arith, nat_tests, get_or_default)
]

-- if the capabilities of the first n objects and of the next satisfy `IsNamed`, those of the first n + 1 do
pub named_next : (fs : List Frame) (n : ℕ) → ((m : ℕ) → m < n → All (IsNamed fs) (caps_in (frame_at fs m).content)) →
    All (IsNamed fs) (caps_in (frame_at fs n).content) → (m : ℕ) → m < n + 1 → All (IsNamed fs) (caps_in (frame_at fs m).content)
named_next fs n before here m next = elim (cases_lt m n) [
  | inl earlier ↦ before m earlier
  | inr later ↦ (
      let is : n ≡ m = omega (arith, later, next) in
      subst (λ (k : ℕ). All (IsNamed fs) (caps_in (frame_at fs k).content)) is here
      )
]
