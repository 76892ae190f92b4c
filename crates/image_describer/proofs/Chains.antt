-- Building a table by putting values at keys, one after another.
use Rattle.image_describer.proofs.Names.{nat_tests, ℕ, zero, suc, Bool, true, false, not, List, [], length, Option, None, slice_index_or, sym, ap, subst, arith}
use Rattle.image_describer.proofs.Names.{IsTrue, list_any, Data, Members, get_member, same_key, has_only}
use Rattle.std.proofs.Common.{◌≡◌, ◌<◌, ◌&&◌, ◌∷◌, ◌++◌, ◌∙◌}
use Rattle.image_describer.proofs.Puts.{Puts, falsely, left, right}

-- a key, and the value to put there, if any
abbrev pub Pair : Type 0
Pair = List ℕ × Option Data

-- `new` is `old` with all pairs put, one after the other
abbrev pub Chain : List Pair → Members → Members → Type 0
Chain [] old new = new ≡ old
Chain (p ∷ ps) old new = (mid : Members) × Puts p.0 p.1 old mid × Chain ps mid new

-- the key differs from the keys of these pairs
abbrev pub is_apart : List ℕ → List Pair → Bool
is_apart k [] = true
is_apart k (p ∷ ps) = not (same_key k p.0) && (not (same_key p.0 k) && is_apart k ps)

abbrev pub are_apart : List Pair → Bool
are_apart [] = true
are_apart (p ∷ ps) = is_apart p.0 ps && are_apart ps

abbrev pub are_known : List (List ℕ) → List Pair → Bool
are_known keys [] = true
are_known keys (p ∷ ps) = list_any (same_key p.0) keys && are_known keys ps

-- a key that none of the pairs has keeps its value
pub chain_other : (ps : List Pair) (k : List ℕ) (old new : Members) → Chain ps old new → IsTrue (is_apart k ps) →
    get_member k new ≡ get_member k old
chain_other [] k old new chain apart = ap (get_member k) chain
chain_other (p ∷ ps) k old new chain apart = grind (arith, nat_tests, chain_other ps k chain.0 new chain.2, right, falsely, left)

-- the first key differs from the key of each later pair
apart_at : (k : List ℕ) (ps : List Pair) (i : ℕ) (d : Pair) → IsTrue (is_apart k ps) → i < length ps →
    same_key (slice_index_or ps i d).0 k ≡ false
apart_at k [] i d apart inside = absurd (omega (arith, inside))
apart_at k (p ∷ ps) zero d apart inside = falsely _ (left _ _ (right _ _ apart))
apart_at k (p ∷ ps) (suc i) d apart inside = apart_at k ps i d (right _ _ (right _ _ apart)) (omega (arith, inside))

-- if the keys differ, each key has the value that was put there
pub chain_at : (ps : List Pair) (i : ℕ) (d : Pair) (old new : Members) → Chain ps old new → IsTrue (are_apart ps) → i < length ps →
    get_member (slice_index_or ps i d).0 old ≡ None
    → get_member (slice_index_or ps i d).0 new ≡ (slice_index_or ps i d).1
chain_at [] i d old new chain apart inside none = absurd (omega (arith, inside))
chain_at (p ∷ ps) zero d old new chain apart inside none = chain_other ps p.0 chain.0 new chain.2
    (left (is_apart p.0 ps) (are_apart ps) apart) ∙
    chain.1.found none
chain_at (p ∷ ps) (suc i) d old new chain apart inside none =
    grind (arith, nat_tests, chain_at ps i d chain.0 new chain.2 (right (is_apart p.0 ps) (are_apart ps) apart), right, apart_at, left)

pub chain_only : (ps : List Pair) (keys : List (List ℕ)) (old new : Members) → Chain ps old new → IsTrue (are_known keys ps) →
    IsTrue (has_only keys old) → IsTrue (has_only keys new)
chain_only [] keys old new chain known all = subst (λ (ms : Members). IsTrue (has_only keys ms)) (sym chain) all
chain_only (p ∷ ps) keys old new chain known all = chain_only ps keys _ new chain.2 (right _ _ known)
    (chain.1.only keys (left _ _ known) all)

-- putting some pairs and then others puts all
pub chain_append : (ps qs : List Pair) (old mid new : Members) → Chain ps old mid → Chain qs mid new → Chain (ps ++ qs) old new
chain_append [] qs old mid new one other = subst (λ (ms : Members). Chain qs ms new) one other
chain_append (p ∷ ps) qs old mid new one other = (one.0, one.1, chain_append ps qs one.0 mid new one.2 other)
