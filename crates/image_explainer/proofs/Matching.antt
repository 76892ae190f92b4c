-- Roots and annexes that don't match.
use Rattle.image_explainer.proofs.Names.{nat_tests, ℕ, List, Option, None, length, inl, inr, arith, cases_lt, Frame, Noted, AreWholeProcesses, AreNoted}
use Rattle.image_explainer.proofs.Names.{none_noted, HasRoot, IsMatched, MatchesOr, Unmatched, IsFirstUnmatched, IsUnmatched, IfNone, IfSome, get_or_past}
use Rattle.std.proofs.Common.{◌+◌, ◌<◌, ◌≤◌}

-- if every root with a note matches, every root does
pub all_matched : (fs : List Frame) (notes : List (Option Noted)) (n : ℕ) → AreNoted fs notes → length notes ≤ n →
    ((p : ℕ) → p < n → IsMatched fs p) → (p : ℕ) → IsMatched fs p
all_matched fs notes n noted past each p = elim (cases_lt p n) [
  | inl before ↦ each p before
  | inr beyond ↦ λ a root. absurd (none_noted fs notes noted p a (get_or_past notes p None (omega (arith, past, beyond))) root)
]

-- if P holds below n and of n, it holds below n + 1
pub below_more : (P : ℕ → Type 0) (n : ℕ) → ((m : ℕ) → m < n → P m) → P n → (m : ℕ) → m < n + 1 → P m
below_more P n before here m lt = grind (arith, nat_tests)

-- if every root matches and every annex has a root, all processes are whole
pub whole_of_matched : (fs : List Frame) → ((p : ℕ) → IsMatched fs p) → ((a : ℕ) → HasRoot fs a) → AreWholeProcesses fs
whole_of_matched fs matched rooted = record {
  annexes = λ p a root. (matched p a root).0;
  one_root = λ p q a first second. elim (cases_lt p q) [
    | inl less ↦ absurd ((matched p a first).1 q less second)
    | inr le ↦ elim (cases_lt q p) [
      | inl less ↦ absurd ((matched q a second).1 p less first)
      | inr other ↦ omega (arith, le, other)
    ]
  ];
  some_root = rooted;
}

-- the search first finds an unmatched root, else an unmatched annex
pub matches : (fs : List Frame) (found : Option Unmatched) → ((p : ℕ) → IsMatched fs p) → IfSome found (IsUnmatched fs) →
    IfSome found (λ u. ((p : ℕ) → IsMatched fs p) → IsFirstUnmatched fs u) → IfNone found ((a : ℕ) → HasRoot fs a) → MatchesOr fs found
matches fs found matched is first rooted = grind (arith, nat_tests, whole_of_matched)
