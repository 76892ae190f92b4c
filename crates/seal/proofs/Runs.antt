-- Two lists that differ in at most three numbers have different sums.
use Rattle.seal.proofs.Names.{ℕ, List, [], length, ap, sym, subst, refl, inl, inr, arith, cases_eq, cases_order, nat_tests, length_push, same_from_push}
use Rattle.seal.proofs.Names.{differences, weighted, Sums}
use Rattle.std.proofs.Common.{◌≡◌, ◌+◌, ◌<◌, ◌≤◌, ◌∷◌, ◌++◌, ◌∙◌}
use Rattle.seal.proofs.Weights.{one, place, triangle, sums, step, run, run_is, same_sums, a_push, b_push, c_push}

pub same_heads : (x y : ℕ) (xs ys : List ℕ) → x ≡ y → differences (x ∷ xs) (y ∷ ys) ≡ differences xs ys
same_heads x y xs ys e = grind (arith, nat_tests)

other_heads : (x y : ℕ) (xs ys : List ℕ) → (x ≡ y → ⊥) → differences (x ∷ xs) (y ∷ ys) ≡ 1 + differences xs ys
other_heads x y xs ys ne = grind (arith, nat_tests)

pub head_counts : (x y : ℕ) (xs ys : List ℕ) → differences (x ∷ xs) (y ∷ ys) ≤ 1 + differences xs ys
head_counts x y xs ys = grind (arith, nat_tests)

pub none_differ : (xs ys : List ℕ) → length xs ≡ length ys → differences xs ys ≤ 0 → xs ≡ ys
none_differ [] [] len few = refl
none_differ [] (y ∷ ys) len few = absurd (omega (arith, len))
none_differ (x ∷ xs) [] len few = absurd (omega (arith, len))
none_differ (x ∷ xs) (y ∷ ys) len few =
    elim (cases_eq x y) [
      | inl e ↦ let rest = none_differ xs ys (omega (arith, len)) (omega (arith, few, same_heads x y xs ys e)) in cc
      | inr ne ↦ absurd (omega (arith, few, other_heads x y xs ys ne))
    ]

pub turned_round : (xs ys : List ℕ) → differences ys xs ≡ differences xs ys
turned_round [] [] = refl
turned_round [] (y ∷ ys) = refl
turned_round (x ∷ xs) [] = refl
turned_round (x ∷ xs) (y ∷ ys) =
    elim (cases_eq x y) [
      | inl e ↦ omega (arith, same_heads x y xs ys e, same_heads y x ys xs (sym e), turned_round xs ys)
      | inr ne ↦ omega (arith, other_heads x y xs ys ne, other_heads y x ys xs (λ e. ne (sym e)), turned_round xs ys)
    ]

one_more : (x y : ℕ) (xs ys : List ℕ) → length xs ≡ length ys → differences (xs ++ x ∷ []) (ys ++ y ∷ []) ≤ differences xs ys + 1
one_more x y [] [] len = head_counts x y [] []
one_more x y [] (z ∷ ys) len = absurd (omega (arith, len))
one_more x y (z ∷ xs) [] len = absurd (omega (arith, len))
one_more x y (z ∷ xs) (w ∷ ys) len =
    elim (cases_eq z w) [
      | inl e ↦
          omega (arith, same_heads z w xs ys e, same_heads z w (xs ++ x ∷ []) (ys ++ y ∷ []) e, one_more x y xs ys (omega (arith, len)))
      | inr ne ↦
          omega (arith, other_heads z w xs ys ne, other_heads z w (xs ++ x ∷ []) (ys ++ y ∷ []) ne, one_more x y xs ys (omega (arith, len)))
    ]

-- ---- from the last number backwards: what equal sums at the end imply of the sums before

abbrev Same : Sums → Sums → Type 0
Same s t = (s.a ≡ t.a) × (s.b ≡ t.b) × (s.c ≡ t.c)

-- if two runs over the same numbers end with equal sums, they started with equal sums
none_left : (s t : Sums) (hs : List ℕ) → Same (run s hs) (run t hs) → Same s t
none_left s t [] same = same
none_left s t (h ∷ hs) same = let next = none_left (step s h) (step t h) hs same in
    (omega (arith, next), omega (arith, next), omega (arith, next))

-- how b and c must differ, given which list has the greater a, if the sums are to be equal after one more difference
record IsBalanced (s t : Sums) : Type 0 where
  pub less_b : s.a < t.a → t.b ≤ s.b
  pub less_c : s.a < t.a → s.c ≤ t.c
  pub same_b : s.a ≡ t.a → s.b ≡ t.b
  pub same_c : s.a ≡ t.a → s.c ≡ t.c
  pub more_b : t.a < s.a → s.b ≤ t.b
  pub more_c : t.a < s.a → t.c ≤ s.c

balanced_before : (s t : Sums) (h : ℕ) → IsBalanced (step s h) (step t h) → IsBalanced s t
balanced_before s t h next = record {
  less_b = λ lt. omega (arith, next.less_b (omega (arith, lt)));
  less_c = λ lt. omega (arith, next.less_b (omega (arith, lt)), next.less_c (omega (arith, lt)));
  same_b = λ e. omega (arith, next.same_b (omega (arith, e)));
  same_c = λ e. omega (arith, next.same_b (omega (arith, e)), next.same_c (omega (arith, e)));
  more_b = λ lt. omega (arith, next.more_b (omega (arith, lt)));
  more_c = λ lt. omega (arith, next.more_b (omega (arith, lt)), next.more_c (omega (arith, lt)));
}

one_left : (s t : Sums) (xs ys : List ℕ) → length xs ≡ length ys → differences xs ys ≤ 1 → Same (run s xs) (run t ys) → IsBalanced s t
one_left s t [] [] len few same = record {
  less_b = λ lt. omega (arith, same);
  less_c = λ lt. omega (arith, same);
  same_b = λ e. omega (arith, same);
  same_c = λ e. omega (arith, same);
  more_b = λ lt. omega (arith, same);
  more_c = λ lt. omega (arith, same);
}
one_left s t [] (y ∷ ys) len few same = absurd (omega (arith, len))
one_left s t (x ∷ xs) [] len few same = absurd (omega (arith, len))
one_left s t (x ∷ xs) (y ∷ ys) len few same =
    elim (cases_eq x y) [
      | inl e ↦
          let next = one_left (step s x) (step t y) xs ys (omega (arith, len)) (omega (arith, few, same_heads x y xs ys e)) same in
          balanced_before s t x (subst (λ (h : ℕ). IsBalanced (step s x) (step t h)) (sym e) next)
      | inr ne ↦
          let rest : xs ≡ ys = none_differ xs ys (omega (arith, len)) (omega (arith, few, other_heads x y xs ys ne)) in
          let behind : Same (run (step s x) xs) (run (step t y) xs) = subst (λ (hs : List ℕ). Same (run (step s x) xs) (run (step t y) hs))
          (sym rest) same in
          let next = none_left (step s x) (step t y) xs behind in
          record {
            less_b = λ lt. omega (arith, next);
            less_c = λ lt. omega (arith, next);
            same_b = λ eq. omega (arith, next);
            same_c = λ eq. omega (arith, next);
            more_b = λ lt. omega (arith, next);
            more_c = λ lt. omega (arith, next);
          }
    ]

-- if all three sums of s are greater than those of t, lists with at most two differences don't make them equal
two_left : (s t : Sums) (xs ys : List ℕ) → length xs ≡ length ys → differences xs ys ≤ 2 → t.a < s.a → t.b < s.b → t.c < s.c →
    Same (run s xs) (run t ys) → ⊥
two_left s t [] [] len few a b c same = omega (arith, same)
two_left s t [] (y ∷ ys) len few a b c same = omega (arith, len)
two_left s t (x ∷ xs) [] len few a b c same = omega (arith, len)
two_left s t (x ∷ xs) (y ∷ ys) len few a b c same =
    elim (cases_eq x y) [
      | inl e ↦
          two_left (step s x) (step t y) xs ys (omega (arith, len)) (omega (arith, few, same_heads x y xs ys e)) (omega arith) (omega arith)
          (omega arith) same
      | inr ne ↦
          let next = one_left (step s x) (step t y) xs ys (omega (arith, len)) (omega (arith, few, other_heads x y xs ys ne)) same in
          elim (cases_order (s.a + x) (t.a + y)) [
            | inl eq ↦ omega (arith, next.same_b eq)
            | inr (inl lt) ↦ omega (arith, next.less_b lt, next.less_c lt)
            | inr (inr gt) ↦ omega (arith, next.more_b gt)
          ]
    ]

-- if lists differ in at most three numbers, and give equal sums from the same start, they are equal
three_left : (s : Sums) (xs ys : List ℕ) → length xs ≡ length ys → differences xs ys ≤ 3 → Same (run s xs) (run s ys) → xs ≡ ys
three_left s [] [] len few same = refl
three_left s [] (y ∷ ys) len few same = absurd (omega (arith, len))
three_left s (x ∷ xs) [] len few same = absurd (omega (arith, len))
three_left s (x ∷ xs) (y ∷ ys) len few same =
    elim (cases_order x y) [
      | inl e ↦
          let next : Same (run (step s x) xs) (run (step s x) ys) = subst (λ (h : ℕ). Same (run (step s x) xs) (run (step s h) ys)) (sym e)
          same in
          let rest = three_left (step s x) xs ys (omega (arith, len)) (omega (arith, few, same_heads x y xs ys e)) next in
          cc
      | inr (inl lt) ↦
          let other = other_heads x y xs ys (λ e. omega (arith, e, lt)) in
          let turned : Same (run (step s y) ys) (run (step s x) xs) = (sym same.0, sym same.1, sym same.2) in
          absurd (
          two_left (step s y) (step s x) ys xs (omega (arith, len)) (omega (arith, few, other, turned_round xs ys)) (omega arith)
          (omega arith) (omega arith)
          turned
          )
      | inr (inr gt) ↦
          let other = other_heads x y xs ys (λ e. omega (arith, e, gt)) in
          absurd (two_left (step s x) (step s y) xs ys (omega (arith, len)) (omega (arith, few, other)) (omega arith) (omega arith)
          (omega arith) same)
    ]

pub three_told : (xs ys : List ℕ) → length xs ≡ length ys → differences xs ys ≤ 3 → sums xs ≡ sums ys → xs ≡ ys
three_told xs ys len few e =
    let runs : run (sums []) xs ≡ run (sums []) ys = run_is xs ∙ e ∙ sym (run_is ys) in
    three_left (sums []) xs ys len few (ap (λ (s : Sums). s.a) runs, ap (λ (s : Sums). s.b) runs, ap (λ (s : Sums). s.c) runs)

-- lists that differ in at most two numbers, and have the same sums b and c, are equal
pub two_told : (xs ys : List ℕ) → length xs ≡ length ys → differences xs ys ≤ 2 → weighted place xs ≡ weighted place ys →
    weighted triangle xs ≡ weighted triangle ys → xs ≡ ys
two_told xs ys len few b c =
    let h : ℕ = weighted one ys in
    let k : ℕ = weighted one xs in
    let a : weighted one (xs ++ h ∷ []) ≡ weighted one (ys ++ k ∷ []) = omega (arith, a_push h xs, a_push k ys) in
    let b' : weighted place (xs ++ h ∷ []) ≡ weighted place (ys ++ k ∷ []) = omega (arith, b_push h xs, b_push k ys, b) in
    let c' : weighted triangle (xs ++ h ∷ []) ≡ weighted triangle (ys ++ k ∷ []) = omega (arith, c_push h xs, c_push k ys, b, c) in
    let whole : xs ++ h ∷ [] ≡ ys ++ k ∷ [] =
    three_told (xs ++ h ∷ []) (ys ++ k ∷ []) (omega (arith, length_push xs h, length_push ys k, len))
    (omega (arith, one_more h k xs ys len, few))
    (same_sums (sums (xs ++ h ∷ [])) (sums (ys ++ k ∷ [])) a b' c') in
    (same_from_push xs ys h k whole).0
