-- Blocks are filled frame by frame.
use Rattle.home_ranges.proofs.Names.{ℕ, List, length, drop, ap, sym, subst, inl, inr, arith, cases_lt, drop-drop, drop-replicate, length-replicate, replicate}
use Rattle.home_ranges.proofs.Names.{Shape, IsObject, IsPlan, Plan, home_place, shape_of, shape_bytes, shape_end, IsBlankFrom, zeros, EndsInZeros, HaveHome}
use Rattle.home_ranges.proofs.Names.{IsFirstOf}
use Rattle.std.proofs.Common.{◌≡◌, ◌+◌, ◌-◌, ◌<◌, ◌≤◌, ◌∙◌}
use Rattle.home_ranges.proofs.Places.{frames_rise}

-- zeros from a byte on are zeros from any later one on
blank_later : (end at : ℕ) (xs : List ℕ) → end ≤ at → IsBlankFrom end xs → IsBlankFrom at xs
unfolding zeros
blank_later end at xs low blank =
    let sum : end + (at - end) ≡ at = omega (arith, low) in
    let rest : length xs - end - (at - end) ≡ length xs - at = omega (arith, low) in
    ap (λ (k : ℕ). drop k xs) (sym sum) ∙ sym (drop-drop (at - end) end xs) ∙ ap (drop (at - end)) blank
    ∙ drop-replicate (at - end) (length xs - end) 0 ∙
    ap (λ (k : ℕ). replicate k 0) rest

pub all_blank : (n : ℕ) {xs : List ℕ} → xs ≡ replicate n 0 → IsBlankFrom 0 xs
unfolding zeros
all_blank n {xs} is =
    let size : n ≡ length xs - 0 = omega (arith, ap length is, length-replicate {A = ℕ} n 0) in
    is ∙ ap (λ (k : ℕ). replicate {A = ℕ} k 0) size

-- a block contains the frames of n numbers from `first` on
abbrev pub AreIn : Plan → (ℕ → List ℕ) → ℕ → ℕ → List ℕ → Type 0
AreIn p frame first n block = (k : ℕ) → k < n → shape_bytes (shape_of p (first + k)) block ≡ frame (first + k)

-- a block has only zeros after the frames of these numbers
abbrev pub AreEnded : Plan → ℕ → ℕ → List ℕ → Type 0
AreEnded p first n block = (at : ℕ) → ((k : ℕ) → k < n → shape_end (shape_of p (first + k)) ≤ at) → IsBlankFrom at block

pub none_ended : (p : Plan) (first : ℕ) (block : List ℕ) → IsBlankFrom 0 block → AreEnded p first 0 block
none_ended p first block blank at behind = blank_later 0 at block (omega arith) blank

module _ {p : Plan} (first n : ℕ) {m : ℕ} (old new : List ℕ) (fits : IsPlan p) (have : HaveHome p first m) (lt : n < m) where
  before : (k : ℕ) → k < n → shape_end (shape_of p (first + k)) ≤ (shape_of p (first + n)).offset
  before k less =
      let in_k : k < m = omega (arith, less, lt) in
      frames_rise fits (have.object k in_k) (have.object n lt) (have.same k in_k ∙ sym (have.same n lt)) (omega (arith, less))

  pub one_frame_more : (frame : ℕ → List ℕ) → AreIn p frame first n old → shape_bytes (shape_of p (first + n)) new ≡ frame (first + n)
      → ((s : Shape) → shape_end s ≤ (shape_of p (first + n)).offset → shape_bytes s new ≡ shape_bytes s old) →
      AreIn p frame first (n + 1) new
  one_frame_more frame so_far here stay k below = elim (cases_lt k n) [
    | inl less ↦ stay (shape_of p (first + k)) (before k less) ∙ so_far k less
    | inr le ↦
        let same : n ≡ k = omega (arith, below, le) in
        subst (λ (j : ℕ). shape_bytes (shape_of p (first + j)) new ≡ frame (first + j)) same here
  ]

  pub ended_more : AreEnded p first n old
      → (IsBlankFrom (shape_end (shape_of p (first + n))) old → IsBlankFrom (shape_end (shape_of p (first + n))) new) →
      AreEnded p first (n + 1) new
  ended_more so_far stays at behind =
      let end : ℕ = shape_end (shape_of p (first + n)) in
      blank_later end at new (behind n (omega arith)) (stays (so_far end (λ k less. let rise = before k less in omega (arith, rise))))

module _ {p : Plan} {number first m : ℕ} (block : List ℕ) (start : IsFirstOf p number first) (have : HaveHome p first m) (n : ℕ)
    (most : m ≤ n) where
  -- if a block contains the frames of all numbers that share a home, it contains the frame of each
  pub all_in : (frame : ℕ → List ℕ) → AreIn p frame first n block → (a : ℕ) → IsObject p.geometry a → home_place p a ≡ home_place p number →
      shape_bytes (shape_of p a) block ≡ frame a
  all_in frame so_far a is_a same =
      let low = start.least a is_a same in
      let high = have.all a is_a low (same ∙ sym start.home) in
      let place : first + (a - first) ≡ a = omega (arith, low) in
      subst (λ (j : ℕ). shape_bytes (shape_of p j) block ≡ frame j) place (so_far (a - first) (omega (arith, high, low, most)))

  pub all_ended : n ≤ m → AreEnded p first n block → EndsInZeros p number block
  all_ended whole so_far at behind =
      so_far at (λ k lt. let in_k : k < m = omega (arith, lt, whole) in behind (first + k) (have.object k in_k)
      (have.same k in_k ∙ start.home))
