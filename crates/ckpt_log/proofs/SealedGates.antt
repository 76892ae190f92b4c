-- Which header is committed while the gates are closed in order.
use Rattle.std.proofs.Common.{◌≡◌, ℕ, ◌+◌, ◌-◌, ◌%◌, ◌<◌, ◌≤◌, List, None, Some, ap, subst, sym, ◌∙◌, inl, inr, arith}
use Rattle.std.proofs.lemmas.Bool.{cases_eq}
use Rattle.std.proofs.lemmas.Option.{same_Some}
use Rattle.header_slots.specs.Closing.{ClosesGateOf, TearsGateOf}
use Rattle.header_slots.specs.Slots.{Counts, IsCommitted, Opens, Slot, Slots}
use Rattle.header_slots.proofs.Counting.{counts_after, counts_before, one_each}
use Rattle.ckpt_log.specs.sealed.Closing.{IsOrder}
use Rattle.ckpt_log.specs.declared.sealed.closing.Order.{Order}

-- ---- writes of gates keep the headers

abbrev HeadersStay : Slots → Slots → Type 0
HeadersStay old new = (k : ℕ) → ((new k).header ≡ (old k).header) × ((new k).bytes ≡ (old k).bytes)

headers_stay : (slot : ℕ) (old new : Slots) → TearsGateOf slot old new → HeadersStay old new
headers_stay slot old new torn k =
    elim (cases_eq k slot) [
      | inl e ↦ (
        ap (λ (i : ℕ). (new i).header) e ∙ torn.header ∙ ap (λ (i : ℕ). (old i).header) (sym e),
        ap (λ (i : ℕ). (new i).bytes) e ∙ torn.bytes ∙ ap (λ (i : ℕ). (old i).bytes) (sym e),
      )
      | inr ne ↦ (ap (λ (it : Slot). it.header) (torn.others k ne), ap (λ (it : Slot). it.bytes) (torn.others k ne))
    ]

both_stay : (a b c : Slots) → HeadersStay a b → HeadersStay b c → HeadersStay a c
both_stay a b c one two k = ((two k).0 ∙ (one k).0, (two k).1 ∙ (one k).1)

-- if no header changes, the header that counts in a slot keeps its number
same_number : (old new : Slots) (m n : ℕ) → HeadersStay old new → Counts old m → Counts new n → n % 3 ≡ m % 3 → n ≡ m
same_number old new m n stay was is e =
    same_Some n m (sym is.header ∙ (stay (n % 3)).0 ∙ ap (λ (k : ℕ). (old k).header) e ∙ was.header)

meet : (a b k : ℕ) → a ≡ k → b ≡ k → a ≡ b
meet a b k e f = e ∙ sym f

-- no header counts in a slot whose gate is closed
closed_out : (x : Slots) (k n : ℕ) → (x k).gate ≡ None → Counts x n → n % 3 ≡ k → ⊥
closed_out x k n closed it e =
    let lost : Some n ≡ None = sym it.gate ∙ ap (λ (i : ℕ). (x i).gate) e ∙ closed in
    cc

gate_stays : (slot k : ℕ) (old new : Slots) → TearsGateOf slot old new → (k ≡ slot → ⊥) → (new k).gate ≡ (old k).gate
gate_stays slot k old new torn other = ap (λ (it : Slot). it.gate) (torn.others k other)

-- if a header with another number than t + 1 counts in the slot of t + 1, that slot's gate doesn't have the number t + 1
other_gate : (slots : Slots) (m t : ℕ) → Counts slots m → (t + 1) % 3 ≡ m % 3 → (t + 1 ≡ m → ⊥) →
    (slots ((t + 1) % 3)).gate ≡ Some (t + 1) → ⊥
other_gate slots m t is e other gate = other (same_Some (t + 1) m (sym gate ∙ ap (λ (k : ℕ). (slots k).gate) e ∙ is.gate))

-- ---- gates that are closed in order

module _ (old : Slots) (o : Order) (is : IsOrder old o) where
  -- if a header counts in another slot, one with a lesser number counts in the first slot
  first_counts : (n : ℕ) → Counts old n → (n % 3 ≡ o.first → ⊥) → (m : ℕ) × (m % 3 ≡ o.first) × Counts old m × (m < n)
  first_counts n it other =
      elim (cases_eq (n % 3) o.second) [
        | inl e ↦ is.early n e it
        | inr ne ↦
            let last : n % 3 ≡ o.third =
            omega (arith, other, ne, is.first_low, is.second_low, is.third_low, is.apart, is.first_apart, is.second_apart) in
            let mid = is.late n last it in
            let low = is.early mid.0 mid.1 mid.2 in
            let less : mid.0 < n = mid.3 in
            let lesser : low.0 < mid.0 = low.3 in
            (low.0, low.1, low.2, omega (arith, less, lesser))
      ]

  -- no header that counts has a lesser number than the one in the first slot
  first_least : (m n : ℕ) → m % 3 ≡ o.first → Counts old m → Counts old n → m ≤ n
  first_least m n here it other =
      elim (cases_eq (n % 3) o.first) [
        | inl e ↦ let same : m ≡ n = one_each old m n it other (here ∙ sym e) in omega (arith, same)
        | inr ne ↦
            let low = first_counts n other ne in
            let same : m ≡ low.0 = one_each old m low.0 it low.2 (here ∙ sym low.1) in
            let less : low.0 < n = low.3 in
            omega (arith, same, less)
      ]

  -- ---- the first gate is torn
  module _ (new : Slots) (torn : TearsGateOf o.first old new) (t : ℕ) (now : IsCommitted new t) where
    counted_elsewhere : (n : ℕ) → Counts new n → (n % 3 ≡ o.first → ⊥) → Counts old n
    counted_elsewhere n it other = counts_before o.first old new n torn.others other it

    -- a header still counts in the first slot
    lowest : (m : ℕ) × (m % 3 ≡ o.first) × Counts old m
    lowest =
        let positive : 0 < t = now.pair.positive in
        elim (cases_eq (t % 3) o.first) [
          | inl e ↦
              let other : (t - 1) % 3 ≡ o.first → ⊥ = λ e'. omega (arith, e, e', positive) in
              let low = first_counts (t - 1) (counted_elsewhere (t - 1) now.pair.neighbour other) other in
              (low.0, low.1, low.2)
          | inr ne ↦ let low = first_counts t (counted_elsewhere t now.pair.counts ne) ne in (low.0, low.1, low.2)
        ]

    abbrev m : ℕ
    m = lowest.0

    -- each header that counts now counted before
    counted_before : (n : ℕ) → Counts new n → Counts old n
    counted_before n it =
        elim (cases_eq (n % 3) o.first) [
          | inl e ↦
              let same : n ≡ m = same_number old new m n (headers_stay o.first old new torn) lowest.2 it (e ∙ sym lowest.1) in
              subst (λ (k : ℕ). Counts old k) (sym same) lowest.2
          | inr ne ↦ counted_elsewhere n it ne
        ]

    least : m ≤ t - 1
    least = first_least m (t - 1) lowest.1 lowest.2 (counted_before (t - 1) now.pair.neighbour)

    in_first : (n : ℕ) → Counts old n → n % 3 ≡ o.first → n ≤ t - 1
    in_first n it e = let same : n ≡ m = one_each old n m it lowest.2 (e ∙ sym lowest.1) in omega (arith, same, least)

    first_committed : IsCommitted old t
    first_committed =
        let positive : 0 < t = now.pair.positive in
        record {
          pair = record {
            positive = now.pair.positive;
            counts = counted_before t now.pair.counts;
            neighbour = counted_before (t - 1) now.pair.neighbour;
            greatest = λ n low high.
                elim (cases_eq (n % 3) o.first) [
                  | inl e ↦ omega (arith, in_first n low e, positive)
                  | inr ne ↦
                      elim (cases_eq ((n + 1) % 3) o.first) [
                        | inl e ↦ omega (arith, in_first (n + 1) high e)
                        | inr ne' ↦
                            now.pair.greatest n (counts_after o.first old new n torn.others ne low)
                            (counts_after o.first old new (n + 1) torn.others ne' high)
                      ]
                ];
          };
          next = λ gate.
              elim (cases_eq ((t + 1) % 3) o.first) [
                | inl e ↦ other_gate old m t lowest.2 (e ∙ sym lowest.1) (λ same. omega (arith, same, least, positive)) gate
                | inr ne ↦ now.next (gate_stays o.first ((t + 1) % 3) old new torn ne ∙ gate)
              ];
        }

  -- ---- the first gate is closed, and the second is torn
  module _ (one new : Slots) (closed : ClosesGateOf o.first old one) (torn : TearsGateOf o.second one new) (t : ℕ) (now : IsCommitted new t)
    where
      stay : HeadersStay old new
      stay = both_stay old one new (headers_stay o.first old one closed.torn) (headers_stay o.second one new torn)

      not_first : (n : ℕ) → Counts new n → n % 3 ≡ o.first → ⊥
      not_first n it e =
          closed_out new o.first n (gate_stays o.second o.first one new torn is.apart ∙ closed.closed) it e

      counted_last : (n : ℕ) → Counts new n → n % 3 ≡ o.third → Counts old n
      counted_last n it e =
          counts_before o.first old one n closed.torn.others (not_first n it)
          (counts_before o.second one new n torn.others (λ e'. is.second_apart (sym e' ∙ e)) it)

      second_committed : IsCommitted old t
      second_committed =
          let positive : 0 < t = now.pair.positive in
          let not_t : t % 3 ≡ o.first → ⊥ = not_first t now.pair.counts in
          let not_before : (t - 1) % 3 ≡ o.first → ⊥ = not_first (t - 1) now.pair.neighbour in
          elim (cases_eq (t % 3) o.third) [
            | inl here ↦
                let before : (t - 1) % 3 ≡ o.second =
                omega (
                  arith,
                  here,
                  not_before,
                  positive,
                  is.first_low,
                  is.second_low,
                  is.third_low,
                  is.apart,
                  is.first_apart,
                  is.second_apart,
                ) in
                let counts = counted_last t now.pair.counts here in
                let mid = is.late t here counts in
                let same : t - 1 ≡ mid.0 = same_number old new mid.0 (t - 1) stay mid.2 now.pair.neighbour
                (meet ((t - 1) % 3) (mid.0 % 3) o.second before mid.1) in
                let neighbour : Counts old (t - 1) = subst (λ (k : ℕ). Counts old k) (sym same) mid.2 in
                let low = is.early (t - 1) before neighbour in
                let less : low.0 < t - 1 = low.3 in
                record {
                  pair = record {
                    positive = now.pair.positive;
                    counts = counts;
                    neighbour = neighbour;
                    greatest = λ n below above.
                        elim (cases_eq ((n + 1) % 3) (t % 3)) [
                          | inl e ↦ let same' : n + 1 ≡ t = one_each old (n + 1) t above counts e in omega (arith, same')
                          | inr ne ↦
                              elim (cases_eq ((n + 1) % 3) ((t - 1) % 3)) [
                                | inl e ↦ let same' : n + 1 ≡ t - 1 = one_each old (n + 1) (t - 1) above neighbour e in omega (arith, same')
                                | inr ne' ↦
                                    let slot : (n + 1) % 3 ≡ low.0 % 3 =
                                    omega (arith, ne, ne', low.1, not_t, not_before, positive, is.first_low) in
                                    let same' : n + 1 ≡ low.0 = one_each old (n + 1) low.0 above low.2 slot in
                                    omega (arith, same', less)
                              ]
                        ];
                  };
                  next =
                      let slot : (t + 1) % 3 ≡ low.0 % 3 = omega (arith, low.1, not_t, not_before, positive, is.first_low) in
                      other_gate old low.0 t low.2 slot (λ e. omega (arith, e, less));
                }
            | inr elsewhere ↦
                -- t - 1 is in the last slot, and the header in the second slot has a lesser number
                let here : t % 3 ≡ o.second =
                omega (arith, elsewhere, not_t, is.first_low, is.second_low, is.third_low, is.apart, is.first_apart, is.second_apart) in
                let last : (t - 1) % 3 ≡ o.third =
                omega (
                  arith,
                  here,
                  not_before,
                  positive,
                  is.first_low,
                  is.second_low,
                  is.third_low,
                  is.apart,
                  is.first_apart,
                  is.second_apart,
                ) in
                let mid = is.late (t - 1) last (counted_last (t - 1) now.pair.neighbour last) in
                let same : t ≡ mid.0 = same_number old new mid.0 t stay mid.2 now.pair.counts (meet (t % 3) (mid.0 % 3) o.second here mid.1)
                in
                let less : mid.0 < t - 1 = mid.3 in
                absurd (omega (arith, same, less))
          ]

  -- ---- with two gates closed no header is committed
  two_closed : (x : Slots) (t : ℕ) → (x o.first).gate ≡ None → (x o.second).gate ≡ None → IsCommitted x t → ⊥
  two_closed x t first second now =
      let positive : 0 < t = now.pair.positive in
      let a : t % 3 ≡ o.first → ⊥ = closed_out x o.first t first now.pair.counts in
      let b : t % 3 ≡ o.second → ⊥ = closed_out x o.second t second now.pair.counts in
      let c : (t - 1) % 3 ≡ o.first → ⊥ = closed_out x o.first (t - 1) first now.pair.neighbour in
      let d : (t - 1) % 3 ≡ o.second → ⊥ = closed_out x o.second (t - 1) second now.pair.neighbour in
      omega (arith, positive, a, b, c, d, is.first_low, is.second_low, is.apart)

  -- ---- a header that is committed now was committed before

  pub first_opens : (new : Slots) (t : ℕ) (row : List ℕ) → TearsGateOf o.first old new → Opens new t row → Opens old t row
  first_opens new t row torn opens = record {
    committed = first_committed new torn t opens.committed;
    bytes = sym (headers_stay o.first old new torn (t % 3)).1 ∙ opens.bytes;
  }

  pub second_opens : (one new : Slots) (t : ℕ) (row : List ℕ) → ClosesGateOf o.first old one → TearsGateOf o.second one new →
      Opens new t row → Opens old t row
  second_opens one new t row closed torn opens = record {
    committed = second_committed one new closed torn t opens.committed;
    bytes = sym (stay one new closed torn t opens.committed (t % 3)).1 ∙ opens.bytes;
  }

  pub third_opens : (one two new : Slots) (t : ℕ) → ClosesGateOf o.first old one → ClosesGateOf o.second one two →
      TearsGateOf o.third two new → IsCommitted new t → ⊥
  third_opens one two new t first second torn now =
      two_closed new t
      (gate_stays o.third o.first two new torn is.first_apart ∙ gate_stays o.second o.first one two second.torn is.apart ∙ first.closed)
      (gate_stays o.third o.second two new torn is.second_apart ∙ second.closed) now
