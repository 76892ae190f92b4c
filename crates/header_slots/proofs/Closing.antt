-- Gates are closed one after another.
use Rattle.std.proofs.Common.{◌≡◌, ℕ, ◌+◌, ◌-◌, ◌%◌, ◌<◌, List, None, Some, ap, subst, sym, ◌∙◌, inl, inr, arith}
use Rattle.std.proofs.lemmas.Bool.{cases_eq}
use Rattle.std.proofs.lemmas.Option.{same_Some}
use Rattle.header_slots.specs.Closing.{OldThirdFirst, OtherThirdLast, TearsGateOf}
use Rattle.header_slots.specs.Slots.{Counts, IsCommitted, Opens, Slot, Slots}
use Rattle.header_slots.proofs.Counting.{below_greatest}

-- ---- writes of gates keep the headers

abbrev HeadersStay : Slots → Slots → Type 0
HeadersStay old new = (k : ℕ) → ((new k).header ≡ (old k).header) × ((new k).bytes ≡ (old k).bytes)

headers_stay : (slot : ℕ) (old new : Slots) → TearsGateOf slot old new → HeadersStay old new
headers_stay slot old new torn k =
    elim (cases_eq k slot) [
      | inl e ↦ (
        ap (λ (i : ℕ). (new i).header) e ∙ torn.header ∙ ap (λ (i : ℕ). (old i).header) (sym e),
        ap (λ (i : ℕ). (new i).bytes) e ∙ torn.bytes ∙ ap (λ (i : ℕ). (old i).bytes) (sym e),
      )
      | inr ne ↦ (ap (λ (it : Slot). it.header) (torn.others k ne), ap (λ (it : Slot). it.bytes) (torn.others k ne))
    ]

both_stay : (a b c : Slots) → HeadersStay a b → HeadersStay b c → HeadersStay a c
both_stay a b c one two k = ((two k).0 ∙ (one k).0, (two k).1 ∙ (one k).1)

gate_stays : (slot k : ℕ) (old new : Slots) → TearsGateOf slot old new → (k ≡ slot → ⊥) → (new k).gate ≡ (old k).gate
gate_stays slot k old new torn other = ap (λ (it : Slot). it.gate) (torn.others k other)

-- no header counts in a slot whose gate is closed
closed_out : (x : Slots) (k n : ℕ) → (x k).gate ≡ None → Counts x n → n % 3 ≡ k → ⊥
closed_out x k n closed it e =
    let lost : Some n ≡ None = sym it.gate ∙ ap (λ (i : ℕ). (x i).gate) e ∙ closed in
    cc

module _ (a x : Slots) (s : ℕ) (was : IsCommitted a s) (headers : HeadersStay a x) where
  is_s : (n : ℕ) → Counts x n → n % 3 ≡ s % 3 → n ≡ s
  is_s n it e = same_Some n s (sym it.header ∙ (headers (n % 3)).0 ∙ ap (λ (k : ℕ). (a k).header) e ∙ was.pair.counts.header)

  is_before : (n : ℕ) → Counts x n → n % 3 ≡ (s + 2) % 3 → n ≡ s - 1
  is_before n it e =
      let positive : 0 < s = was.pair.positive in
      let slot : n % 3 ≡ (s - 1) % 3 = omega (arith, e, positive) in
      same_Some n (s - 1) (sym it.header ∙ (headers (n % 3)).0 ∙ ap (λ (k : ℕ). (a k).header) slot ∙ was.pair.neighbour.header)

  -- if the header in the third slot is no neighbour of s or s - 1, only s can be committed
  only_pair : ((n : ℕ) → Counts x n → n % 3 ≡ (s + 1) % 3 → (n ≡ s + 1 → ⊥) × (n + 1 ≡ s - 1 → ⊥)) → (t : ℕ) → IsCommitted x t → t ≡ s
  only_pair third t is =
      let positive : 0 < t = is.pair.positive in
      let some : 0 < s = was.pair.positive in
      elim (cases_eq ((t - 1) % 3) (s % 3)) [
        | inl here ↦
            let before : t - 1 ≡ s = is_s (t - 1) is.pair.neighbour here in
            absurd ((third t is.pair.counts (omega (arith, before, positive))).0 (omega (arith, before, positive)))
        | inr elsewhere ↦
            elim (cases_eq ((t - 1) % 3) ((s + 1) % 3)) [
              | inl there ↦
                  let number : t ≡ s - 1 = is_before t is.pair.counts (omega (arith, there, positive)) in
                  absurd ((third (t - 1) is.pair.neighbour there).1 (omega (arith, number, positive)))
              | inr other ↦
                  let before : t - 1 ≡ s - 1 = is_before (t - 1) is.pair.neighbour (omega (arith, elsewhere, other)) in
                  omega (arith, before, positive, some)
            ]
      ]

  -- if the gate of the third slot is closed, only s can be committed
  third_closed : (x ((s + 1) % 3)).gate ≡ None → (t : ℕ) → IsCommitted x t → t ≡ s
  third_closed closed t is = only_pair (λ n it e. absurd (closed_out x ((s + 1) % 3) n closed it e)) t is

  -- if the third slot's gate is unchanged, and the slot holds no older header that counts, only s can be committed
  third_stays : ((n : ℕ) → Counts a n → n % 3 ≡ (s + 1) % 3 → s < n) → (x ((s + 1) % 3)).gate ≡ (a ((s + 1) % 3)).gate → (t : ℕ) →
      IsCommitted x t → t ≡ s
  third_stays newer gate t is =
      only_pair (λ n it e. (
        (λ next. was.next (sym gate ∙ subst (λ (m : ℕ). (x (m % 3)).gate ≡ Some m) next it.gate)),
        (λ older.
            let counts : Counts a n = record {
              header = sym (headers (n % 3)).0 ∙ it.header;
              gate = ap (λ (k : ℕ). (a k).gate) e ∙ sym gate ∙ ap (λ (k : ℕ). (x k).gate) (sym e) ∙ it.gate;
            } in
            omega (arith, older, newer n counts e)),
      )) t is

  -- once the gates of s and s - 1 are closed, only s can be committed
  two_closed : (x ((s + 2) % 3)).gate ≡ None → (x (s % 3)).gate ≡ None → (t : ℕ) → IsCommitted x t → t ≡ s
  two_closed before here t is =
      let positive : 0 < t = is.pair.positive in
      elim (cases_eq (t % 3) (s % 3)) [
        | inl e ↦ absurd (closed_out x (s % 3) t here is.pair.counts e)
        | inr ne ↦
            elim (cases_eq (t % 3) ((s + 2) % 3)) [
              | inl e ↦ absurd (closed_out x ((s + 2) % 3) t before is.pair.counts e)
              | inr other ↦ absurd (closed_out x (s % 3) (t - 1) here is.pair.neighbour (omega (arith, ne, other, positive)))
            ]
      ]

  same_bytes : (t : ℕ) (r q : List ℕ) → (a (s % 3)).bytes ≡ r → Opens x t q → t ≡ s → (t ≡ s) × (q ≡ r)
  same_bytes t r q bytes is same = (
    same,
    sym (subst (λ (n : ℕ). Opens x n q) same is).bytes ∙ (headers (s % 3)).1 ∙ bytes,
  )

-- while the gate of an older header in the third slot is being written, only s can be committed
older_torn : (a x : Slots) (s n t : ℕ) → IsCommitted a s → Counts a n → n % 3 ≡ (s + 1) % 3 → n < s → TearsGateOf ((s + 1) % 3) a x →
    IsCommitted x t → t ≡ s
older_torn a x s n t was it third older torn is =
    let headers = headers_stay ((s + 1) % 3) a x torn in
    let some : 0 < s = was.pair.positive in
    let counts : Counts x s = record {
      header = (headers (s % 3)).0 ∙ was.pair.counts.header;
      gate = gate_stays ((s + 1) % 3) (s % 3) a x torn (λ e. omega (arith, e)) ∙ was.pair.counts.gate;
    } in
    let neighbour : Counts x (s - 1) = record {
      header = (headers ((s - 1) % 3)).0 ∙ was.pair.neighbour.header;
      gate = gate_stays ((s + 1) % 3) ((s - 1) % 3) a x torn (λ e. omega (arith, e, some)) ∙ was.pair.neighbour.gate;
    } in
    let most = below_greatest x t s was.pair.positive counts neighbour is.pair in
    elim (cases_eq (t % 3) (s % 3)) [
      | inl e ↦ is_s a x s was headers t is.pair.counts e
      | inr ne ↦
          elim (cases_eq (t % 3) ((s + 2) % 3)) [
            | inl e ↦ omega (arith, is_before a x s was headers t is.pair.counts e, most, some)
            | inr other ↦
                let slot : t % 3 ≡ n % 3 = omega (arith, ne, other, third) in
                let number : t ≡ n =
                same_Some t n (sym is.pair.counts.header ∙ (headers (t % 3)).0 ∙ ap (λ (k : ℕ). (a k).header) slot ∙ it.header) in
                omega (arith, number, older, most)
          ]
    ]

pub old_third_first : OldThirdFirst
old_third_first old new s n t r q was it third older (inl torn) is =
    same_bytes old new s was.committed (headers_stay ((s + 1) % 3) old new torn) t r q was.bytes is
    (older_torn old new s n t was.committed it third older torn is.committed)
old_third_first old new s n t r q was it third older (inr (inl left)) is =
    let headers = both_stay old left.0 new (headers_stay ((s + 1) % 3) old left.0 left.1.torn)
    (headers_stay ((s + 2) % 3) left.0 new left.2) in
    let closed = gate_stays ((s + 2) % 3) ((s + 1) % 3) left.0 new left.2 (λ e. omega (arith, e)) ∙ left.1.closed in
    same_bytes old new s was.committed headers t r q was.bytes is (third_closed old new s was.committed headers closed t is.committed)
old_third_first old new s n t r q was it third older (inr (inr left)) is =
    let one = headers_stay ((s + 1) % 3) old left.0 left.2.torn in
    let two = headers_stay ((s + 2) % 3) left.0 left.1 left.3.torn in
    let headers = both_stay old left.1 new (both_stay old left.0 left.1 one two) (headers_stay (s % 3) left.1 new left.4) in
    let closed =
    gate_stays (s % 3) ((s + 1) % 3) left.1 new left.4 (λ e. omega (arith, e))
    ∙ gate_stays ((s + 2) % 3) ((s + 1) % 3) left.0 left.1 left.3.torn (λ e. omega (arith, e)) ∙ left.2.closed in
    same_bytes old new s was.committed headers t r q was.bytes is (third_closed old new s was.committed headers closed t is.committed)

pub other_third_last : OtherThirdLast
other_third_last old new s t r q was newer (inl torn) is =
    let headers = headers_stay ((s + 2) % 3) old new torn in
    let gate = gate_stays ((s + 2) % 3) ((s + 1) % 3) old new torn (λ e. omega (arith, e)) in
    same_bytes old new s was.committed headers t r q was.bytes is (third_stays old new s was.committed headers newer gate t is.committed)
other_third_last old new s t r q was newer (inr (inl left)) is =
    let headers = both_stay old left.0 new (headers_stay ((s + 2) % 3) old left.0 left.1.torn) (headers_stay (s % 3) left.0 new left.2) in
    let gate =
    gate_stays (s % 3) ((s + 1) % 3) left.0 new left.2 (λ e. omega (arith, e))
    ∙ gate_stays ((s + 2) % 3) ((s + 1) % 3) old left.0 left.1.torn (λ e. omega (arith, e)) in
    same_bytes old new s was.committed headers t r q was.bytes is (third_stays old new s was.committed headers newer gate t is.committed)
other_third_last old new s t r q was newer (inr (inr left)) is =
    let one = headers_stay ((s + 2) % 3) old left.0 left.2.torn in
    let two = headers_stay (s % 3) left.0 left.1 left.3.torn in
    let headers = both_stay old left.1 new (both_stay old left.0 left.1 one two) (headers_stay ((s + 1) % 3) left.1 new left.4) in
    let before =
    gate_stays ((s + 1) % 3) ((s + 2) % 3) left.1 new left.4 (λ e. omega (arith, e))
    ∙ gate_stays (s % 3) ((s + 2) % 3) left.0 left.1 left.3.torn (λ e. omega (arith, e)) ∙ left.2.closed in
    let here = gate_stays ((s + 1) % 3) (s % 3) left.1 new left.4 (λ e. omega (arith, e)) ∙ left.3.closed in
    same_bytes old new s was.committed headers t r q was.bytes is (two_closed old new s was.committed headers before here t is.committed)
