-- A header that is no longer sound.
use Rattle.std.proofs.Common.{◌≡◌, ℕ, ◌+◌, ◌-◌, ◌%◌, ◌<◌, ◌⊎◌, None, Some, ap, subst, sym, ◌∙◌, inl, inr, arith}
use Rattle.std.proofs.lemmas.Bool.{cases_eq}
use Rattle.header_slots.specs.Laws.{BrokenHeadersAreSeen}
use Rattle.header_slots.specs.Publish.{OthersStay}
use Rattle.header_slots.specs.Slots.{Counts, IsCommitted, Opens, Slot, Slots}
use Rattle.header_slots.proofs.Counting.{below_greatest, counts_before, is_known, one_committed}
use Rattle.header_slots.proofs.Publishing.{header_commits_none}

-- each header that counts now counted before
counted : (slot : ℕ) (old new : Slots) (n : ℕ) → OthersStay slot old new → (new slot).header ≡ None → Counts new n →
    (n % 3 ≡ slot → ⊥) × Counts old n
counted slot old new n others broken it =
    let other : n % 3 ≡ slot → ⊥ = λ e.
    let lost : Some n ≡ None = sym it.header ∙ ap (λ (k : ℕ). (new k).header) e ∙ broken in
    cc in
    (other, counts_before slot old new n others other it)

-- the gates of all slots are unchanged
same_gates : (slot : ℕ) (old new : Slots) (k : ℕ) → OthersStay slot old new → (new slot).gate ≡ (old slot).gate →
    (new k).gate ≡ (old k).gate
same_gates slot old new k others gate =
    elim (cases_eq k slot) [
      | inl e ↦ ap (λ (i : ℕ). (new i).gate) e ∙ gate ∙ ap (λ (i : ℕ). (old i).gate) (sym e)
      | inr ne ↦ ap (λ (it : Slot). it.gate) (others k ne)
    ]

-- if only the header of one slot changes, header s - 1 isn't committed afterwards: the gate of s shows that s was published
not_before : (slot : ℕ) (old new : Slots) (s t : ℕ) → IsCommitted old s → OthersStay slot old new → (new slot).gate ≡ (old slot).gate →
    IsCommitted new t → t + 1 ≡ s → ⊥
not_before slot old new s t was others gate is e =
    is.next (
    same_gates slot old new ((t + 1) % 3) others gate
    ∙ subst (λ (n : ℕ). (old (n % 3)).gate ≡ Some n) (sym e) was.pair.counts.gate
    )

lost_header : (slot : ℕ) (old new : Slots) (s t : ℕ) → IsCommitted old s → OthersStay slot old new → (new slot).gate ≡ (old slot).gate →
    (new slot).header ≡ None → IsCommitted new t → t ≡ s
lost_header slot old new s t was others gate broken is =
    let positive : 0 < s = was.pair.positive in
    let above : 0 < t = is.pair.positive in
    let counts = (counted slot old new t others broken is.pair.counts).1 in
    let neighbour = (counted slot old new (t - 1) others broken is.pair.neighbour).1 in
    let most = below_greatest old s t is.pair.positive counts neighbour was.pair in
    let gap : t + 1 ≡ s → ⊥ = not_before slot old new s t was others gate is in
    elim (cases_eq (t % 3) ((s + 1) % 3)) [
      | inl third ↦
          -- t - 1 is in the slot of s, so t - 1 is s
          let elsewhere = is_known old s (t - 1) was.pair.positive was.pair.counts was.pair.neighbour neighbour in
          elim (elsewhere (λ e. omega (arith, e, third, above))) [
            | inl here ↦ absurd (omega (arith, here, most, above))
            | inr before ↦ omega (arith, before, above, positive)
          ]
      | inr other ↦
          elim (is_known old s t was.pair.positive was.pair.counts was.pair.neighbour counts other) [
            | inl here ↦ here
            | inr before ↦ absurd (gap (omega (arith, before, positive)))
          ]
    ]

same_header : (slot : ℕ) (old new : Slots) (s t : ℕ) → IsCommitted old s → OthersStay slot old new → (new slot).gate ≡ (old slot).gate →
    ((new slot).header ≡ None ⊎ (slot ≡ (s + 1) % 3)) → IsCommitted new t → t ≡ s
same_header slot old new s t was others gate how is =
    elim how [
      | inl broken ↦ lost_header slot old new s t was others gate broken is
      | inr third ↦
          let others' : OthersStay ((s + 1) % 3) old new = subst (λ (k : ℕ). OthersStay k old new) third others in
          let gate' : (new ((s + 1) % 3)).gate ≡ (old ((s + 1) % 3)).gate = subst (λ (k : ℕ). (new k).gate ≡ (old k).gate) third gate in
          one_committed new t s is (header_commits_none old new s was (record { others = others'; gate = gate' }))
    ]

-- a header that counts isn't in the damaged slot
elsewhere : (slot : ℕ) (new : Slots) (s : ℕ) → ((new slot).header ≡ None ⊎ (slot ≡ (s + 1) % 3)) → Counts new s → s % 3 ≡ slot → ⊥
elsewhere slot new s how counts same =
    elim how [
      | inl broken ↦
          let lost : Some s ≡ None = sym counts.header ∙ ap (λ (k : ℕ). (new k).header) same ∙ broken in
          cc
      | inr third ↦ omega (arith, same, third)
    ]

pub broken_seen : BrokenHeadersAreSeen
broken_seen old new s slot t a b was others gate how is =
    let same = same_header slot old new s t was.committed others gate how is.committed in
    let there = subst (λ (n : ℕ). Opens new n b) same is in
    let stays : new (s % 3) ≡ old (s % 3) = others (s % 3) (elsewhere slot new s how there.committed.pair.counts) in
    (same, sym there.bytes ∙ ap (λ (it : Slot). it.bytes) stays ∙ was.bytes)
