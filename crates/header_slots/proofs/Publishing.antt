-- Publishing a header, with crashes during it.
use Rattle.std.proofs.Common.{◌≡◌, ℕ, ◌+◌, ◌-◌, ◌%◌, ◌<◌, ◌≤◌, ◌⊎◌, List, Some, ◌∷◌, ap, refl, subst, sym, ◌∙◌, inl, inr, arith}
use Rattle.std.proofs.lemmas.Bool.{cases_eq}
use Rattle.std.proofs.lemmas.Option.{same_Some}
use Rattle.header_slots.specs.Laws.{GateCommits, HeaderCommitsNothing, PublishedIsCommitted}
use Rattle.header_slots.specs.Publish.{IsOneOf, OthersStay, Runs, TearsGate, TearsHeader, none, cut_at_header, came_to_gate}
use Rattle.header_slots.specs.Slots.{Counts, IsCommitted, IsGreatestPair, Opens, Slot, Slots}
use Rattle.header_slots.proofs.Counting.{counts_after, is_known, is_number, one_committed}

-- if only the third slot changes, s and s - 1 still count
both_stay : (old new : Slots) (s : ℕ) → IsGreatestPair old s → OthersStay ((s + 1) % 3) old new → Counts new s × Counts new (s - 1)
both_stay old new s was others =
    let positive : 0 < s = was.positive in (
      counts_after ((s + 1) % 3) old new s others (λ e. omega (arith, e)) was.counts,
      counts_after ((s + 1) % 3) old new (s - 1) others (λ e. omega (arith, e, positive)) was.neighbour,
    )

-- if only the third slot changes, the bytes of header s are unchanged
same_bytes : (old new : Slots) (s : ℕ) (a : List ℕ) → Opens old s a → OthersStay ((s + 1) % 3) old new → (new (s % 3)).bytes ≡ a
same_bytes old new s a was others = ap (λ (it : Slot). it.bytes) (others (s % 3) (λ e. omega (arith, e))) ∙ was.bytes

pub header_commits_none : (old new : Slots) (s : ℕ) → IsCommitted old s → TearsHeader s old new → IsCommitted new s
header_commits_none old new s was torn =
    let both = both_stay old new s was.pair torn.others in
    record {
      pair = record {
        positive = was.pair.positive;
        counts = both.0;
        neighbour = both.1;
        greatest = λ n low high.
            elim (cases_eq ((n + 1) % 3) ((s + 1) % 3)) [
              | inl third ↦
                  elim (is_known new s n was.pair.positive both.0 both.1 low (λ e. omega (arith, e, third))) [
                    | inl here ↦
                        absurd (was.next (sym torn.gate ∙ subst (λ (m : ℕ). (new ((m + 1) % 3)).gate ≡ Some (m + 1)) here high.gate))
                    | inr before ↦ let positive : 0 < s = was.pair.positive in omega (arith, before, positive)
                  ]
              | inr other ↦
                  elim (is_known new s (n + 1) was.pair.positive both.0 both.1 high other) [
                    | inl here ↦ omega (arith, here)
                    | inr before ↦ omega (arith, before)
                  ]
            ];
      };
      next = λ e. was.next (sym torn.gate ∙ e);
    }

pub header_commits_nothing : HeaderCommitsNothing
header_commits_nothing old new s a was torn = record {
  committed = header_commits_none old new s was.committed torn;
  bytes = same_bytes old new s a was torn.others;
}

-- which headers count after the new header is written
module _ (old new : Slots) (s : ℕ) (b : List ℕ) (was : IsCommitted old s) (torn : TearsGate s b old new) where
  -- in the third slot only the new header can count
  is_new : (n : ℕ) → Counts new n → n % 3 ≡ (s + 1) % 3 → n ≡ s + 1
  is_new n it third = same_Some n (s + 1) (sym it.header ∙ ap (λ (k : ℕ). (new k).header) third ∙ torn.header)

  -- the new header is committed if its gate has its number
  is_committed_new : (new ((s + 1) % 3)).gate ≡ Some (s + 1) → IsCommitted new (s + 1)
  is_committed_new gate =
      let both = both_stay old new s was.pair torn.others in
      let positive : 0 < s = was.pair.positive in
      let same : s ≡ s + 1 - 1 = omega arith in
      record {
        pair = record {
          positive = omega arith;
          counts = record { header = torn.header; gate = gate };
          neighbour = subst (λ (n : ℕ). Counts new n) same both.0;
          greatest = λ n low high.
              elim (cases_eq ((n + 1) % 3) ((s + 1) % 3)) [
                | inl third ↦ omega (arith, is_new (n + 1) high third)
                | inr other ↦
                    elim (is_known new s (n + 1) was.pair.positive both.0 both.1 high other) [
                      | inl here ↦ omega (arith, here)
                      | inr before ↦ omega (arith, before)
                    ]
              ];
        };
        next = λ e.
            let slot : (s + 1 + 1) % 3 ≡ (s - 1) % 3 = omega (arith, positive) in
            let number : s + 1 + 1 ≡ s - 1 =
            same_Some (s + 1 + 1) (s - 1) (sym e ∙ ap (λ (k : ℕ). (new k).gate) slot ∙ both.1.gate) in
            omega (arith, number);
      }

  -- if the new header's gate doesn't have its number, the old header stays committed
  is_committed_old : ((new ((s + 1) % 3)).gate ≡ Some (s + 1) → ⊥) → IsCommitted new s
  is_committed_old no_gate =
      let both = both_stay old new s was.pair torn.others in
      record {
        pair = record {
          positive = was.pair.positive;
          counts = both.0;
          neighbour = both.1;
          greatest = λ n low high.
              elim (cases_eq ((n + 1) % 3) ((s + 1) % 3)) [
                | inl third ↦
                    absurd (no_gate (subst (λ (m : ℕ). (new (m % 3)).gate ≡ Some m) (is_new (n + 1) high third) high.gate))
                | inr other ↦
                    elim (is_known new s (n + 1) was.pair.positive both.0 both.1 high other) [
                      | inl here ↦ omega (arith, here)
                      | inr before ↦ omega (arith, before)
                    ]
              ];
        };
        next = no_gate;
      }

pub gate_commits : GateCommits
gate_commits old new s a b was torn =
    elim (is_number (new ((s + 1) % 3)).gate (s + 1)) [
      | inl gate ↦ inr (record { committed = is_committed_new old new s b was.committed torn gate; bytes = torn.bytes })
      | inr no_gate ↦
          inl (record {
            committed = is_committed_old old new s b was.committed torn no_gate;
            bytes = same_bytes old new s a was torn.others;
          })
    ]

pub published_commits : PublishedIsCommitted
published_commits old new s a b was is =
    let torn : TearsGate s b old new = record { others = is.others; header = is.header; bytes = is.bytes } in
    record { committed = is_committed_new old new s b was.committed torn is.gate; bytes = is.bytes }

-- ---- runs

-- after a run, header t or a later one that was published is committed, with its bytes
abbrev Left : ℕ → List ℕ → List (List ℕ) → Slots → Type 0
Left s a published last = (t : ℕ) × (b : List ℕ) × (s ≤ t) × (b ≡ a ⊎ IsOneOf b published) × Opens last t b

earlier : (a b x : List ℕ) (published : List (List ℕ)) → b ≡ a ⊎ IsOneOf b published → b ≡ a ⊎ IsOneOf b (x ∷ published)
earlier a b x published is =
    elim is [
      | inl first ↦ inl first
      | inr later ↦ inr (inr later)
    ]

-- the header that the next publish follows is the committed one, so it has the same bytes
opens_that : (slots : Slots) (t m : ℕ) (b : List ℕ) → Opens slots t b → IsCommitted slots m → Opens slots m b
opens_that slots t m b opens is = subst (λ (n : ℕ). Opens slots n b) (one_committed slots t m opens.committed is) opens

pub runs_commit : (first last : Slots) (published : List (List ℕ)) (s : ℕ) (a : List ℕ) → Opens first s a → Runs first published last →
    Left s a published last
runs_commit first last published s a start none = (s, a, omega arith, inl refl, start)
runs_commit first last published s a start (cut_at_header {old = old} {new = new} {s = m} run was torn) =
    let before = runs_commit first old published s a start run in
    let same = one_committed old before.0 m before.4.committed was in
    let here = opens_that old before.0 m before.1 before.4 was in
    (m, before.1, omega (arith, before.2, same), before.3, header_commits_nothing old new m before.1 here torn)
runs_commit first last published s a start (came_to_gate {old = old} {new = new} {published = sooner} {s = m} {bytes = x} run was torn) =
    let before = runs_commit first old sooner s a start run in
    let same = one_committed old before.0 m before.4.committed was in
    let here = opens_that old before.0 m before.1 before.4 was in
    elim (gate_commits old new m before.1 x here torn) [
      | inl is ↦ (m, before.1, omega (arith, before.2, same), earlier a before.1 x sooner before.3, is)
      | inr is ↦ (m + 1, x, omega (arith, before.2, same), inr (inl refl), is)
    ]
