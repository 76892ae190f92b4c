-- Each call preserves `IsSoundMirror`: bytes and record agree.
use Rattle.devices.proofs.Names.{nat_tests, ℕ, zero, suc, Bool, true, false, nat_eq, List, [], length, drop, All, sym, ap, arith, inl, inr, ⊎_elim, cases_lt}
use Rattle.devices.proofs.Names.{cases_Bool, or_cases, eqb-true, eqb-false, cases_order, drop-append-le, drop_all, or_assoc, Outcome, Synced, RecordEntry, None}
use Rattle.devices.proofs.Names.{Agrees, Elsewhere, Patches, AreSectors, sectors_of, image_of, Event, wrote, synced, cut, State, at_first, after, replay}
use Rattle.devices.proofs.Names.{left_by, writes_of, names, events_of, entries_of, marked, IsSoundMirror, now_of, state_with, or-false, or_parts}
use Rattle.std.proofs.Common.{◌≡◌, ◌<◌, ◌≤◌, ◌⊎◌, ◌+◌, ◌-◌, ◌||◌, ◌∷◌, ◌++◌, ◌∙◌}
use Rattle.devices.proofs.Past.{replay-append, replay-one, written-durable, written-present_before, written-present_after, written-present_inside}
use Rattle.devices.proofs.Past.{quiet-unsynced}
use Rattle.devices.proofs.Patches.{names-append}
use Rattle.devices.proofs.Entries.{past_written, length_written, past_synced, events_of-marked}

-- the entries of a write name only the sectors from `at` to at + n - 1
pub names-entries_of : (at n : ℕ) (bytes : List ℕ) (i : ℕ) → names (entries_of at n bytes) i ≡ true → (at ≤ i) × (i < at + n)
names-entries_of at zero bytes i hit = cc
names-entries_of at (suc n) bytes i hit =
    ⊎_elim
    (λ before. let far = names-entries_of at n bytes i before in (far.0, omega (arith, far.1)))
    (λ last. let here : i ≡ at + n = eqb-true i (at + n) (sym (or-false _) ∙ last) in (omega (arith, here), omega (arith, here)))
    (or_cases (names (entries_of at n bytes) i) _ (sym (names-append (entries_of at n bytes) _ i) ∙ hit))

names-outside : (at n : ℕ) (bytes : List ℕ) (i : ℕ) → names (entries_of at n bytes) i ≡ false → (i < at) ⊎ (at + n ≤ i)
names-outside at zero bytes i miss = ⊎_elim inl (λ le. inr (omega (arith, le))) (cases_lt i at)
names-outside at (suc n) bytes i miss =
    let both = or_parts (names (entries_of at n bytes) i) _ (sym (names-append (entries_of at n bytes) _ i) ∙ miss) in
    let apart : i ≡ at + n → ⊥ = eqb-false i (at + n) (sym (or-false _) ∙ both.1) in
    ⊎_elim inl (λ le. ⊎_elim (λ e. absurd (apart e)) (⊎_elim (λ lt. absurd (omega (arith, lt, le))) (λ gt. inr (omega (arith, gt))))
    (cases_order i (at + n)))
    (names-outside at n bytes i both.0)

pub written-unsynced : (s : State) (at n : ℕ) (bytes : List ℕ) (i : ℕ) →
    (replay s (writes_of at n bytes)).unsynced i ≡ (s.unsynced i || names (entries_of at n bytes) i)
written-unsynced s at zero bytes i = sym (or-false (s.unsynced i))
written-unsynced s at (suc n) bytes i =
    ap (λ (t : State). t.unsynced i) (replay-one s (writes_of at n bytes) (wrote (at + n) (image_of bytes n)))
    ∙ ap (λ (b : Bool). b || nat_eq i (at + n)) (written-unsynced s at n bytes i)
    ∙ or_assoc (s.unsynced i) (names (entries_of at n bytes) i) (nat_eq i (at + n))
    ∙ ap (λ (b : Bool). s.unsynced i || (names (entries_of at n bytes) i || b)) (sym (or-false (nat_eq i (at + n))))
    ∙ ap (λ (b : Bool). s.unsynced i || b) (sym (names-append (entries_of at n bytes) _ i))

module _ (sectors : ℕ) (first present durable : List ℕ) (entries : List RecordEntry) (settled : ℕ)
    (sound : IsSoundMirror sectors first present durable entries settled) where
  -- facts after a write
  module _ (put from : List ℕ) (more : List RecordEntry) (at : ℕ) (size : length put ≡ length present) (fits : All (λ b. b < 256) put)
      (inside : at + sectors_of from ≤ sectors)
      (has : AreSectors (image_of put) at from) (elsewhere : Elsewhere at (sectors_of from) (image_of present) (image_of put))
      (is : more ≡ entries ++ entries_of at (sectors_of from) from) where
    now_written : now_of first more ≡ replay (now_of first entries) (writes_of at (sectors_of from) from)
    now_written = ap (λ (l : List Event). replay (at_first (image_of first)) l) (past_written entries more at (sectors_of from) from is) ∙
        replay-append (at_first (image_of first)) (events_of entries) _

    names_written : (i : ℕ) → names (drop settled more) i ≡ (names (drop settled entries) i || names (entries_of at (sectors_of from) from)
        i)
    names_written i = grind (arith, nat_tests, drop-append-le, names-append)

    present_written : (i : ℕ) → image_of put i ≡ (now_of first more).present i
    present_written i =
        ⊎_elim
        (λ lt. elsewhere.before i lt ∙ sound.present_is i ∙ sym (written-present_before (now_of first entries) at (sectors_of from) from i
        lt))
        (λ le. ⊎_elim
        (λ far.
        let j = i - at in
        let place : at + j ≡ i = omega (arith, le) in
        ap (λ (k : ℕ). image_of put k) (sym place)
        ∙ sym (has j (omega (arith, far, le)))
        ∙ sym (written-present_inside (now_of first entries) at (sectors_of from) from j (omega (arith, far, le)))
        ∙ ap (λ (k : ℕ). (replay (now_of first entries) (writes_of at (sectors_of from) from)).present k) place)
        (λ beyond. elsewhere.after i beyond ∙ sound.present_is i ∙ sym (written-present_after (now_of first entries) at (sectors_of from)
        from i beyond))
        (cases_lt i (at + sectors_of from)))
        (cases_lt i at)
        ∙ sym (ap (λ (t : State). t.present i) now_written)

    pub sound_written : IsSoundMirror sectors first put durable more settled
    sound_written =
        grind (
          arith,
          nat_tests,
          present_written,
          now_written,
          written-durable,
          length_written,
          written-unsynced,
          names_written,
          or_parts,
          names-outside,
          names-entries_of,
        )

  -- facts after a sync
  module _ (copied : List ℕ) (more : List RecordEntry) (size : length copied ≡ length durable) (fits : All (λ b. b < 256) copied)
      (has : Patches (names (drop settled entries)) (image_of present) (image_of durable) (image_of copied))
      (is : more ≡ entries ++ record { action = Synced; cut = None } ∷ []) where
    now_synced : now_of first more ≡ after (now_of first entries) synced
    now_synced = ap (λ (l : List Event). replay (at_first (image_of first)) l) (past_synced entries more is) ∙
        replay-one (at_first (image_of first)) (events_of entries) synced

    copied_is : (i : ℕ) → image_of copied i ≡ image_of present i
    copied_is i = ⊎_elim (has.named i) (λ miss. has.others i miss ∙ sym (sound.same_elsewhere i miss))
        (cases_Bool (names (drop settled entries) i))

    nothing_left : (i : ℕ) → names (drop (length more) more) i ≡ false
    nothing_left i = ap (λ (l : List RecordEntry). names l i) (drop_all (length more) more (omega arith))

    pub sound_synced : IsSoundMirror sectors first present copied more (length more)
    sound_synced = grind (arith, nat_tests, now_synced, copied_is, nothing_left)

  -- facts after a power cut
  module _ (kept copied : List ℕ) (more : List RecordEntry) (outcome : Outcome) (kept_size : length kept ≡ length present)
      (copied_size : length copied ≡ length durable)
      (kept_fits : All (λ b. b < 256) kept) (copied_fits : All (λ b. b < 256) copied) (same : Agrees (image_of copied) (image_of kept))
      (left : Agrees (image_of kept) (left_by outcome (now_of first entries))) (is : more ≡ marked outcome entries) where
    -- if no sector is unsynced, a power cut changes nothing
    quiet_left : ((i : ℕ) → (now_of first entries).unsynced i ≡ false) → (i : ℕ) → image_of kept i ≡ (now_of first entries).present i
    quiet_left quiet i = grind (arith, nat_tests)

    record Cut (i : ℕ) : Type 0 where
      present_is : image_of kept i ≡ (now_of first more).present i
      durable_is : image_of kept i ≡ (now_of first more).durable i
      none_unsynced : (now_of first more).unsynced i ≡ false

    now_marked : events_of (marked outcome entries) ≡ events_of entries ++ cut outcome ∷ [] →
        now_of first more ≡ at_first (left_by outcome (now_of first entries))
    now_marked mark = grind (arith, nat_tests, replay-one)

    now_same : events_of (marked outcome entries) ≡ events_of entries → now_of first more ≡ now_of first entries
    now_same unmarked = ap (λ (l : List Event). replay (at_first (image_of first)) l) (ap events_of is ∙ unmarked)

    -- after a power cut all sectors are synced, and hold what the cut leaves
    now_cut : (i : ℕ) → Cut i
    now_cut i = grind (arith, nat_tests, now_marked, quiet-unsynced, quiet_left, now_same, events_of-marked)

    nothing_left_cut : (i : ℕ) → names (drop (length more) more) i ≡ false
    nothing_left_cut i = ap (λ (l : List RecordEntry). names l i) (drop_all (length more) more (omega arith))

    pub sound_cut : IsSoundMirror sectors first kept copied more (length more)
    sound_cut = record {
      few = sound.few;
      present_size = kept_size ∙ sound.present_size;
      synced_size = copied_size ∙ sound.synced_size;
      present_fits = kept_fits;
      synced_fits = copied_fits;
      present_is = λ i. (now_cut i).present_is;
      durable_is = λ i. same i ∙ (now_cut i).durable_is;
      settled_within = omega arith;
      unsynced_are = λ i. (now_cut i).none_unsynced ∙ sym (nothing_left_cut i);
      same_elsewhere = λ i _. sym (same i);
      inside = λ i hit. let never : false ≡ true = sym (nothing_left_cut i) ∙ hit in cc;
    }

    -- a read after a power cut returns what the cut left
    pub cut_left : Agrees (now_of first more).present (left_by outcome (now_of first entries))
    cut_left i = sym (now_cut i).present_is ∙ left i

  -- a power cut leaves the same bytes whether the record or the stored bytes are used
  pub left_sound : (outcome : Outcome) → Agrees (left_by outcome (state_with present durable (drop settled entries)))
      (left_by outcome (now_of first entries))
  left_sound outcome = grind (arith, nat_tests)
