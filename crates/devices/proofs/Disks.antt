-- What the calls of a device with a record change: its image, and what a crash may leave.
use Rattle.devices.proofs.Names.{nat_tests, ℕ, zero, suc, Bool, false, nat_lt, List, [], sym, ap, subst, arith, inr, ⊎_elim, append_assoc, lt-ltb, Outcome}
use Rattle.devices.proofs.Names.{Image, Disk, IsWhole, Agrees, Elsewhere, AreSectors, sectors_of, image_of, Narrows, Tears, Only, Elapses, Event, wrote, synced}
use Rattle.devices.proofs.Names.{cut, State, at_first, after, replay, left_by, MayLeave, disk_of, writes_of, IsQuiet, EndsCut, or_parts}
use Rattle.std.proofs.lemmas.List.{append-nil}
use Rattle.std.proofs.Common.{◌≡◌, ◌<◌, ◌≤◌, ◌⊎◌, ◌+◌, if◌then◌else◌, ◌∷◌, ◌++◌, ◌∙◌}
use Rattle.devices.proofs.Past.{replay-append, replay-one, elapses_still, elapses_one, written-durable, written-present_before, written-present_after}
use Rattle.devices.proofs.Past.{written-present_inside, quiet-unsynced}
use Rattle.devices.proofs.Keeps.{written-unsynced, names-entries_of}

-- two calls in a row satisfy `Elapses` if each does, and after the second a crash may leave all that it may leave after the first
elapses_on : {old mid new : Disk} → Elapses old mid → Elapses mid new → ((c : Image) → mid.may_leave c → new.may_leave c) → Elapses old new
elapses_on {old} {mid} {new} first second grows = grind (arith, nat_tests)

module _ (sectors : ℕ) (first : Image) (past : List Event) where
  abbrev state : State
  state = replay (at_first first) past

  -- time goes on through the events of a write
  pub elapses_writes : (at n : ℕ) (bytes : List ℕ) (failures risen : ℕ) →
      Elapses (disk_of sectors first past failures) (disk_of sectors first (past ++ writes_of at n bytes) risen)
  elapses_writes at zero bytes failures risen = grind (arith, nat_tests, append-nil, elapses_still)
  elapses_writes at (suc n) bytes failures risen =
      let e = wrote (at + n) (image_of bytes n) in
      let before = past ++ writes_of at n bytes in
      let last : Elapses (disk_of sectors first before failures) (disk_of sectors first (before ++ e ∷ []) risen) =
      elapses_one sectors first before e failures
      risen in
      let grows : (c : Image) → MayLeave sectors (replay (at_first first) before) c →
      MayLeave sectors (replay (at_first first) (before ++ e ∷ [])) c =
      λ c left. subst (λ (s : State). MayLeave sectors s c) (sym (replay-one (at_first first) before e)) (record {
        whole = left.whole;
        untouched = λ i none. left.untouched i ((or_parts _ _ none).0);
      }) in
      subst (λ (l : List Event). Elapses (disk_of sectors first past failures) (disk_of sectors first l risen))
      (append_assoc past (writes_of at n bytes) (e ∷ []))
      (elapses_on (elapses_writes at n bytes failures failures) last grows)

  -- facts after a write
  module _ (more : List Event) (at : ℕ) (bytes : List ℕ) (is : more ≡ past ++ writes_of at (sectors_of bytes) bytes) where
    state_written : replay (at_first first) more ≡ replay state (writes_of at (sectors_of bytes) bytes)
    state_written = ap (λ (l : List Event). replay (at_first first) l) is ∙ replay-append (at_first first) past
        (writes_of at (sectors_of bytes) bytes)

    pub write_written : AreSectors (replay (at_first first) more).present at bytes
    write_written i lt = sym (ap (λ (s : State). s.present (at + i)) state_written
        ∙ written-present_inside state at (sectors_of bytes) bytes i lt)

    pub write_elsewhere : Elsewhere at (sectors_of bytes) state.present (replay (at_first first) more).present
    write_elsewhere = grind (arith, nat_tests, state_written, written-present_before, written-present_after)

    pub write_time : (failures risen : ℕ) → Elapses (disk_of sectors first past failures) (disk_of sectors first more risen)
    write_time failures risen =
        subst (λ (l : List Event). Elapses (disk_of sectors first past failures) (disk_of sectors first l risen)) (sym is)
        (elapses_writes at (sectors_of bytes) bytes failures risen)

    -- for each image that may be left after the write, one that could have been left before: it differs only in the written sectors
    untorn : Image → Image
    untorn c i = if nat_lt i at then c i else (if nat_lt i (at + sectors_of bytes) then state.durable i else c i)

    untorn_before : (c : Image) (i : ℕ) → i < at → untorn c i ≡ c i
    unfolding untorn
    untorn_before c i lt = ap (λ (b : Bool). if b then c i else (if nat_lt i (at + sectors_of bytes) then state.durable i else c i))
        (lt-ltb i at lt)

    untorn_after : (c : Image) (i : ℕ) → at + sectors_of bytes ≤ i → untorn c i ≡ c i
    unfolding untorn
    untorn_after c i le = grind (arith, nat_tests)

    untorn_inside : (c : Image) (i : ℕ) → at ≤ i → i < at + sectors_of bytes → untorn c i ≡ state.durable i
    unfolding untorn
    untorn_inside c i le lt = grind (arith, nat_tests)

    abbrev IsOutside : ℕ → Type 0
    IsOutside i = (i < at) ⊎ (at + sectors_of bytes ≤ i)

    inside_or_not : (i : ℕ) → ((at ≤ i) × (i < at + sectors_of bytes)) ⊎ IsOutside i
    inside_or_not i = grind (arith, nat_tests)

    untorn_outside : (c : Image) (i : ℕ) → IsOutside i → untorn c i ≡ c i
    untorn_outside c i out = ⊎_elim (untorn_before c i) (untorn_after c i) out

    -- a synced sector that the write doesn't touch stays synced
    outside_unsynced : (i : ℕ) → IsOutside i → state.unsynced i ≡ false → (replay (at_first first) more).unsynced i ≡ false
    outside_unsynced i out none = grind (arith, nat_tests, names-entries_of, state_written, written-unsynced)

    durable_kept : (i : ℕ) → (replay (at_first first) more).durable i ≡ state.durable i
    durable_kept i = ap (λ (s : State). s.durable i) state_written ∙ ap (λ (f : Image). f i)
        (written-durable state at (sectors_of bytes) bytes)

    untorn_left : IsWhole sectors state.durable → (c : Image) → MayLeave sectors (replay (at_first first) more) c →
        MayLeave sectors state (untorn c)
    untorn_left whole c left = grind (arith, nat_tests, untorn_inside, untorn_outside, inside_or_not, outside_unsynced, durable_kept)

    pub write_crash : IsWhole sectors state.durable → (failures risen : ℕ) →
        Tears at (sectors_of bytes) (disk_of sectors first past failures) (disk_of sectors first more risen)
    write_crash whole failures risen c left = (
      untorn c,
      untorn_left whole c left,
      record { before = λ i lt. sym (untorn_before c i lt); after = λ i le. sym (untorn_after c i le) },
    )

  -- facts after a sync
  module _ (more : List Event) (is : more ≡ past ++ synced ∷ []) where
    state_synced : replay (at_first first) more ≡ after state synced
    state_synced = ap (λ (l : List Event). replay (at_first first) l) is ∙ replay-one (at_first first) past synced

    pub sync_seen : Agrees (replay (at_first first) more).present state.present
    sync_seen i = ap (λ (s : State). s.present i) state_synced

    pub sync_durable : (risen : ℕ) → Only (replay (at_first first) more).present (disk_of sectors first more risen)
    sync_durable risen c left i = grind (arith, nat_tests, state_synced, sync_seen)

    pub sync_crash : ((i : ℕ) → state.unsynced i ≡ false → state.present i ≡ state.durable i) → (failures risen : ℕ) →
        Narrows (disk_of sectors first past failures) (disk_of sectors first more risen)
    sync_crash same failures risen c left = record {
      whole = left.whole;
      untouched = λ i none. sync_durable risen c left i ∙ sync_seen i ∙ same i none;
    }

    pub sync_time : (failures risen : ℕ) → Elapses (disk_of sectors first past failures) (disk_of sectors first more risen)
    sync_time failures risen =
        subst (λ (l : List Event). Elapses (disk_of sectors first past failures) (disk_of sectors first l risen)) (sym is)
        (elapses_one sectors first past synced failures risen)

  -- facts after a power cut
  module _ (more : List Event) (outcome : Outcome) (is : EndsCut outcome past more) where
    cut_quiet : IsQuiet more
    cut_quiet = ⊎_elim (λ mark. inr (past, outcome, mark)) (λ (same, quiet). subst IsQuiet (sym same) quiet) is

    pub cut_time : (failures risen : ℕ) → Elapses (disk_of sectors first past failures) (disk_of sectors first more risen)
    cut_time failures risen =
        ⊎_elim
        (λ mark. subst (λ (l : List Event). Elapses (disk_of sectors first past failures) (disk_of sectors first l risen)) (sym mark)
        (elapses_one sectors first past (cut outcome) failures risen))
        (λ (same, _). subst (λ (l : List Event). Elapses (disk_of sectors first past failures) (disk_of sectors first l risen)) (sym same)
        (elapses_still sectors first past failures risen))
        is

    pub cut_durable : ((i : ℕ) → (replay (at_first first) more).unsynced i ≡ false →
        (replay (at_first first) more).present i ≡ (replay (at_first first) more).durable i)
        → (risen : ℕ) → Only (replay (at_first first) more).present (disk_of sectors first more risen)
    cut_durable same risen c left i = grind (arith, nat_tests, quiet-unsynced, cut_quiet)

-- a power cut doesn't change synced sectors
left_untouched : (outcome : Outcome) (s : State) → ((i : ℕ) → s.unsynced i ≡ false → s.present i ≡ s.durable i) → (i : ℕ) →
    s.unsynced i ≡ false → left_by outcome s i ≡ s.durable i
left_untouched outcome s same i none = grind (arith, nat_tests)

-- a read after a power cut returns an image that a crash could have left
pub cut_may_leave : (sectors : ℕ) (outcome : Outcome) (s : State) (seen : Image) → IsWhole sectors seen →
    ((i : ℕ) → s.unsynced i ≡ false → s.present i ≡ s.durable i)
    → Agrees seen (left_by outcome s) → MayLeave sectors s seen
cut_may_leave sectors outcome s seen whole same left = record {
  whole = whole;
  untouched = λ i none. left i ∙ left_untouched outcome s same i none;
}
