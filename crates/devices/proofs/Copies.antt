-- Each call preserves `IsCopy`: the copy has the file's sectors.
use Rattle.devices.proofs.Names.{nat_tests, ℕ, List, [], length, All, Result, Ok, Err, OnOk, OnErr, refl, sym, ap, subst, arith, inl, ⊎_elim, cases_lt, Keep}
use Rattle.devices.proofs.Names.{IsWhole, Elsewhere, AreSectors, sectors_of, image_of, Narrows, Tears, Only, Elapses, Event, cut, State, at_first, after}
use Rattle.devices.proofs.Names.{MayLeave, disk_of, writes_of, image_whole, IsCopy, unwritten_same, synced}
use Rattle.devices.specs.Sound.{now_of}
use Rattle.devices.specs.SoundLaws.{present_whole}
use Rattle.std.proofs.Common.{◌≡◌, ◌<◌, ◌≤◌, ◌+◌, ◌-◌, ◌*◌, ◌∷◌, ◌++◌, ◌∙◌}
use Rattle.devices.proofs.Past.{elapses_one, elapses_still, replay-append, replay-one, written-durable}
use Rattle.devices.proofs.Disks as Disks

-- `IsCopy` holds of a copy of the file's first content, before any event
pub copy_fresh : (sectors : ℕ) (copy first : List ℕ) (events : List Event) → sectors ≤ 131072 → length copy ≡ 512 * sectors →
    All (λ b. b < 256) copy → first ≡ copy → events ≡ [] → IsCopy sectors copy first events
copy_fresh sectors copy first events few size fits first_is events_is =
    subst (λ (f : List ℕ). IsCopy sectors copy f events) (sym first_is)
    (subst (λ (es : List Event). IsCopy sectors copy copy es) (sym events_is) (record {
      few = few;
      size = size;
      fits = fits;
      present_is = λ i. refl;
      durable_whole = image_whole sectors copy size fits;
    }))

-- without an event, a crash leaves only the first content
pub fresh_only : (sectors : ℕ) (first : List ℕ) (events : List Event) (failures : ℕ) → events ≡ [] →
    Only (now_of first events).present (disk_of sectors (image_of first) events failures)
fresh_only sectors first events failures is = grind (arith, nat_tests)

module _ (sectors : ℕ) (copy first : List ℕ) (events : List Event) (sound : IsCopy sectors copy first events) (again : List ℕ)
    (again_is : again ≡ first)
    (more : List Event) where
  abbrev old : State
  old = now_of first events

  -- facts after a write
  module _ (put from : List ℕ) (at : ℕ) (is : more ≡ events ++ writes_of at (sectors_of from) from) where
    written : (i : ℕ) → i < sectors_of from → image_of from i ≡ (now_of first more).present (at + i)
    written = Disks.write_written sectors (image_of first) events more at from is

    unwritten : Elsewhere at (sectors_of from) old.present (now_of first more).present
    unwritten = Disks.write_elsewhere sectors (image_of first) events more at from is

    present_written : AreSectors (image_of put) at from → Elsewhere at (sectors_of from) (image_of copy) (image_of put) → (i : ℕ) →
        image_of put i ≡ (now_of first more).present i
    present_written has elsewhere i =
        ⊎_elim
        (λ lt. elsewhere.before i lt ∙ sound.present_is i ∙ sym (unwritten.before i lt))
        (λ le. ⊎_elim
        (λ far.
        let j = i - at in
        let place : at + j ≡ i = omega (arith, le) in
        ap (λ (k : ℕ). image_of put k) (sym place)
        ∙ sym (has j (omega (arith, far, le)))
        ∙ written j (omega (arith, far, le))
        ∙ ap (λ (k : ℕ). (now_of first more).present k) place)
        (λ beyond. elsewhere.after i beyond ∙ sound.present_is i ∙ sym (unwritten.after i beyond))
        (cases_lt i (at + sectors_of from)))
        (cases_lt i at)

    durable_kept : (now_of first more).durable ≡ old.durable
    durable_kept = grind (arith, nat_tests, replay-append, written-durable)

    pub copy_written : length put ≡ length copy → All (λ b. b < 256) put → AreSectors (image_of put) at from →
        Elsewhere at (sectors_of from) (image_of copy) (image_of put) → IsCopy sectors put again more
    copy_written size fits has elsewhere = grind (arith, nat_tests, present_written, durable_kept)

    pub copy_tears : (failures risen : ℕ) → Tears at (sectors_of from) (disk_of sectors (image_of first) events failures)
        (disk_of sectors (image_of again) more risen)
    copy_tears failures risen = rw again_is (Disks.write_crash sectors (image_of first) events more at from is sound.durable_whole failures
        risen)

    pub write_elapses : (failures risen : ℕ) → Elapses (disk_of sectors (image_of first) events failures)
        (disk_of sectors (image_of again) more risen)
    write_elapses failures risen = rw again_is (Disks.write_time sectors (image_of first) events more at from is failures risen)

  -- facts after a sync that succeeded
  module _ (is : more ≡ events ++ synced ∷ []) where
    now_synced : now_of first more ≡ after old synced
    now_synced = ap (λ (es : List Event). now_of first es) is ∙ replay-one (at_first (image_of first)) events synced

    copy_ok : IsCopy sectors copy again more
    copy_ok = subst (λ (f : List ℕ). IsCopy sectors copy f more) (sym again_is) (record {
      few = sound.few;
      size = sound.size;
      fits = sound.fits;
      present_is = λ i. sound.present_is i ∙ sym (ap (λ (s : State). s.present i) now_synced);
      durable_whole = subst (IsWhole sectors) (sym (ap (λ (s : State). s.durable) now_synced))
          (present_whole sectors copy first events sound);
    })

    only_ok : (risen : ℕ) → Only (now_of again more).present (disk_of sectors (image_of again) more risen)
    only_ok risen = rw again_is (Disks.sync_durable sectors (image_of first) events more is risen)

    narrows_ok : (failures risen : ℕ) → Narrows (disk_of sectors (image_of first) events failures)
        (disk_of sectors (image_of again) more risen)
    narrows_ok failures risen = rw again_is (Disks.sync_crash sectors (image_of first) events more is
        (unwritten_same (image_of first) events) failures risen)

  -- facts after a sync that failed
  module _ (is : more ≡ events) where
    copy_err : IsCopy sectors copy again more
    copy_err = rw (again_is, is) sound

    narrows_err : (failures risen : ℕ) → Narrows (disk_of sectors (image_of first) events failures)
        (disk_of sectors (image_of again) more risen)
    narrows_err failures risen c left = rw (again_is, is) at left

  pub copy_synced : {T E : Type 0} (r : Result T E) → OnOk r (more ≡ events ++ synced ∷ []) → OnErr r (more ≡ events) →
      IsCopy sectors copy again more
  copy_synced {T} {E} r ok err = grind (arith, nat_tests, copy_ok, copy_err)

  pub synced_only : {T E : Type 0} (r : Result T E) (risen : ℕ) → OnOk r (more ≡ events ++ synced ∷ []) →
      OnOk r (Only (now_of again more).present (disk_of sectors (image_of again) more risen))
  synced_only (Ok x) risen ok = only_ok ok risen
  synced_only (Err e) risen ok = tt

  pub synced_narrows : {T E : Type 0} (r : Result T E) (failures risen : ℕ) → OnOk r (more ≡ events ++ synced ∷ []) →
      OnErr r (more ≡ events) → Narrows (disk_of sectors (image_of first) events failures) (disk_of sectors (image_of again) more risen)
  synced_narrows (Ok x) failures risen ok err = narrows_ok ok failures risen
  synced_narrows (Err e) failures risen ok err = narrows_err err failures risen

  pub synced_back : {T E : Type 0} (r : Result T E) (failures risen : ℕ) → OnErr r (more ≡ events)
      → OnErr r (Narrows (disk_of sectors (image_of again) more risen) (disk_of sectors (image_of first) events failures))
  synced_back (Ok x) failures risen err = tt
  synced_back (Err e) failures risen err = λ c left. rw (again_is, err) left

  pub synced_elapses : {T E : Type 0} (r : Result T E) (failures risen : ℕ) → OnOk r (more ≡ events ++ synced ∷ []) →
      OnErr r (more ≡ events) → Elapses (disk_of sectors (image_of first) events failures) (disk_of sectors (image_of again) more risen)
  synced_elapses (Ok x) failures risen ok err = rw (again_is, ok) (elapses_one sectors (image_of first) events synced failures risen)
  synced_elapses (Err e) failures risen ok err = rw (again_is, err) (elapses_still sectors (image_of first) events failures risen)

  -- facts after a power cut
  module _ (is : more ≡ events ++ cut Keep ∷ []) where
    pub cut_elapses : (failures risen : ℕ) → Elapses (disk_of sectors (image_of first) events failures)
        (disk_of sectors (image_of again) more risen)
    cut_elapses failures risen = rw (again_is, is) (elapses_one sectors (image_of first) events (cut Keep) failures risen)

    now_cut : now_of first more ≡ at_first old.present
    now_cut = ap (λ (es : List Event). now_of first es) is ∙ replay-one (at_first (image_of first)) events (cut Keep)

    pub copy_cut : IsCopy sectors copy again more
    copy_cut = subst (λ (f : List ℕ). IsCopy sectors copy f more) (sym again_is) (record {
      few = sound.few;
      size = sound.size;
      fits = sound.fits;
      present_is = λ i. sound.present_is i ∙ sym (ap (λ (s : State). s.present i) now_cut);
      durable_whole = subst (IsWhole sectors) (sym (ap (λ (s : State). s.durable) now_cut)) (present_whole sectors copy first events sound);
    })

    pub cut_left : MayLeave sectors old (now_of again more).present
    cut_left =
        rw again_is
        (Disks.cut_may_leave sectors Keep old (now_of first more).present
        (subst (IsWhole sectors) (sym (ap (λ (s : State). s.present) now_cut)) (present_whole sectors copy first events sound))
        (unwritten_same (image_of first) events)
        (λ i. ap (λ (s : State). s.present i) now_cut))

    pub cut_only : (risen : ℕ) → Only (now_of again more).present (disk_of sectors (image_of again) more risen)
    cut_only risen = rw again_is (Disks.cut_durable sectors (image_of first) events more Keep (inl is)
        (unwritten_same (image_of first) more) risen)
