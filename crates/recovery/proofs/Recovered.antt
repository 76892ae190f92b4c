-- Opening a device, or refusing to.
use Rattle.recovery.proofs.Names.{nat_tests, ℕ, None, List, refl, sym, ap, subst, inr, arith, Result, Err, IsErrOf, Frame, Geometry, IsSoundFrames, opened}
use Rattle.recovery.proofs.Names.{touched_count, Only, Image, Disk, Peeks, CountsNow, ends, BadImage, OpenFault, OnlyReads, Holds, OnlyFetches, Parts}
use Rattle.recovery.proofs.Names.{frames_of, objects_in, untouched_count, Snapshots, FrozenFrames, Continues, OpensStore, View, unrisen, AreCounted, BanksState}
use Rattle.recovery.proofs.Names.{IsInconsistent, Live, saved_of, IsSoundSaved, IsWhy, Recovers, RefusesToOpen, AreSoundTogether, base_of, running}
use Rattle.std.proofs.Common.{◌≡◌, ◌↔◌, ◌<◌, ◌≤◌, ◌∙◌}
use Rattle.layout.specs.declared.open_fault.OpenFault.TheVariants as fault
use Rattle.recovery.proofs.Denoted.{leaves_saved}
use Rattle.recovery.proofs.Renewed.{base_saved, none_renewed}

-- if nothing is written after a sync, opening only reads
only_reads_on : (old mid new : Disk) → OnlyReads old mid → Only mid.seen mid → new.sectors ≡ mid.sectors → Peeks mid new → CountsNow new →
    new.may_leave new.seen → OnlyReads old new
only_reads_on old mid new first durable size peeks counts_now seen_left = grind (arith, nat_tests)

-- if nothing was written since a sync, each crash still leaves what a read gives
durable_on : (mid new : Disk) → Only mid.seen mid → Peeks mid new → CountsNow new → new.may_leave new.seen → Only new.seen new
durable_on mid new durable peeks counts_now seen_left c left i =
    let crash : (x : Image) → new.may_leave x → mid.may_leave x = λ x now. ends {old = mid} {new = new} {P = mid.may_leave} peeks counts_now
    x now in
    durable c (crash c left) i ∙ sym (durable new.seen (crash new.seen seen_left) i)

module _ {D S : Type 0} (disk : D → Disk) (view : S → View D) (parts : S → Parts)
    (counts_now : (d : D) (t : ℕ) (c : Image) → t ≤ (disk d).moment → (disk d).may_leave c → (disk d).left_since t c)
    (seen_left : (d : D) → (disk d).may_leave (disk d).seen) (sound_holds : (s : S) (c : Image) → (view s).usable →
    (disk (view s).beneath).may_leave c → Holds (disk (view s).beneath).sectors c (view s).snapshots.saved)
    (geometry_is : (s : S) → (parts s).geometry ≡ (view s).snapshots.saved.geometry)
    (device : D) (s t : S) (opens : OpensStore disk device (parts s) (view s)) {Goes : S → S → Type 0} (same : OnlyFetches parts Goes s t)
    (continues : Continues disk (view s) (view t))
    (peeks : touched_count (parts t).touched ≡ 0 → (view s).snapshots.frozen ≡ None → Peeks (disk (view s).beneath) (disk (view t).beneath))
  where
    still_untouched : touched_count (parts t).touched ≡ 0
    still_untouched = ap touched_count (same.touched ∙ opens.touched) ∙ untouched_count (view s).snapshots.saved.geometry

    looked : OnlyReads (disk device) (disk (view t).beneath)
    looked = search (arith, nat_tests, only_reads_on, still_untouched)

    -- if opening was refused, nothing was written, and the reason holds
    pub refuses : (why : OpenFault) → (disk (view s).beneath).failures ≤ (disk (view t).beneath).failures →
        ((why ≡ fault.Failed) ↔ ((disk (view s).beneath).failures < (disk (view t).beneath).failures)) →
        ((reason : BadImage) → why ≡ fault.Bad reason → IsInconsistent (frames_of (parts s)) reason) → (back : D) →
        back ≡ (view t).beneath → RefusesToOpen disk device back why
    refuses why later cause unfit back is = subst (λ (d : D). RefusesToOpen disk device d why) (sym is)
        (record { is_why = reported why later cause unfit; only_reads = looked })
      where
        stayed : (why : OpenFault) → (why ≡ fault.Failed → ⊥) → (disk (view s).beneath).failures ≤ (disk (view t).beneath).failures →
            ((why ≡ fault.Failed) ↔ ((disk (view s).beneath).failures < (disk (view t).beneath).failures)) →
            (disk (view t).beneath).failures ≡ (disk device).failures
        stayed why other later cause = grind (arith, nat_tests, unrisen)

        reported : (why : OpenFault) → (disk (view s).beneath).failures ≤ (disk (view t).beneath).failures →
            ((why ≡ fault.Failed) ↔ ((disk (view s).beneath).failures < (disk (view t).beneath).failures)) →
            ((reason : BadImage) → why ≡ fault.Bad reason → IsInconsistent (frames_of (parts s)) reason) →
            IsWhy (disk device) (disk (view t).beneath) why
        reported fault.Failed later cause unfit = subst (λ (n : ℕ). n < (disk (view t).beneath).failures) opens.failures (cause.0 refl)
        reported fault.NoMemory later cause unfit = stayed fault.NoMemory (λ e. cc) later cause
        reported (fault.Bad reason) later cause unfit = (
          stayed (fault.Bad reason) (λ e. cc) later cause,
          inr (
            (view s).snapshots.saved,
            opens.holds,
            subst (λ (fs : List Frame). IsInconsistent fs reason) opens.frames
                (unfit reason refl),
          ),
        )

    -- facts if the device was opened
    module _ (banks : BanksState) (age : ℕ) (age_is : age ≡ (view s).snapshots.saved.age) (now : parts t ≡ parts s)
        (failures : (disk (view t).beneath).failures ≡ (disk (view s).beneath).failures)
        (sound : IsSoundFrames (parts s).geometry age (frames_of (parts s))) (counted :
        AreCounted (parts s).geometry (objects_in (parts s)) banks) where
      live : Live S
      live = record { store = t; banks = banks; age = age; frozen_age = age }

      snapshots : (view t).snapshots ≡ (view s).snapshots
      snapshots = continues.snapshots failures

      geometry : (parts s).geometry ≡ (view t).snapshots.saved.geometry
      geometry = ap (λ (p : Parts). p.geometry) (sym now) ∙ geometry_is t

      frames : frames_of (parts t) ≡ (view t).snapshots.saved.frames
      frames = ap frames_of now ∙ opens.frames ∙ ap (λ (a : Snapshots FrozenFrames). a.saved.frames) (sym snapshots)

      age_saved : age ≡ (view t).snapshots.saved.age
      age_saved = age_is ∙ ap (λ (a : Snapshots FrozenFrames). a.saved.age) (sym snapshots)

      frozen : (view t).snapshots.frozen ≡ None
      frozen = ap (λ (a : Snapshots FrozenFrames). a.frozen) snapshots ∙ opens.frozen

      now_sound : IsSoundFrames (view t).snapshots.saved.geometry age (frames_of (parts t))
      now_sound = subst (λ (g : Geometry). IsSoundFrames g age (frames_of (parts t))) geometry
          (subst (λ (p : Parts). IsSoundFrames (parts s).geometry age (frames_of p)) (sym now) sound)

      saved_sound : IsSoundSaved (view t).snapshots.saved.geometry (view t).snapshots.saved
      saved_sound = grind (arith, nat_tests, age_saved, frames, now_sound)

      base_is : base_of (view t).snapshots ≡ frames_of (parts t)
      base_is = base_saved (view t).snapshots frozen ∙ sym frames

      is_sound : AreSoundTogether (view t).snapshots.saved.geometry (parts t) (view t).snapshots banks age age
      is_sound = grind (arith, nat_tests, now_sound, geometry, now, frozen, saved_sound, age_saved, base_is)

      at_saved : running disk view parts live ≡ opened (view t).snapshots.saved.geometry (saved_of (view t).snapshots.saved)
      unfolding live
      at_saved = grind (arith, nat_tests, age_saved, frames, base_is, none_renewed, now_sound, frozen)

      pub recovers : Recovers disk view parts device (record { store = t; banks = banks; age = age; frozen_age = age })
      unfolding live
      recovers = record {
        holds = subst (λ (a : Snapshots FrozenFrames). Holds (disk device).sectors (disk device).seen a.saved) (sym snapshots) opens.holds;
        up = record {
          store = continues.usable failures opens.usable;
          sound = is_sound;
          leaves = leaves_saved (view t).snapshots.saved.geometry (disk (view t).beneath) (view t).snapshots.saved saved_sound
              (λ c left. sound_holds t c (continues.usable failures opens.usable) left);
        };
        frames = frames;
        at_saved = at_saved;
        durable = durable_on (disk (view s).beneath) (disk (view t).beneath) opens.durable (peeks still_untouched opens.frozen)
            (counts_now (view t).beneath)
            (seen_left (view t).beneath);
        only_reads = looked;
        failures = failures ∙ opens.failures;
      }

-- ---- failures of reads, counted for the store and for the device

module _ (p q : Parts) (old new : Disk) (before : p.failures ≡ old.failures) (after : q.failures ≡ new.failures) where
  pub risen_later : p.failures ≤ q.failures → old.failures ≤ new.failures
  risen_later later = omega (arith, later, before, after)

  pub found_still : q ≡ p → new.failures ≡ old.failures
  found_still same = sym after ∙ ap (λ (r : Parts). r.failures) same ∙ before

  pub refused_cause : {T : Type 0} (why : OpenFault) → ((let r : Result T OpenFault = Err why in IsErrOf r fault.Failed) ↔
      (p.failures < q.failures)) → (why ≡ fault.Failed) ↔ (old.failures < new.failures)
  refused_cause {T} why cause = grind (arith, nat_tests)

-- if P holds of each reason with which opening is refused, it holds of the reason in `why`
pub refused_for : {T : Type 0} (why : OpenFault) {P : BadImage → Type 0} → ((reason : BadImage) →
    (let r : Result T OpenFault = Err why in IsErrOf r (fault.Bad reason)) → P reason) → (reason : BadImage) → why ≡ fault.Bad reason →
    P reason
refused_for {T} why bad reason is = bad reason (ap (λ (e : OpenFault). let r : Result T OpenFault = Err e in r) is)
