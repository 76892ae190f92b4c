-- What `check` writes about a store that was opened on a device.
use Rattle.jobs.proofs.Names.{Format, ℕ, List, refl, line_of, Disk, Parts, Checkpoint, View, Live, Recovers, saved_of, checked_text, TellsSaved}
use Rattle.std.proofs.Common.{◌≡◌}

pub checked : (f : Format) {D S : Type 0} {disk : D → Disk} {view : S → View D} {parts : S → Parts} {device : D} {l : Live S} →
    Recovers disk view parts device l → (back : D) → back ≡ (view l.store).beneath → (reported : Checkpoint) →
    (let saved = (view l.store).snapshots.saved in
    (reported.generation ≡ saved.generation) × (reported.age ≡ saved.age) × (reported.entries ≡ saved.entries)) →
    (Reported : List ℕ → Type 0) → Reported (line_of (checked_text f reported.generation reported.age reported.entries)) →
    TellsSaved f disk device back Reported
checked f {view = view} {l = l} wakes back same reported is Reported told =
    let saved = (view l.store).snapshots.saved in (
      saved.geometry,
      saved_of saved,
      record { frames = saved; holds = wakes.holds; sound = wakes.up.sound.saved; stands = refl },
      rw (is.0, is.1, is.2) at told,
      rw same wakes.only_reads,
      rw same wakes.failures,
    )
