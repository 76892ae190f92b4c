-- What a crash leaves of the host's storage after it carried out some calls of a run.
use Rattle.vezhnake.proofs.Names.{ℕ, List, length, take, drop, sym, ap, subst, append_assoc, arith, length-append, take-append_seam, take-append-drop}
use Rattle.vezhnake.proofs.Names.{flat_map-append, Image, image_of, Event, MayLeave, at_first, replay, Parts, View, Power, IsDeviceOf, Stands, disk_of}
use Rattle.vezhnake.proofs.Names.{Geometry, Machine, Turn, IsConfined, IsRunOf, RunsOver, CrashesInRunsAreSurvived, RunFault, HostCall, StorageLeaves}
use Rattle.vezhnake.proofs.Names.{events_by, events_of, HostDevice, RunsSurvive, RunsText, Survives, Written, calls_beneath, host_disk, in_memory}
use Rattle.vezhnake.proofs.Names.{start_beneath, Result, IsCounted, IsErrOf, IfErr, refl}
use Rattle.std.specs.Prelude.{◌≢◌, ◌<◌, Err, Ok, Option, Some}
use Rattle.std.proofs.Common.{◌≡◌, ◌≤◌, ◌++◌, ◌∙◌}
use Rattle.script.specs.declared.fault.RunFault.TheVariants as fault
use Rattle.kernel.specs.Power as power

-- the events of the first k calls come first
front_of : (k : ℕ) (calls : List HostCall) (lost : List Event) → events_of calls ++ lost
    ≡ events_of (take k calls) ++ (events_of (drop k calls) ++ lost)
front_of k calls lost =
    ap (λ (es : List Event). es ++ lost) (ap events_of (sym (take-append-drop k calls))
    ∙ flat_map-append events_by (take k calls) (drop k calls))
    ∙ append_assoc (events_of (take k calls)) (events_of (drop k calls)) lost

first_events : (k : ℕ) (calls : List HostCall) (lost : List Event)
    → take (length (events_of (take k calls))) (events_of calls ++ lost) ≡ events_of (take k calls)
first_events k calls lost =
    ap (take (length (events_of (take k calls)))) (front_of k calls lost) ∙ take-append_seam (events_of (take k calls))
    (events_of (drop k calls) ++ lost)

-- if a crash after the first k calls may leave an image in storage, a crash of the device at event t or later may leave it
at_calls : (d : HostDevice) (t k : ℕ) (c : Image) → t ≤ length (events_of (take k d.file.history.calls))
    → StorageLeaves d.sectors d.file.history.first (take k d.file.history.calls) c → (host_disk d).left_since t c
at_calls d t k c later leaves =
    let calls = d.file.history.calls in
    let front = events_of (take k calls) in
    let past : List Event = events_of calls ++ d.file.history.lost in
    let within : length front ≤ length past = subst (λ (es : List Event). length front ≤ length es)
    (sym (front_of k calls d.file.history.lost))
    (omega (arith, length-append front (events_of (drop k calls) ++ d.file.history.lost))) in (
      length front,
      later,
      within,
      subst (λ (es : List Event). MayLeave d.sectors (replay (at_first (image_of d.file.history.first)) es) c)
          (sym (first_events k calls d.file.history.lost)) leaves,
    )

module _ {S : Type 0} (view : S → View HostDevice) (parts : S → Parts) where
  beneath : (p : Power HostDevice S) (d : HostDevice) (t : ℕ) (c : Image) → IsDeviceOf host_disk view parts p d →
      (host_disk d).left_since t c → (disk_of host_disk view parts p).left_since t c
  beneath (power.Up l) d t c is left = subst (λ (e : HostDevice). (host_disk e).left_since t c) is left
  beneath (power.Down e) d t c is left = subst (λ (f : HostDevice). (host_disk f).left_since t c) is left
  beneath power.Between d t c is left = absurd is

  survives : CrashesInRunsAreSurvived host_disk view parts → (g : Geometry) (m : Machine) (old new : Power HostDevice S) (turns : List Turn)
      → Stands host_disk view parts g old m → IsRunOf host_disk view parts g m old new turns → Survives view parts g m old new turns
  survives all g m old new turns stands run d k c is later leaves =
      let found = (all g m old new turns stands run).each c (beneath new d (disk_of host_disk view parts old).moment c is
      (at_calls d (disk_of host_disk view parts old).moment k c later leaves)) in
      (found.0, found.1, found.2)

  pub runs_survive : CrashesInRunsAreSurvived host_disk view parts → (old new : Power HostDevice S) → RunsSurvive view parts old new
  runs_survive all old new g m turns stands run = survives all g m old new turns stands run

  pub runs_text : CrashesInRunsAreSurvived host_disk view parts → (old new : Power HostDevice S) (text before after : List ℕ) (failures : ℕ)
      (start : Written) → start ≡ in_memory before 0 → (input unread : Option (List ℕ)) → input ≡ Some text →
      (result : Result (Unit {0}) RunFault) → RunsOver host_disk view parts old new input unread start (in_memory after failures) result
      → IsConfined host_disk view parts old new input unread → RunsText view parts old new text before after result
  runs_text all old new text before after failures start begins input unread is result over confined = record {
    unread = unread;
    failures = failures;
    run = subst (λ (i : Option (List ℕ)). RunsOver host_disk view parts old new i unread (in_memory before 0) (in_memory after failures)
        result) is
        (subst (λ (w : Written). RunsOver host_disk view parts old new input unread w (in_memory after failures) result) begins over);
    confined = subst (λ (i : Option (List ℕ)). IsConfined host_disk view parts old new i unread) is confined;
    survives = runs_survive all old new;
  }

pub calls_are : {S : Type 0} (view : S → View HostDevice) (parts : S → Parts) (p : Power HostDevice S) (d : HostDevice)
    → IsDeviceOf host_disk view parts p d → d.file.history.calls ≡ calls_beneath view p
calls_are view parts (power.Up l) d is = ap (λ (e : HostDevice). e.file.history.calls) is
calls_are view parts (power.Down e) d is = ap (λ (f : HostDevice). f.file.history.calls) is
calls_are view parts power.Between d is = absurd is

pub start_is : {S : Type 0} (view : S → View HostDevice) (parts : S → Parts) (p : Power HostDevice S) (d : HostDevice) →
    IsDeviceOf host_disk view parts p d → d.file.pending.start ≡ start_beneath view p
start_is view parts (power.Up l) d is = ap (λ (e : HostDevice). e.file.pending.start) is
start_is view parts (power.Down e) d is = ap (λ (f : HostDevice). f.file.pending.start) is
start_is view parts power.Between d is = absurd is

-- if no read fails and the observer doesn't end the run, only a write can fail
pub only_to_write : (r : Result (Unit {0}) RunFault) (n : ℕ) → IfErr r (λ e. e ≢ fault.Stopped) → IsCounted (IsErrOf r fault.Read) n n
    → IfErr r (λ e. e ≡ fault.Write)
only_to_write (Ok a) n goes_on counted = tt
only_to_write (Err fault.Read) n goes_on counted = let rises : n < n = counted.cause.0 refl in absurd (omega (arith, rises))
only_to_write (Err fault.Write) n goes_on counted = refl
only_to_write (Err fault.Stopped) n goes_on counted = absurd (goes_on refl)
