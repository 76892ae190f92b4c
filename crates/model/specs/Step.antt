-- A step of the machine: the answer to a command, and the machine after it.
use Rattle.model.specs.Names.{ℕ, nat_lt, Bool, true, false, not, Option, None, Some, Result, Ok, Err, List, []}
use Rattle.model.specs.Names.{slice_index_or, IsTrue, Contains}
use Rattle.std.specs.Prelude.{◌≡◌, ◌⊎◌, ◌+◌, ◌-◌, ◌/◌, ◌%◌, ◌^◌, ◌==◌, ◌&&◌, if◌then◌else◌, ◌∷◌, ◌++◌}
use Rattle.model.specs.declared.access.Access.{Access}
use Rattle.model.specs.declared.answer.Answer.{Answer}
use Rattle.model.specs.declared.answer.Answer.TheVariants as answer
use Rattle.model.specs.declared.answer.MemoryFault.{MemoryFault}
use Rattle.model.specs.declared.answer.MemoryFault.TheVariants.{ReadOnly}
use Rattle.model.specs.declared.answer.Refusal.{Refusal}
use Rattle.model.specs.declared.answer.Refusal.TheVariants as refusal
use Rattle.model.specs.declared.answer.Unjournaled.TheVariants.{NotPage, Renewed}
use Rattle.model.specs.declared.command.Command.{Command}
use Rattle.model.specs.declared.command.Command.TheVariants as command
use Rattle.model.specs.declared.geometry.Geometry.{Geometry}
use Rattle.model.specs.declared.object.Object.{Object}
use Rattle.model.specs.Object.{is_bank, is_page, is_root, slots_in}
use Rattle.model.specs.World.{World, object_at, content_at, annex_at, root_at, word_at, with_word, with_content}
use Rattle.model.specs.World.{is_process, is_running_process}
use Rattle.model.specs.Bank.{usage}
use Rattle.model.specs.Sound.{object_count}
use Rattle.model.specs.Walk.{walk}
use Rattle.model.specs.Invoke.{invoke}
use Rattle.model.specs.Machine.{Saved, Frozen, Running, Machine, Up, Down, candidates, untouched, touching}
use Rattle.model.specs.Machine.{touched_count, renewing, opened}

-- whether the touched and the written numbers together are more than the slots in half of the log
abbrev pub overfills : Geometry → List Bool → List ℕ → Bool
overfills g touched written = nat_lt g.log (touched_count (touching touched written))

-- a check: if it passes, the result of the next check, else the refusal `why`
abbrev pub unless : Bool → Refusal → Option Refusal → Option Refusal
unless passes why next = if passes then next else Some why

-- the page that a process reaches at an address, with the access to it
abbrev pub reached : List Object → ℕ → ℕ → Result (ℕ × Access) MemoryFault
reached os p address = walk os (root_at os p).space (address / 512)

-- the page that a store reaches: it has to be writable
abbrev pub writable : Result (ℕ × Access) MemoryFault → Result ℕ MemoryFault
writable (Ok found) = if found.1.0 == 0 then Ok found.0 else Err ReadOnly
writable (Err why) = Err why

-- the refusal of a process that doesn't exist or doesn't run, else `next`
abbrev pub of_running : List Object → ℕ → Option Refusal → Option Refusal
of_running os p next = unless (is_process os p) refusal.NoProcess
    (unless (is_running_process os p) refusal.NotRunning next)

-- the refusals that a checkpoint and the journaling of a page have in common, in order; else `next`
abbrev pub when_home : Running → Option Refusal → Option Refusal
when_home s next = unless (nat_lt s.now.age (2 ^ 62)) refusal.Worn
    (elim s.frozen [
      | Some frozen ↦ Some refusal.CheckpointRunning
      | None ↦ unless (s.saved.entries == 0)
          refusal.MigrationPending next
    ])

-- whether the saved object at n is a page that wasn't rescinded since the last checkpoint or restart
abbrev pub is_saved_page : Running → ℕ → Bool
is_saved_page s n = is_page (content_at s.saved.world.objects n) && not (slice_index_or s.renewed n false)

-- why object n can't be journaled
abbrev pub unjournaled : Running → ℕ → Option Refusal
unjournaled s n =
    unless (is_page (content_at s.now.objects n)) (refusal.NotJournaled NotPage)
    (unless (is_saved_page s n) (refusal.NotJournaled Renewed) None)

-- the first refusal that applies, or none, of a command to a machine that is up
unfoldable pub refusal_of : Geometry → Running → Command → Option Refusal
refusal_of g s (command.Invoke i) =
    of_running s.now.objects i.process
    (unless (nat_lt s.now.age (2 ^ 62)) refusal.Worn (elim (invoke g s.now.objects i) [
      | None ↦ Some refusal.Stalled
      | Some effect ↦ unless (not (overfills g s.touched effect.written)) refusal.LogFull None
    ]))
refusal_of g s (command.Load p address) = of_running s.now.objects p None
refusal_of g s (command.Store p address value) =
    of_running s.now.objects p (elim (writable (reached s.now.objects p address)) [
      | Ok page ↦ unless (not (overfills g s.touched (page ∷ []))) refusal.LogFull None
      | Err why ↦ None
    ])
refusal_of g s (command.Show n) = unless (nat_lt n (object_count g)) refusal.BadNumber None
refusal_of g s (command.Evict n) = unless (nat_lt n (object_count g)) refusal.BadNumber None
refusal_of g s command.Checkpoint = when_home s None
refusal_of g s (command.Stabilize n) = elim s.frozen [ None ↦ Some refusal.NoCheckpoint | Some frozen ↦ None ]
refusal_of g s command.Commit =
    elim s.frozen [
      | None ↦ Some refusal.NoCheckpoint
      | Some frozen ↦ unless (frozen.left == 0)
          (refusal.NotStable frozen.left) None
    ]
refusal_of g s (command.Journal n) = when_home s
    (unless (nat_lt n (object_count g)) refusal.BadNumber (unjournaled s n))
refusal_of g s _ = None

-- the answer that shows object n: a process with its registers, a bank with its usage
abbrev pub shown : List Object → ℕ → Answer
shown os n =
    let registers = if is_root (content_at os n) then Some (slots_in (content_at os (annex_at os n))) else None in
    let used = if is_bank (content_at os n) then usage os n else 0 in
    answer.Shown (record { number = n; object = object_at os n; registers = registers; used = used })

-- the saved state after a commit
abbrev pub committed : Running → Frozen → Saved
committed s frozen = record { world = frozen.world; generation = s.saved.generation + 1; entries = frozen.size }

-- a saved state, once all its objects are home
abbrev pub at_home : Saved → Saved
at_home saved = record { world = saved.world; generation = saved.generation; entries = 0 }

-- the saved state after n more objects went home
abbrev pub moved : Running → ℕ → Saved
moved s n = if s.to_move - n == 0 then at_home s.saved else s.saved

-- the saved state with the present words of page n; the page's saved owner stays
abbrev pub journaled : Running → ℕ → Saved
journaled s n =
    let world : World = record {
      objects = with_content s.saved.world.objects n (content_at s.now.objects n);
      age = s.saved.world.age + 1;
    } in
    record { world = world; generation = s.saved.generation + 2; entries = 1 }

-- the answer to a command, and the machine after it
pub record Outcome : Type 0 where
  pub answer : Answer
  pub after : Running

abbrev pub outcome : Answer → Running → Outcome
outcome a s = record { answer = a; after = s }

-- a machine with these present objects, age and renewed numbers; the written numbers are touched too
abbrev pub writing : Running → List Object → ℕ → List ℕ → List Bool → Running
writing s os age written renewed =
    record s { now = record { objects = os; age = age }; touched = touching s.touched written; renewed = renewed }

-- a machine with this frozen state
abbrev pub freezing : Running → Option Frozen → Running
freezing s frozen = record s { frozen = frozen }

-- a checkpoint begins: the age rises, all present objects are frozen, and no number is touched
abbrev pub frozen_now : Geometry → Running → Outcome
frozen_now g s =
    let size = touched_count s.touched in
    let now : World = record { objects = s.now.objects; age = s.now.age + 1 } in
    let frozen : Frozen = record { world = now; size = size; left = size } in
    outcome (answer.Frozen size)
    (record s { now = now; touched = untouched g; renewed = untouched g; frozen = Some frozen })

-- n more frozen objects go to the log; without a frozen state, `refusal_of` refuses the command
abbrev pub stabilized : Running → ℕ → Outcome
stabilized s n = elim s.frozen [
  | None ↦ outcome answer.Done s
  | Some f ↦ outcome (answer.Left (f.left - n))
      (freezing s (Some (record { world = f.world; size = f.size; left = f.left - n })))
]

-- the frozen state becomes the saved one; without a frozen state, `refusal_of` refuses the command
abbrev pub commits : Running → Outcome
commits s = elim s.frozen [
  | None ↦ outcome answer.Done s
  | Some f ↦ outcome (answer.Committed (s.saved.generation + 1))
      (record s { frozen = None; saved = committed s f; to_move = f.size })
]

-- the outcome of a command that isn't refused; such an invocation has an effect, because it doesn't stall
unfoldable pub carried_out : Geometry → Running → Command → Outcome
carried_out g s (command.Invoke i) = elim (invoke g s.now.objects i) [
  | None ↦ outcome answer.Done s
  | Some effect ↦ outcome answer.Done
      (writing s effect.objects (s.now.age + 1) effect.written (renewing s.renewed s.now.objects effect.objects))
]
carried_out g s (command.Load p address) = elim (reached s.now.objects p address) [
  | Ok found ↦ outcome (answer.Value (word_at s.now.objects found.0 (address % 512))) s
  | Err why ↦ outcome (answer.MemoryFault why) s
]
carried_out g s (command.Store p address value) = elim (writable (reached s.now.objects p address)) [
  | Ok page ↦ outcome answer.Done
      (writing s (with_word s.now.objects page (address % 512) value) s.now.age (page ∷ []) s.renewed)
  | Err why ↦ outcome (answer.MemoryFault why) s
]
carried_out g s (command.Show n) = outcome (shown s.now.objects n) s
carried_out g s (command.Evict n) = outcome answer.Done s
carried_out g s command.Checkpoint = frozen_now g s
carried_out g s (command.Stabilize n) = stabilized s n
carried_out g s command.Commit = commits s
carried_out g s (command.Migrate n) = outcome (answer.Left (s.to_move - n))
    (record s { saved = moved s n; to_move = s.to_move - n })
carried_out g s (command.Journal n) =
    let now : World = record { objects = s.now.objects; age = s.now.age + 1 } in
    outcome (answer.Journaled (s.saved.generation + 2)) (record s { now = now; saved = journaled s n; to_move = 1 })
carried_out g s _ = outcome (answer.At s.saved.generation s.saved.world.age) (opened g s.saved)

-- the command's own answer: the first refusal that applies, else the outcome of the command
abbrev pub Answers : Geometry → Running → Command → Answer → Machine → Type 0
Answers g s c a after = elim (refusal_of g s c) [
  | Some why ↦ (a ≡ answer.Refused why) × (after ≡ Up s)
  | None ↦ (a ≡ (carried_out g s c).answer) × (after ≡ Up (carried_out g s c).after)
]

-- the machine reopens at one of the candidates
abbrev pub Reopens : Geometry → List Saved → Answer → Machine → Type 0
Reopens g saved a after =
    (at : Saved) × Contains saved at × (a ≡ answer.At at.generation at.world.age) × (after ≡ Up (opened g at))

-- whether a command opens the device again; whether it needs memory
abbrev pub opens : Command → Bool
opens command.Restart = true
opens command.Cut = true
opens _ = false

abbrev pub takes_memory : Command → Bool
takes_memory (command.Show n) = true
takes_memory c = opens c

-- whether `no memory` may replace this refusal or, for `None`, any other answer
abbrev pub gives_way : Option Refusal → Bool
gives_way (Some refusal.BadNumber) = false
gives_way _ = true

-- memory may run out in a `show` of an existing object, and in each command that opens the device
abbrev pub MayWantMemory : Geometry → Machine → Command → Type 0
MayWantMemory g (Up s) c = IsTrue (takes_memory c && gives_way (refusal_of g s c))
MayWantMemory g (Down saved) c = IsTrue (opens c)

-- the machine after memory ran out: unchanged, but down if the command was to open it
abbrev pub without_memory : Machine → Command → Machine
without_memory m c = if opens c then Down (candidates m) else m

-- what else may be saved if the device fails in a command: the state that the command saves
abbrev pub second : Machine → Command → List Saved
second (Up s) command.Commit = elim s.frozen
    [ None ↦ [] | Some frozen ↦ if frozen.left == 0 then committed s frozen ∷ [] else [] ]
second (Up s) (command.Migrate n) = if s.saved.entries == 0 then [] else if s.to_move - n == 0 then at_home s.saved ∷ []
    else []
second (Up s) (command.Journal n) = elim (when_home s (unjournaled s n)) [ None ↦ journaled s n ∷ [] | Some why ↦ [] ]
second _ _ = []

-- the device may fail in any command to a machine that is up; one that is down uses it only to reopen
abbrev pub MayFail : Machine → Command → Type 0
MayFail (Up s) c = Unit {0}
MayFail (Down saved) c = IsTrue (opens c)

-- a machine that is up gives the command's own answer; one that is down reopens, or answers `down`
abbrev pub Proceeds : Geometry → Machine → Command → Answer → Machine → Type 0
Proceeds g (Up s) c a after = Answers g s c a after
Proceeds g (Down saved) command.Restart a after = Reopens g saved a after
Proceeds g (Down saved) command.Cut a after = Reopens g saved a after
Proceeds g (Down saved) _ a after = (a ≡ answer.Refused refusal.Down) × (after ≡ Down saved)

-- a step of the machine: the command's own answer, lack of memory, or a failure of the device
abbrev pub Step : Geometry → Machine → Command → Answer → Machine → Type 0
Step g m c a after =
    Proceeds g m c a after
    ⊎ (MayWantMemory g m c × (a ≡ answer.Refused refusal.NoMemory) × (after ≡ without_memory m c))
    ⊎ (MayFail m c × (a ≡ answer.Refused refusal.Fault) × (after ≡ Down (candidates m ++ second m c)))
