-- What an invocation does to a store of present frames.
use Rattle.gate.specs.Names.{ℕ, Bool, true, false, List, [], Option, None, Some, slice_set, Result, Ok, Err, IfOk, OnOk}
use Rattle.gate.specs.Names.{OnErr, IsErrOf, Capability, Start, Resume, Invocation, Operation, Call, Send, Geometry}
use Rattle.gate.specs.Names.{Object, ResultCode, Effect, invoke, after_gate, deliver, ordered, IsSoundFrames, touching}
use Rattle.gate.specs.Names.{touched_count, consume, annex_at, is_running_process, register_at, Caller, Refusal}
use Rattle.gate.specs.Names.{AreSameUnlessFailed, Parts, Renews, frames_of, objects_in, IfErr}
use Rattle.std.specs.Prelude.{◌≡◌, ◌↔◌, ◌+◌, ◌^◌, ◌<◌, ◌≤◌, ◌∷◌, if◌then◌else◌}
use Rattle.model.specs.declared.answer.Refusal.TheVariants as refusal
use Rattle.gate.specs.declared.gates.Gate.{Gate}

-- an invocation had this effect: objects and touched numbers afterwards, at most as many as a log half has slots
abbrev pub Invokes : Geometry → Invocation → List Object → List Bool → List Object → List Bool → Type 0
Invokes g i before touched after touched_after =
    (effect : Effect) × (invoke g before i ≡ Some effect) × (after ≡ effect.objects)
    × (touched_after ≡ touching touched effect.written) × (touched_count touched_after ≤ g.log)

-- an invocation would touch more numbers than a log half has slots
abbrev pub Overfills : Geometry → Invocation → List Object → List Bool → Type 0
Overfills g i before touched =
    (effect : Effect) × (invoke g before i ≡ Some effect) × (g.log < touched_count (touching touched effect.written))

-- a capability that isn't a gate
abbrev pub IsKernelObject : Capability → Type 0
IsKernelObject (Start p key) = ⊥
IsKernelObject (Resume p) = ⊥
IsKernelObject _ = Unit {0}

-- the numbers that an invocation through a gate to process q writes: q, its annex and, for a call or a return, the
-- process that invokes
abbrev pub written_through : Operation → ℕ → ℕ → ℕ → List ℕ
written_through operation process q annex = q ∷ annex ∷ (elim operation [ Send ↦ [] | _ ↦ process ∷ [] ])

-- what was read of an invocation and of the process that invokes
pub record IsRequested (os : List Object) (i : Invocation) (caller : Caller) : Type 0 where
  pub process : caller.process ≡ i.process
  pub operation : caller.operation ≡ i.operation
  pub annex : caller.annex ≡ annex_at os i.process
  pub invoked : caller.invoked ≡ register_at os i.process i.register

-- the result code of an invocation: its order's, or none through a gate
abbrev pub result_code : Geometry → List Object → Invocation → Option ResultCode
result_code g os i = elim (register_at os i.process i.register)
    [ Start q key ↦ None | Resume q ↦ None | _ ↦ Some (ordered g os i).code ]

-- frames that are sound at an age below 2^62 are sound at the next age
abbrev pub KeepsSoundFrames : Parts → Parts → Type 0
KeepsSoundFrames old new = (age : ℕ) → age < 2 ^ 62 → IsSoundFrames old.geometry age (frames_of old) →
    IsSoundFrames old.geometry (age + 1) (frames_of new)

-- a refusal that `invoke` may return; the kernel checks for the others before
abbrev pub IsOfGate : Refusal → Type 0
IsOfGate refusal.NotRunning = Unit {0}
IsOfGate refusal.Stalled = Unit {0}
IsOfGate refusal.LogFull = Unit {0}
IsOfGate refusal.Fault = Unit {0}
IsOfGate _ = ⊥

-- what a result says about whether the process runs
abbrev pub TellsState : List Object → Invocation → Result (Option ResultCode) Refusal → Type 0
TellsState os i (Ok code) = is_running_process os i.process ≡ true
TellsState os i (Err refusal.NotRunning) = is_running_process os i.process ≡ false
TellsState os i (Err refusal.Stalled) = is_running_process os i.process ≡ true
TellsState os i (Err refusal.LogFull) = is_running_process os i.process ≡ true
TellsState os i (Err refusal.Fault) = Unit {0}
TellsState os i (Err other) = ⊥

-- The result of an invocation. After a refusal nothing has changed; after a failure of the device the parts are
-- unknown. The parameters are the ghost members of a store of present frames.
pub record Invoked {S : Type 0} (parts : S → Parts) (Continues : S → S → Type 0) (old new : S) (i : Invocation)
    (result : Result (Option ResultCode) Refusal) : Type 0 where
  pub done : OnOk result
      (Invokes (parts old).geometry i (objects_in (parts old)) (parts old).touched (objects_in (parts new))
      (parts new).touched)
  pub code : IfOk result (λ code. code ≡ result_code (parts old).geometry (objects_in (parts old)) i)
  pub refusals : IfErr result IsOfGate
  pub runs : IsErrOf result refusal.NotRunning → is_running_process (objects_in (parts old)) i.process ≡ false
  pub stalled : IsErrOf result refusal.Stalled → invoke (parts old).geometry (objects_in (parts old)) i ≡ None
  pub full : IsErrOf result refusal.LogFull → Overfills (parts old).geometry i (objects_in (parts old))
      (parts old).touched
  pub sound : OnOk result (KeepsSoundFrames (parts old) (parts new))
  pub renews : OnOk result (Renews (parts old) (parts new))
  pub geometry : OnOk result ((parts new).geometry ≡ (parts old).geometry)
  pub same : OnErr result (AreSameUnlessFailed (parts old) (parts new))
  pub cause : IsErrOf result refusal.Fault ↔ ((parts old).failures < (parts new).failures)
  pub later : (parts old).failures ≤ (parts new).failures
  pub continues : Continues old new

-- the capabilities that the receiver gets if these are sent: for a call, the last one is the right to resume the
-- caller
abbrev pub received : Invocation → List Capability → List Capability
received i sent = elim i.operation [ Call ↦ slice_set sent 3 (Resume i.process) | _ ↦ sent ]

-- the start or resume capability of a gate
abbrev pub gate_capability : Gate → Capability
gate_capability gate = if gate.is_resume then Resume gate.process else Start gate.process gate.key

-- the objects after a message was sent through a gate; a resume capability is consumed last
abbrev pub entered : List Object → Invocation → Gate → List Capability → List Object
entered os i gate sent =
    let delivered = deliver (after_gate os i) gate.process
    (record { words = i.words; key = gate.key; capabilities = received i sent }) in
    if gate.is_resume then consume gate.process delivered else delivered
