-- What the library's calls do to a session, and what they copy to the caller.
use Rattle.vezhnake.specs.Names.{ℕ, Bool, true, false, List, [], length, drop, Option, None, Some, Result, Ok, Err}
use Rattle.vezhnake.specs.Names.{IsBad, IsWhy, Opens, RunFault, StoreState, Power}
use Rattle.std.specs.Prelude.{◌≡◌, ◌≢◌, ◌⊎◌, ◌<◌, ◌≤◌, ◌%◌, ◌++◌}
use Rattle.layout.specs.declared.open_fault.OpenFault.TheVariants as fault
use Rattle.object_cache.specs.StoreState as objects
use Rattle.kernel.specs.Power as power
use Rattle.script.specs.declared.fault.RunFault.TheVariants as run
use Rattle.vezhnake.specs.declared.host_kernel.HostKernel.{HostKernel}
use Rattle.vezhnake.specs.declared.host_kernel.HostKernel.TheVariants as store
use Rattle.vezhnake.specs.declared.session.CallsFault.{CallsFault}
use Rattle.vezhnake.specs.declared.session.CallsFault.TheVariants as lost
use Rattle.vezhnake.specs.declared.session.Session.{Session}
use Rattle.vezhnake.specs.declared.status.Status.{Status}
use Rattle.vezhnake.specs.declared.status.Status.TheVariants as status
use Rattle.vezhnake.specs.HostCalls.{HostCall, encoded}
use Rattle.vezhnake.specs.Hosting.{HostDevice, IsFresh, RunsText, calls_beneath, host_disk, start_beneath}

-- ---- opening

-- a kernel was opened on a device
abbrev pub OpensOn : HostDevice → HostKernel → Type 0
OpensOn d (store.Plain k) = Opens host_disk (objects.view_of host_disk) (objects.parts_of host_disk) d k
OpensOn d (store.Bounded k) = Opens host_disk (objects.view_of host_disk) (objects.parts_of host_disk) d k

-- the store for this number: all objects in memory if it is 0, else a cache of this capacity
abbrev pub IsCapacity : ℕ → Option ℕ → Type 0
IsCapacity cache None = cache ≡ 0
IsCapacity cache (Some capacity) = (capacity ≡ cache) × (8 ≤ capacity) × (capacity ≤ 8192)

-- a kernel is up, with a cache of this capacity
abbrev pub HasCache : ℕ → Power HostDevice (StoreState HostDevice) → Type 0
HasCache cache (power.Up l) = l.store.capacity ≡ cache
HasCache cache _ = ⊥

-- the kernel's store is that for this number
abbrev pub IsStoreFor : ℕ → HostKernel → Type 0
IsStoreFor cache (store.Plain k) = cache ≡ 0
IsStoreFor cache (store.Bounded k) = HasCache cache k × (8 ≤ cache) × (cache ≤ 8192)

-- why no kernel was opened on this device
abbrev pub RefusesFrom : HostDevice → Status → Type 0
RefusesFrom d (status.Bad reason) = IsBad (host_disk d).sectors (host_disk d).seen reason
RefusesFrom d status.NoMemory = Unit {0}
RefusesFrom d status.Failed = (back : HostDevice) × IsWhy (host_disk d) (host_disk back) fault.Failed
RefusesFrom d _ = ⊥

-- a kernel was opened over storage that holds these bytes; or the status says why not
abbrev pub OpensKernel : List ℕ → ℕ → Result HostKernel Status → Type 0
OpensKernel bytes cache (Ok k) = (d : HostDevice) × IsFresh bytes d × OpensOn d k × IsStoreFor cache k
OpensKernel bytes cache (Err (status.Bad reason)) =
    (d : HostDevice) × IsFresh bytes d × IsBad (host_disk d).sectors (host_disk d).seen reason
OpensKernel bytes cache (Err status.NoMemory) = Unit {0}
OpensKernel bytes cache (Err status.Failed) =
    (d : HostDevice) × (back : HostDevice) × IsFresh bytes d × IsWhy (host_disk d) (host_disk back) fault.Failed
OpensKernel bytes cache (Err status.BadSize) = (length bytes % 512 ≢ 0) ⊎ (67108864 < length bytes)
OpensKernel bytes cache (Err status.BadCache) = (cache ≢ 0) × ((cache < 8) ⊎ (8192 < cache))
OpensKernel bytes cache (Err _) = ⊥

-- a new session: it has no answers yet, and no device call was collected
pub record OpensSession (bytes : List ℕ) (cache : ℕ) (s : Session) : Type 0 where
  pub kernel : OpensKernel bytes cache (Ok s.kernel)
  pub answer : s.answer.items ≡ []
  pub waiting : s.waiting.items ≡ []
  pub collected : s.collected ≡ 0

-- ---- kernels

-- a text was run as a script, and the kernel has the same type of store
abbrev pub RunsKernel : HostKernel → HostKernel → List ℕ → List ℕ → List ℕ → Result (Unit {0}) RunFault → Type 0
RunsKernel (store.Plain old) (store.Plain new) = RunsText (objects.view_of host_disk) (objects.parts_of host_disk) old
    new
RunsKernel (store.Bounded old) (store.Bounded new) =
    RunsText (objects.view_of host_disk) (objects.parts_of host_disk) old new
RunsKernel (store.Plain old) (store.Bounded new) = λ text before after result. ⊥
RunsKernel (store.Bounded old) (store.Plain new) = λ text before after result. ⊥

-- all device calls of a kernel so far
abbrev pub calls_in : HostKernel → List HostCall
calls_in (store.Plain k) = calls_beneath (objects.view_of host_disk) k
calls_in (store.Bounded k) = calls_beneath (objects.view_of host_disk) k

-- the number of device calls before those that are kept
abbrev pub kept_from : HostKernel → ℕ
kept_from (store.Plain k) = start_beneath (objects.view_of host_disk) k
kept_from (store.Bounded k) = start_beneath (objects.view_of host_disk) k

-- ---- device calls for the host

-- The calls that waited for the host still wait. The device calls since then wait after them; or memory for these ran
-- out; or the device no longer keeps them.
abbrev pub CollectsAfter : List ℕ → ℕ → Session → Result (Unit {0}) CallsFault → Type 0
CollectsAfter waiting collected new (Ok done) =
    (new.waiting.items ≡ waiting ++ encoded (drop collected (calls_in new.kernel)))
    × (new.collected ≡ length (calls_in new.kernel))
CollectsAfter waiting collected new (Err lost.NoMemory) = (new.waiting.items ≡ waiting) × (new.collected ≡ collected)
CollectsAfter waiting collected new (Err lost.CallsLost) = (new.waiting.items ≡ waiting) × (new.collected ≡ collected)
    × (collected ≢ kept_from new.kernel) × (collected ≢ length (calls_in new.kernel))

abbrev pub CollectsCalls : Session → Session → Result (Unit {0}) CallsFault → Type 0
CollectsCalls old new kept = CollectsAfter old.waiting.items old.collected new kept

-- ---- copying to the caller

-- if the bytes fit into the buffer, they are at its front; else it is unchanged. `size` is their number
abbrev pub CopiesOut : List ℕ → List ℕ → List ℕ → ℕ → Bool → Type 0
CopiesOut bytes old new size true =
    (size ≡ length bytes) × (length bytes ≤ length old) × (new ≡ bytes ++ drop (length bytes) old)
CopiesOut bytes old new size false = (size ≡ length bytes) × (length old < length bytes) × (new ≡ old)

-- a text was run, and its answers are kept; its device calls wait for the host, or `kept` says why not
pub record RunsSession (old new : Session) (text : List ℕ) (ran : Result (Unit {0}) RunFault)
    (kept : Result (Unit {0}) CallsFault) : Type 0 where
  pub kernel : RunsKernel old.kernel new.kernel text [] new.answer.items ran
  pub calls : CollectsCalls old new kept

-- A text was run: its answers are kept and copied out, and its device calls wait. If memory for the answers ran out,
-- the lines up to there were carried out. If the device calls can't wait, nothing is copied.
abbrev pub StepsSession : Session → Session → List ℕ → List ℕ → List ℕ → ℕ → Status → Type 0
StepsSession old new text buffer copied size status.Done =
    RunsSession old new text (Ok tt) (Ok tt) × CopiesOut new.answer.items buffer copied size true
StepsSession old new text buffer copied size status.SmallBuffer =
    RunsSession old new text (Ok tt) (Ok tt) × CopiesOut new.answer.items buffer copied size false
StepsSession old new text buffer copied size status.NoMemory =
    (RunsSession old new text (Err run.Write) (Ok tt)
    ⊎ ((ran : Result (Unit {0}) RunFault) × RunsSession old new text ran (Err lost.NoMemory))) × (copied ≡ buffer)
StepsSession old new text buffer copied size status.CallsLost =
    ((ran : Result (Unit {0}) RunFault) × RunsSession old new text ran (Err lost.CallsLost)) × (copied ≡ buffer)
StepsSession old new text buffer copied size _ = ⊥

-- the answers to the last text were copied out
abbrev pub CopiesAnswer : Session → Session → List ℕ → List ℕ → ℕ → Status → Type 0
CopiesAnswer old new buffer copied size status.Done = (new ≡ old) × CopiesOut old.answer.items buffer copied size true
CopiesAnswer old new buffer copied size status.SmallBuffer =
    (new ≡ old) × CopiesOut old.answer.items buffer copied size false
CopiesAnswer old new buffer copied size _ = ⊥

-- All waiting calls were copied out, and wait no more; if they don't fit, they still wait.
abbrev pub TakesCalls : Session → Session → List ℕ → List ℕ → ℕ → Status → Type 0
TakesCalls old new buffer copied size status.Done = CopiesOut old.waiting.items buffer copied size true
    × (new.waiting.items ≡ []) × (new.collected ≡ old.collected) × (new.kernel ≡ old.kernel) × (new.answer ≡ old.answer)
TakesCalls old new buffer copied size status.SmallBuffer =
    CopiesOut old.waiting.items buffer copied size false × (new ≡ old)
TakesCalls old new buffer copied size _ = ⊥

-- ---- handles

-- If the handle is open, the call does P to its session. If it isn't, the status is `NotOpen` and nothing
-- changes: neither the handle nor what `Unchanged` says.
abbrev pub OnSession : Option Session → Option Session → Status → Type 0 → (Session → Session → Type 0) → Type 0
OnSession None new result Unchanged P = (result ≡ status.NotOpen) × (new ≡ None) × Unchanged
OnSession (Some old) None result Unchanged P = ⊥
OnSession (Some old) (Some new) result Unchanged P = P old new

-- a handle without a session got one or still has none; a handle with a session is unchanged
abbrev pub OpensHandle : Option Session → Option Session → List ℕ → ℕ → Status → Type 0
OpensHandle (Some old) new bytes cache result = (result ≡ status.AlreadyOpen) × (new ≡ Some old)
OpensHandle None (Some new) bytes cache result = (result ≡ status.Done) × OpensSession bytes cache new
OpensHandle None None bytes cache result = OpensKernel bytes cache (Err result)

-- an open handle lost its session
abbrev pub ClosesHandle : Option Session → Option Session → Status → Type 0
ClosesHandle None new result = (result ≡ status.NotOpen) × (new ≡ None)
ClosesHandle (Some old) new result = (result ≡ status.Done) × (new ≡ None)

-- ---- batches

-- the first status that isn't `Done`; if there is none, `Done`
abbrev pub IsFirstFault : Status → Status → Status → Type 0
IsFirstFault first second result =
    ((first ≡ status.Done) × (result ≡ second)) ⊎ ((first ≢ status.Done) × (result ≡ first))

-- a script was run, and all device calls were copied out
abbrev pub RunsScript : Session → Session → List ℕ → List ℕ → List ℕ → List ℕ → List ℕ → ℕ → ℕ → Status → Type 0
RunsScript first last script answers_old answers_new calls_old calls_new answers calls result =
    (between : Session) × (answered : Status) × (taken : Status)
    × StepsSession first between script answers_old answers_new answers answered
    × TakesCalls between last calls_old calls_new calls taken × IsFirstFault answered taken result

-- a session was opened and a script run in it; or no session was opened, for this reason, and the buffers are
-- unchanged
abbrev pub RunsBatch : List ℕ → ℕ → List ℕ → List ℕ → List ℕ → List ℕ → List ℕ → ℕ → ℕ → Status → Type 0
RunsBatch bytes cache script answers_old answers_new calls_old calls_new answers calls result =
    (OpensKernel bytes cache (Err result) × (answers_new ≡ answers_old) × (calls_new ≡ calls_old))
    ⊎ ((first : Session) × (last : Session) × OpensSession bytes cache first
    × RunsScript first last script answers_old answers_new calls_old calls_new answers calls result)
