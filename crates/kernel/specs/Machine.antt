-- The machine that present frames stand for, and the steps over them.
use Rattle.kernel.specs.Names.{ℕ, Bool, Option, None, Some, List, true, false, Result, Ok, Err, Answer, Refusal}
use Rattle.kernel.specs.Names.{Command, Invocation, Geometry, Object, ResultCode, IsSoundFrames, world_at, Frozen}
use Rattle.kernel.specs.Names.{Saved, Machine, Up, renewing, Step, is_process, is_running_process, Parts, Renews}
use Rattle.kernel.specs.Names.{frames_of, objects_in, result_code}
use Rattle.std.specs.Prelude.{◌≡◌, ◌↔◌, ◌<◌, ◌≤◌}
use Rattle.model.specs.declared.answer.Answer.TheVariants as answer
use Rattle.model.specs.declared.answer.Refusal.TheVariants as refusal

-- the machine that is up with these present frames
abbrev pub machine_at : ℕ → Parts → List Bool → Option Frozen → Saved → ℕ → Machine
machine_at age p renewed frozen saved to_move =
    Up (record {
      now = world_at age (frames_of p);
      touched = p.touched;
      renewed = renewed;
      frozen = frozen;
      saved = saved;
      to_move = to_move;
    })

-- the set of renewed numbers, with the numbers whose objects were rescinded between `old` and `new` added
abbrev pub renewed_by : List Bool → Parts → Parts → List Bool
renewed_by renewed old new = renewing renewed (objects_in old) (objects_in new)

-- the answer in a result, or the refusal as an answer
abbrev pub answer_of : Result Answer Refusal → Answer
answer_of (Ok a) = a
answer_of (Err why) = answer.Refused why

-- the answer to an invocation: done, or the refusal
abbrev pub answer_with : Result (Option ResultCode) Refusal → Answer
answer_with (Ok code) = answer.Done
answer_with (Err why) = answer.Refused why

-- the result code that comes with an answer to an invocation
abbrev pub code_with : Geometry → List Object → Invocation → Answer → Option ResultCode
code_with g os i answer.Done = result_code g os i
code_with g os i _ = None

-- a refusal before any call of the device: no such number, no such process, or the machine is down
abbrev pub NeedsNoDeviceCall : Refusal → Type 0
NeedsNoDeviceCall refusal.BadNumber = Unit {0}
NeedsNoDeviceCall refusal.NoProcess = Unit {0}
NeedsNoDeviceCall refusal.Down = Unit {0}
NeedsNoDeviceCall _ = ⊥

-- the answer is a refusal before any call of the device
abbrev pub MakesNoDeviceCall : Answer → Type 0
MakesNoDeviceCall (answer.Refused why) = NeedsNoDeviceCall why
MakesNoDeviceCall _ = ⊥

-- the frames are sound at an age, the geometry is the same, and allocation counts rise with each object that is freed
pub record StaysSound (old new : Parts) (age : ℕ) : Type 0 where
  pub renews : Renews old new
  pub sound : IsSoundFrames new.geometry age (frames_of new)
  pub geometry : new.geometry ≡ old.geometry

-- a process performs a command: the step from old to new parts is one of the machine's, with any renewed numbers,
-- frozen and saved state. If the answer is `Fault`, nothing is said of the parts
pub record Performs (old_age : ℕ) (old : Parts) (c : Command) (a : Answer) (new_age : ℕ) (new : Parts) : Type 0 where
  pub step : (renewed : List Bool) (frozen : Option Frozen) (saved : Saved) (to_move : ℕ) →
      (a ≡ answer.Refused refusal.Fault → ⊥) →
      Step old.geometry (machine_at old_age old renewed frozen saved to_move) c a
      (machine_at new_age new (renewed_by renewed old new) frozen saved to_move)
  pub stays : (a ≡ answer.Refused refusal.Fault → ⊥) → StaysSound old new new_age
  pub later : old.failures ≤ new.failures
  pub cause : (a ≡ answer.Refused refusal.Fault) ↔ (old.failures < new.failures)

-- why number p can't act, or `None` if its process runs
abbrev pub IsEarly : List Object → ℕ → Option Refusal → Type 0
IsEarly os p None = (is_process os p ≡ true) × (is_running_process os p ≡ true)
IsEarly os p (Some refusal.NoProcess) = is_process os p ≡ false
IsEarly os p (Some refusal.NotRunning) = (is_process os p ≡ true) × (is_running_process os p ≡ false)
IsEarly os p _ = ⊥
