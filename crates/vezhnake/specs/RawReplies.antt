-- An answer as numbers.
use Rattle.vezhnake.specs.Names.{ℕ, Bool, not, nat_lt, Option, None, Some, role_number, role_of, code_number}
use Rattle.vezhnake.specs.Names.{fault_number, unjournaled_number, Answer, Refusal, ResultCode}
use Rattle.std.specs.Prelude.{◌-◌, ◌^◌, ◌≡◌}
use Rattle.model.specs.declared.answer.Answer.TheVariants as answer
use Rattle.model.specs.declared.answer.Refusal.TheVariants as refusal
use Rattle.vezhnake.specs.declared.raw_reply.RawReply.{RawReply}

-- a refusal as numbers: its kind, and the number in it or 0
abbrev pub refusal_numbers : Refusal → ℕ × ℕ
refusal_numbers refusal.Down = (32, 0)
refusal_numbers refusal.NoProcess = (33, 0)
refusal_numbers refusal.NotRunning = (34, 0)
refusal_numbers refusal.Worn = (35, 0)
refusal_numbers refusal.Stalled = (36, 0)
refusal_numbers refusal.LogFull = (37, 0)
refusal_numbers refusal.CheckpointRunning = (38, 0)
refusal_numbers refusal.MigrationPending = (39, 0)
refusal_numbers (refusal.NotStable left) = (40, left)
refusal_numbers refusal.NoCheckpoint = (41, 0)
refusal_numbers refusal.NoMemory = (42, 0)
refusal_numbers refusal.Fault = (43, 0)
refusal_numbers refusal.BadNumber = (44, 0)
refusal_numbers (refusal.NotJournaled why) = (45, unjournaled_number why)

-- an answer as numbers: its kind, and the numbers in it or 0; an answer that shows an object has the object's number
-- and role
abbrev pub answer_numbers : Answer → ℕ × ℕ × ℕ
answer_numbers answer.Done = (0, 0, 0)
answer_numbers (answer.Value v) = (1, v, 0)
answer_numbers (answer.MemoryFault f) = (2, fault_number f, 0)
answer_numbers (answer.Frozen n) = (3, n, 0)
answer_numbers (answer.Left n) = (4, n, 0)
answer_numbers (answer.Committed g) = (5, g, 0)
answer_numbers (answer.Journaled g) = (6, g, 0)
answer_numbers (answer.At g age) = (7, g, age)
answer_numbers (answer.Shown d) = (8, d.number, role_number (role_of d.object.content))
answer_numbers (answer.Refused why) = ((refusal_numbers why).0, (refusal_numbers why).1, 0)

-- a result code as a number; 2^32 - 1 if there is none
abbrev pub code_in : Option ResultCode → ℕ
code_in None = 2 ^ 32 - 1
code_in (Some code) = code_number code

-- an answer and its result code as numbers
abbrev pub reply_of : Answer → Option ResultCode → RawReply
reply_of a code = record
    { kind = (answer_numbers a).0; code = code_in code; first = (answer_numbers a).1; second = (answer_numbers a).2 }

-- whether the reply is a refusal
abbrev pub is_refused : RawReply → Bool
is_refused r = not (nat_lt r.kind 32)

-- the answer shows no object
abbrev pub ShowsNone : Answer → Type 0
ShowsNone (answer.Shown d) = ⊥
ShowsNone _ = Unit {0}

-- if two replies are equal, so are their answers and result codes, unless an answer shows an object
abbrev pub RepliesTellAnswers : Type 0
RepliesTellAnswers = (a b : Answer) (m n : Option ResultCode) → ShowsNone a → ShowsNone b →
    reply_of a m ≡ reply_of b n → (a ≡ b) × (m ≡ n)
