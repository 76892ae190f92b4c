-- Different answers have different numbers.
use Rattle.vezhnake.proofs.Names.{ℕ, Option, None, Some, refl, sym, ap, Answer, MemoryFault, Refusal, NotPage, Renewed, ResultCode, RawReply}
use Rattle.vezhnake.proofs.Names.{RepliesTellAnswers, ShowsNone, reply_of}
use Rattle.std.proofs.Common.{◌≡◌, ◌∙◌}
use Rattle.std.specs.Prelude.{◌==◌, if◌then◌else◌}
use Rattle.model.specs.declared.answer.Answer.TheVariants as answer
use Rattle.model.specs.declared.answer.MemoryFault.TheVariants as fault
use Rattle.model.specs.declared.answer.Refusal.TheVariants as refusal
use Rattle.model.specs.declared.order.ResultCode.TheVariants as code

-- the memory fault with this number
fault_in : ℕ → MemoryFault
fault_in n = if n == 1 then fault.NoSpace else if n == 2 then fault.Beyond else if n == 3 then fault.Hole else if n ==
    4 then fault.Malformed else fault.ReadOnly

refusal_in : ℕ → ℕ → Refusal
refusal_in kind first =
    if kind == 32 then refusal.Down else if kind == 33 then refusal.NoProcess else if kind == 34 then refusal.NotRunning
    else if kind == 35 then refusal.Worn else if kind == 36 then refusal.Stalled else if kind == 37 then refusal.LogFull
    else if kind == 38 then refusal.CheckpointRunning else if kind == 39 then refusal.MigrationPending
    else if kind == 40 then refusal.NotStable first else if kind == 41 then refusal.NoCheckpoint
    else if kind == 42 then refusal.NoMemory else if kind == 43 then refusal.Fault else if kind == 44 then refusal.BadNumber
    else refusal.NotJournaled (if first == 1 then NotPage else Renewed)

answer_in : RawReply → Answer
answer_in r =
    if r.kind == 0 then answer.Done else if r.kind == 1 then answer.Value r.first
    else if r.kind == 2 then answer.MemoryFault (fault_in r.first) else if r.kind == 3 then answer.Frozen r.first
    else if r.kind == 4 then answer.Left r.first else if r.kind == 5 then answer.Committed r.first
    else if r.kind == 6 then answer.Journaled r.first else if r.kind == 7 then answer.At r.first r.second
    else answer.Refused (refusal_in r.kind r.first)

code_from : RawReply → Option ResultCode
code_from r =
    if r.code == 0 then Some code.Done else if r.code == 1 then Some code.NoOrder else if r.code == 2 then Some code.NoAccess
    else if r.code == 3 then Some code.BadIndex else if r.code == 4 then Some code.BadCapability else if r.code == 5 then Some code.Limit
    else if r.code == 6 then Some code.NoFrame else if r.code == 7 then Some code.TooDeep else if r.code == 8 then Some code.VoidCapability
    else if r.code == 9 then Some code.NotFromThisBank else if r.code == 10 then Some code.PrimeBank else None

answer_again : (a : Answer) (c : Option ResultCode) → ShowsNone a → answer_in (reply_of a c) ≡ a
unfolding answer_in fault_in refusal_in
answer_again answer.Done c shows = refl
answer_again (answer.Value v) c shows = refl
answer_again (answer.MemoryFault fault.NoSpace) c shows = refl
answer_again (answer.MemoryFault fault.Beyond) c shows = refl
answer_again (answer.MemoryFault fault.Hole) c shows = refl
answer_again (answer.MemoryFault fault.Malformed) c shows = refl
answer_again (answer.MemoryFault fault.ReadOnly) c shows = refl
answer_again (answer.Frozen n) c shows = refl
answer_again (answer.Left n) c shows = refl
answer_again (answer.Committed g) c shows = refl
answer_again (answer.Journaled g) c shows = refl
answer_again (answer.At g age) c shows = refl
answer_again (answer.Shown d) c shows = absurd shows
answer_again (answer.Refused refusal.Down) c shows = refl
answer_again (answer.Refused refusal.NoProcess) c shows = refl
answer_again (answer.Refused refusal.NotRunning) c shows = refl
answer_again (answer.Refused refusal.Worn) c shows = refl
answer_again (answer.Refused refusal.Stalled) c shows = refl
answer_again (answer.Refused refusal.LogFull) c shows = refl
answer_again (answer.Refused refusal.CheckpointRunning) c shows = refl
answer_again (answer.Refused refusal.MigrationPending) c shows = refl
answer_again (answer.Refused (refusal.NotStable left)) c shows = refl
answer_again (answer.Refused refusal.NoCheckpoint) c shows = refl
answer_again (answer.Refused refusal.NoMemory) c shows = refl
answer_again (answer.Refused refusal.Fault) c shows = refl
answer_again (answer.Refused refusal.BadNumber) c shows = refl
answer_again (answer.Refused (refusal.NotJournaled NotPage)) c shows = refl
answer_again (answer.Refused (refusal.NotJournaled Renewed)) c shows = refl

code_again : (a : Answer) (c : Option ResultCode) → code_from (reply_of a c) ≡ c
unfolding code_from
code_again a None = refl
code_again a (Some code.Done) = refl
code_again a (Some code.NoOrder) = refl
code_again a (Some code.NoAccess) = refl
code_again a (Some code.BadIndex) = refl
code_again a (Some code.BadCapability) = refl
code_again a (Some code.Limit) = refl
code_again a (Some code.NoFrame) = refl
code_again a (Some code.TooDeep) = refl
code_again a (Some code.VoidCapability) = refl
code_again a (Some code.NotFromThisBank) = refl
code_again a (Some code.PrimeBank) = refl

pub replies_tell : RepliesTellAnswers
replies_tell a b m n shows_a shows_b same = (
  sym (answer_again a m shows_a) ∙ ap answer_in same ∙ answer_again b n shows_b,
  sym (code_again a m) ∙ ap code_from same ∙ code_again b n,
)
