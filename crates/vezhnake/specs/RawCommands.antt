-- The command that these numbers encode.
use Rattle.vezhnake.specs.Names.{ℕ, Bool, true, Option, None, Some, List, [], nat_lt, slice_index, replicate, Command}
use Rattle.vezhnake.specs.Names.{Operation, Call, Return, Send}
use Rattle.std.specs.Prelude.{◌∷◌, ◌-◌, ◌^◌, ◌==◌, ◌&&◌, if◌then◌else◌}
use Rattle.model.specs.declared.command.Command.TheVariants as command
use Rattle.vezhnake.specs.declared.raw_command.RawCommand.{RawCommand}

-- whether each number is a register's
abbrev pub are_registers : List ℕ → Bool
are_registers [] = true
are_registers (r ∷ rs) = nat_lt r 32 && are_registers rs

-- these numbers, if each is a register's; else `None`
abbrev pub registers_of : List ℕ → Option (List ℕ)
registers_of rs = if are_registers rs then Some rs else None

-- the invocation in these numbers, if its registers exist
abbrev pub invocation_of : Operation → RawCommand → Option Command
invocation_of op r = if are_registers (r.register ∷ r.sent) then
    Some (command.Invoke (record
    { operation = op; process = r.number; register = r.register; words = r.words; sent = r.sent }))
    else None

-- the command in these numbers, by its kind
abbrev pub command_of : RawCommand → Option Command
command_of r =
    if r.kind == 0 then invocation_of Call r else
    if r.kind == 1 then invocation_of Return r else
    if r.kind == 2 then invocation_of Send r else
    if r.kind == 3 then Some (command.Load r.number (slice_index r.words 0)) else
    if r.kind == 4 then Some (command.Store r.number (slice_index r.words 0) (slice_index r.words 1)) else
    if r.kind == 5 then Some (command.Evict r.number) else
    if r.kind == 6 then Some command.Checkpoint else
    if r.kind == 7 then Some (command.Stabilize r.number) else
    if r.kind == 8 then Some command.Commit else
    if r.kind == 9 then Some (command.Migrate r.number) else
    if r.kind == 10 then Some (command.Journal r.number) else
    if r.kind == 11 then Some command.Restart else
    if r.kind == 12 then Some command.Cut else None

-- the numbers of a command of this kind, without registers
abbrev pub numbered : ℕ → ℕ → ℕ → ℕ → RawCommand
numbered kind number first second = record
    { kind = kind; register = 0; sent = replicate 4 0; number = number; words = first ∷ second ∷ 0 ∷ 0 ∷ [] }

-- the numbers of a command that loads the word at an address of a process, and of one that stores a word there
abbrev pub load_of : ℕ → ℕ → RawCommand
load_of process address = numbered 3 process address 0

abbrev pub store_of : ℕ → ℕ → ℕ → RawCommand
store_of process address value = numbered 4 process address value

-- the numbers of a command of this kind for all objects
abbrev pub stage_of : ℕ → RawCommand
stage_of kind = numbered kind (2 ^ 64 - 1) 0 0

-- the stages of a save; the first one brings home what an earlier save left in the log
abbrev pub save_stages : List (Option Command)
save_stages = Some (command.Migrate (2 ^ 64 - 1)) ∷ Some command.Checkpoint ∷ Some (command.Stabilize (2 ^ 64 - 1))
    ∷ Some command.Commit ∷ Some (command.Migrate (2 ^ 64 - 1)) ∷ []
