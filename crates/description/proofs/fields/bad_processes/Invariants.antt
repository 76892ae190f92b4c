use Rattle.description.proofs.Names.{take, All, IsProcessEntry}
use Rattle.description.proofs.fields.bad_processes.Given as goal

-- the fields of the first k processes are valid
abbrev pub invariant-loop-k : goal.invariant-loop-k
invariant-loop-k l = All IsProcessEntry (take l.k l.processes)
