use Rattle.description.proofs.Names.{take, All, AllOfProcess}
use Rattle.description.proofs.targets.failing_in_processes.Given as goal

-- the capabilities of the first k processes pass
abbrev pub invariant-loop-k : goal.invariant-loop-k
invariant-loop-k g l = All (AllOfProcess (g.N.Naming.Passes l.naming)) (take l.k l.processes)
