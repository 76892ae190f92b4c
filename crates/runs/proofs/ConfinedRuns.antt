-- A run over a kernel is a run of the machine, so it is confined.
use Rattle.runs.proofs.Names.{arith, nat_tests, Disk, run_confined, Parts, View, RunsAreConfined}
use Rattle.runs.proofs.Confining.{one_machine, sound_world}

module _ {D S : Type 0} (disk : D → Disk) (view : S → View D) (parts : S → Parts) where
  pub runs_confined : RunsAreConfined disk view parts
  runs_confined g s t old new turns inside first last run closed by = search (arith, nat_tests, run_confined, sound_world, one_machine)
