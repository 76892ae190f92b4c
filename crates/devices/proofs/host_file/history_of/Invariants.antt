use Rattle.devices.proofs.Names.{fresh, take}
use Rattle.std.proofs.Common.{◌≡◌, ◌*◌}
use Rattle.devices.proofs.host_file.history_of.Given as goal

abbrev pub invariant-loop-at : goal.invariant-loop-at
invariant-loop-at l = l.history ≡ fresh (take (512 * l.at) l.copy)
