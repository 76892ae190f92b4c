use Rattle.layout.proofs.Names.{take, directory_bytes}
use Rattle.std.proofs.Common.{◌≡◌, ◌*◌}
use Rattle.layout.proofs.directory.encode_directory.Given as goal

abbrev pub invariant-loop-i : goal.invariant-loop-i
invariant-loop-i l = take (16 * l.i) l.into ≡ directory_bytes (take l.i l.entries)
