use Rattle.std.proofs.Common.{◌≡◌, ◌*◌, take}
use Rattle.layout.specs.sealed.Directory.{entry_numbers}
use Rattle.layout.proofs.sealed.directory.put_entries.Given as goal

abbrev pub invariant-loop-i : goal.invariant-loop-i
invariant-loop-i l = take (2 * l.i) l.into ≡ entry_numbers (take l.i l.entries)
