use Rattle.std.proofs.Common.{◌≡◌, ◌++◌, codes, flat_map, take}
use Rattle.json_lines.specs.Strings.{escaped}
use Rattle.json_lines.proofs.string.string_object.Given as goal

abbrev pub invariant-loop-byte : goal.invariant-loop-byte
invariant-loop-byte l = l.object.items ≡ codes "{\"" ++ l.name ++ codes "\": \"" ++ flat_map escaped (take l.byte-index l.text)
