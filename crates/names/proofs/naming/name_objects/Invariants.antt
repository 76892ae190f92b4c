use Rattle.std.proofs.Common.{◌≡◌}
use Rattle.script.proofs.NumberedLines.{lines_before}
use Rattle.names.specs.Texts.{byte_and_name}
use Rattle.names.proofs.naming.name_objects.Given as goal

abbrev pub invariant-loop-index : goal.invariant-loop-index
invariant-loop-index l = l.named.items ≡ lines_before (byte_and_name l.kinds l.names.entries.items l.text) l.text l.index
