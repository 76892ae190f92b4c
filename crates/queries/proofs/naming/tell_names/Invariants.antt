use Rattle.std.proofs.Common.{take}
use Rattle.std.specs.List.{flat_map}
use Rattle.script.specs.Writing.{Wrote}
use Rattle.queries.specs.Naming.{name_line}
use Rattle.queries.proofs.naming.tell_names.Given as goal

abbrev pub invariant-loop-name : goal.invariant-loop-name
invariant-loop-name g l = Wrote (g.W.Output.written l.fn.writer) (g.W.Output.written l.writer)
    (flat_map (name_line l.old l.new) (take l.name-index l.names))
