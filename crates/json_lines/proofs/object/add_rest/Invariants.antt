use Rattle.std.proofs.Common.{◌≡◌, ◌≤◌, ◌+◌, ◌++◌, ◌*◌, length, take}
use Rattle.std.specs.List.{flat_map}
use Rattle.json_lines.specs.Objects.{next_text}
use Rattle.json_lines.proofs.object.add_rest.Given as goal

abbrev pub invariant-loop-member : goal.invariant-loop-member
invariant-loop-member l = record {
  text : l.line ≡ l.fn.line ++ flat_map next_text (take l.member-index l.rest);
  short : length l.line ≤ 70 + 73 * l.member-index;
}
