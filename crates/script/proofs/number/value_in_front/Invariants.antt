use Rattle.script.proofs.Names.{take, AllDigits, digits_value, first_end}
use Rattle.std.proofs.Common.{◌≡◌, ◌<◌, ◌≤◌, ◌^◌}
use Rattle.script.proofs.number.value_in_front.Given as goal

abbrev pub invariant-loop-size : goal.invariant-loop-size
invariant-loop-size l = record {
  small : l.number < 2 ^ 64;
  first : l.size ≤ first_end l.text;
  digits : AllDigits 10 (take l.size l.text);
  value : l.number ≡ digits_value 10 (take l.size l.text);
}
