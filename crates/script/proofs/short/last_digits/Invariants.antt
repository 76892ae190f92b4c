use Rattle.std.proofs.Common.{◌<◌, ◌≤◌, ◌-◌, length}
use Rattle.script.proofs.ShortNumbers.{Values}
use Rattle.script.proofs.short.last_digits.Given as goal

abbrev pub invariant-loop-place : goal.invariant-loop-place
invariant-loop-place l = record {
  begun : l.at < l.place;
  within : l.place ≤ length l.text;
  values : Values l.text l.at (l.place - l.at) l.number;
}
