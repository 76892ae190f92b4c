use Rattle.std.proofs.Common.{◌<◌, ◌-◌}
use Rattle.script.proofs.ShortNumbers.{Values}
use Rattle.script.proofs.short.digits_before.Given as goal

abbrev pub invariant-loop-place : goal.invariant-loop-place
invariant-loop-place l = record {
  begun : l.at < l.place;
  values : Values l.text l.at (l.place - l.at) l.number;
}
