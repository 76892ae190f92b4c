use Rattle.script.proofs.Names.{length, take, decimal, flat_map}
use Rattle.std.proofs.Common.{◌≡◌, ◌+◌, ◌*◌, ◌≤◌, ◌∷◌, ◌++◌}
use Rattle.script.proofs.line_text.LineText.numbers.Given as goal

abbrev pub invariant-loop-number : goal.invariant-loop-number
invariant-loop-number l = record {
  text : l.self ≡ l.fn.self ++ flat_map (λ n. 32 ∷ decimal n) (take l.number-index l.numbers);
  short : length l.self ≤ length l.fn.self + 21 * l.number-index;
}
