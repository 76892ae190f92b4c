use Rattle.command_line.proofs.Numbers.{NumbersBefore}
use Rattle.command_line.proofs.arguments.numbers_in.Given as goal

abbrev pub invariant-loop-word : goal.invariant-loop-word
invariant-loop-word l = NumbersBefore l.words l.word-index l.numbers.items
