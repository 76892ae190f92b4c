use Rattle.std.proofs.Common.{◌≡◌, ◌++◌, length}
use Rattle.command_line.specs.Arguments.{texts_of}
use Rattle.std.specs.List.{All}
use Rattle.std.specs.Str.{IsUtf8}
use Rattle.shell_questions.proofs.words.push_all.Given as goal

abbrev pub invariant-loop-word : goal.invariant-loop-word
invariant-loop-word l = record {
  pushed : texts_of l.list.items ++ l.words ≡ texts_of l.fn.list.items ++ l.fn.words;
  texts : All IsUtf8 l.fn.words → All IsUtf8 l.words;
}

abbrev pub decreases-loop-word : goal.decreases-loop-word
decreases-loop-word l = length l.words
