use Rattle.std.proofs.Common.{rules}
use Rattle.command_line.specs.Arguments.{texts_of}
use Rattle.shell_questions.proofs.TypedWords.{one_more, other_texts}
use Rattle.shell_questions.proofs.words.push_all.Goals as goal

pub loop-word-preserved : goal.loop-word-preserved
loop-word-preserved c = record {
  pushed = one_more (texts_of c.loop-word.list.items) (texts_of c.push.new.list.items) _ c.loop-word.words c.next.new.self
      c.in-Some.word.now (search rules) (search rules) c.loop-word.invariant.pushed;
  texts = λ all. other_texts c.loop-word.words c.next.new.self c.in-Some.word.now (search rules) (c.loop-word.invariant.texts all);
}
