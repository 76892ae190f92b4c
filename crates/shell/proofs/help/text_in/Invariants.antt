use Rattle.std.proofs.Common.{◌≢◌, take}
use Rattle.std.specs.List.{All}
use Rattle.shell.specs.declared.help.Topic.{Topic}
use Rattle.shell.proofs.help.text_in.Given as goal

-- no topic so far has the word
abbrev pub invariant-loop-topic : goal.invariant-loop-topic
invariant-loop-topic l = All (λ (t : Topic). t.word.now ≢ l.word) (take l.topic-index l.topics)
