use Rattle.std.proofs.Common.{◌≡◌, ◌≢◌, Bool, List, arith, false, subst, ℕ}
use Rattle.std.proofs.lemmas.Bool.Decides.{nat_tests}
use Rattle.std.proofs.lemmas.List.{take_all}
use Rattle.std.proofs.lemmas.List.Elements.{All-more}
use Rattle.std.proofs.lemmas.Slice.Eq.{bytes_eq-Decides}
use Rattle.std.specs.List.{All}
use Rattle.std.specs.Str.{bytes_eq}
use Rattle.shell.specs.declared.help.Topic.{Topic}
use Rattle.shell.proofs.help.text_in.Goals as goal

differs : (one other : List ℕ) (r : Bool) → r ≡ bytes_eq one other → r ≡ false → one ≢ other
differs one other r is apart = grind (arith, nat_tests, bytes_eq-Decides)

pub loop-topic-preserved : goal.loop-topic-preserved
loop-topic-preserved c = All-more (λ (t : Topic). t.word.now ≢ c.args.word.now) c.args.topics.now c.loop-topic.topic-index _
    c.loop-topic-test.true
    c.loop-topic.invariant (differs _ c.args.word.now c.eq.result c.eq.ensures c.if-eq.false)

pub returns : goal.returns
returns c = subst (All (λ (t : Topic). t.word.now ≢ c.args.word.now)) (take_all c.loop-topic.topic-index c.args.topics.now
    c.loop-topic-test.false)
    c.loop-topic.invariant
