use Rattle.command_line.proofs.Names.{rules, get_or, IsNumber, greatest_number}
use Rattle.command_line.proofs.Getters.{held}
use Rattle.command_line.proofs.Numbers.{no_word, numbers_bad, numbers_next}
use Rattle.command_line.proofs.arguments.numbers_in.Goals as goal

pub returns-in-None-clause-none : goal.returns-in-None-clause-none
returns-in-None-clause-none c = λ _. numbers_bad c.args.words.now c.loop-word.word-index no_word c.loop-word-test.true
    (c.number_in.ensures.none (search rules))

pub loop-word-preserved : goal.loop-word-preserved
loop-word-preserved c =
    let before = numbers_next c.args.words.now c.loop-word.word-index no_word c.loop-word-test.true c.loop-word.numbers.items
    c.in-Some.number
    c.loop-word.invariant
    (held (IsNumber 0 greatest_number (get_or c.args.words.now c.loop-word.word-index no_word).now) c.number_in.result c.in-Some.number
    c.number_in.ensures.named (search rules)) in
    search rules
