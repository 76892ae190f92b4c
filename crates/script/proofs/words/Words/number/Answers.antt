use Rattle.script.proofs.Names.{rules, sym, None, Some, option_map, first_word, words_left, words_of}
use Rattle.std.proofs.Common.{◌≡◌, ◌∙◌}
use Rattle.script.proofs.Commands.{number_gives}
use Rattle.script.proofs.Digits.{digit_alone, digit_last}
use Rattle.script.proofs.Split.{begins_with_word}
use Rattle.script.proofs.words.Words.number.Goals as goal

pub returns-in_err-front : goal.returns-in_err-front
returns-in_err-front c =
    let view : words_of c.in_ok-rest.rest.now ≡ c.args.self.now = rw c.in_ok-rest.was at c.self.view_is in
    let words = begins_with_word c.in_ok-rest.rest.now in
    rw c.from_residual-in_err-front.ensures
    (number_gives None (first_word c.in_ok-rest.rest.now) c.args.self.now words.0 (sym view ∙ words.1) tt c.in_err-front.ensures.none)

pub returns : goal.returns
returns c =
    let view : words_of c.in_ok-rest.rest.now ≡ c.args.self.now = rw c.in_ok-rest.was at c.self.view_is in
    number_gives (Some c.in_ok-front.front.number) (first_word c.in_ok-rest.rest.now) c.args.self.now
    (words_left (option_map (λ r. r.now) c.behind_first-self-inside.result))
    (sym view ∙ c.behind_first-self-inside.ensures) c.in_ok-front.ensures.found tt

pub returns-then-is_ascii_digit : goal.returns-then-is_ascii_digit
returns-then-is_ascii_digit c = search (rules, digit_alone)

pub returns-then-is_ascii_digit-2 : goal.returns-then-is_ascii_digit-2
returns-then-is_ascii_digit-2 c = search (rules, digit_last)
