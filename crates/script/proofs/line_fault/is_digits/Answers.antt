use Rattle.script.proofs.Names.{rules, digit_at}
use Rattle.script.proofs.line_fault.is_digits.Goals as goal

pub returns-then-not-is_ascii_digit : goal.returns-then-not-is_ascii_digit
returns-then-not-is_ascii_digit c = search (rules, digit_at)
