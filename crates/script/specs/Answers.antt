-- An answer as one line.
use Rattle.script.specs.Names.{ℕ, List, codes, Answer, line_of, printed}
use Rattle.std.specs.Prelude.{◌≡◌}
use Rattle.model.specs.declared.answer.Answer.TheVariants as answer

-- the text is the answer's line, or `shown` for an object
abbrev pub IsAnswerText : Answer → List ℕ → Type 0
IsAnswerText (answer.Shown d) text = text ≡ codes "shown"
IsAnswerText a text = printed a ≡ line_of text
