-- A line spells a command if its words are the command's.
use Rattle.script.proofs.Names.{arith, nat_tests, ℕ, List, refl, ap, Command, Fits, IsSkipped, command_words, spelling, length-spelling, skip_is_no_command}
use Rattle.script.proofs.Names.{spelling_from_words, spells_one, split_spelling, words_of, Says}
use Rattle.std.proofs.Common.{◌≡◌, ◌≢◌, ◌∙◌}
use Rattle.model.specs.declared.line.Line.TheVariants as line

-- the spelling of a command is neither empty nor a comment
pub spelling_said : (c : Command) → Fits c → IsSkipped (spelling c) → ⊥
spelling_said c fits skipped = skip_is_no_command (spelling c) c (length-spelling c fits, skipped) (fits, refl)

-- if a line has the words of a command, it contains that command
pub says_said : (text : List ℕ) (c : Command) → Fits c × (words_of text ≡ command_words c) → Says text (line.Command c)
says_said text c said = (said.0, spelling_from_words text c said.1)

pub no_spelling : (text : List ℕ) (d : Command) → Fits d → words_of text ≢ command_words d → text ≢ spelling d
no_spelling text d fits none spelt = none (ap words_of spelt ∙ split_spelling d fits)

pub reads_said : (text : List ℕ) (c : Command) → Fits c × (words_of text ≡ command_words c) → (d : Command) → Fits d → text ≡ spelling d
    → line.Command c ≡ line.Command d
reads_said text c said d fits spelt = grind (arith, nat_tests, spells_one, spelling_from_words)
