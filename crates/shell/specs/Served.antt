-- What a shell writes besides answers, and how it reads a line.
use Rattle.std.specs.Prelude.{◌≡◌, ◌≢◌, ◌⊎◌, ◌∷◌, ℕ, Bool, true, false, List, [], codes, map, Option, Result, ⊤}
use Rattle.std.specs.Io.KnownBytes.{IsAtEnd}
use Rattle.std.specs.List.{All, Any}
use Rattle.model.specs.Text.{line_of}
use Rattle.script.specs.Writing.{Writes, Written}
use Rattle.script.specs.declared.fault.RunFault.{RunFault}
use Rattle.shell.specs.Lines.{Takes, lines_ahead, read_as}
use Rattle.shell.specs.declared.help.Topic.{Topic}
use Rattle.shell.specs.declared.typed_lines.LineEnd.{LineEnd}
use Rattle.shell.specs.declared.typed_lines.LineEnd.TheVariants as end

-- the text was written to the notes, whole or in part
abbrev pub WritesNote : Written → Written → List ℕ → Type 0
WritesNote old new text = (wrote : Result (Unit {0}) RunFault) × Writes old new wrote text

-- if the flag is set, the text was written to the notes
abbrev pub Notes : Bool → List ℕ → Written → Written → Type 0
Notes true text old new = WritesNote old new text
Notes false text old new = new ≡ old

abbrev pub greeting : List ℕ
greeting = line_of (codes "Type help for the commands, and quit or Control-D to end.")

-- the shell's question before it ends with unsaved work
abbrev pub question : List ℕ
question = line_of (codes "Some invocations or stores are not saved: type save to keep them, or quit again to lose them.")

-- what `help` writes for an unknown word
abbrev pub unknown_topic : List ℕ
unknown_topic = line_of (codes "There is no help on this. Type help for the commands.")

-- the help on a word: the text of a topic with that word, or that there is none
abbrev pub IsHelp : List Topic → List ℕ → List ℕ → Type 0
IsHelp topics word text = Any (λ t. (t.word.now ≡ word) × (text ≡ t.text.now)) topics
    ⊎ (All (λ t. t.word.now ≢ word) topics × (text ≡ unknown_topic))

-- the help on a word was written
abbrev pub WritesHelp : List Topic → List ℕ → Written → Written → Type 0
WritesHelp topics word old new = (text : List ℕ) × IsHelp topics word text × WritesNote old new text

-- what reading took from the lines ahead: one line, or none if the input ended before any byte
abbrev pub lines_to : LineEnd → List ℕ → List (List ℕ)
lines_to end.Newline line = line ∷ []
lines_to end.Input [] = []
lines_to end.Input (b ∷ bs) = (b ∷ bs) ∷ []

-- if the line ended with the input, nothing is left of the input
abbrev pub EndsAt : LineEnd → Option (List ℕ) → Type 0
EndsAt end.Newline rest = ⊤
EndsAt end.Input rest = IsAtEnd rest

-- the next line ahead was read
abbrev pub ReadsLine : Option (List (List ℕ)) → Option (List ℕ) → List ℕ → LineEnd → Type 0
ReadsLine old rest line end = Takes old (lines_ahead [] rest) (map read_as (lines_to end line)) × EndsAt end rest
