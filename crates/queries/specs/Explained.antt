-- Explaining the description in a text.
use Rattle.queries.specs.Names.{Written, nat_lt, take, ℕ, Bool, true, false, not, List, [], length, codes, decimal}
use Rattle.queries.specs.Names.{None, Some, Result, Ok, Err, Wrote, Members, parse_document, line_of, Place, Explains}
use Rattle.queries.specs.Names.{IsExplanation, WroteFront, Fault, IsOneLine}
use Rattle.std.specs.Prelude.{◌+◌, if◌then◌else◌, ◌≡◌, ◌==◌, ◌||◌, ◌≤◌, ◌++◌, ◌∷◌}
use Rattle.jobs.specs.declared.fault.Fault.TheVariants as fault

-- the text is that of a description that `build` accepts on each device that is large enough
abbrev pub IsAcceptedText : List ℕ → Type 0
IsAcceptedText text = (table : Members) × (parse_document text ≡ Some table) × Explains table None

-- The line and column after a text that begins at this line and column. A column counts characters: a byte from 128
-- to 191 belongs to the character before it.
abbrev pub position_from : ℕ → ℕ → List ℕ → ℕ × ℕ
position_from line column [] = (line, column)
position_from line column (b ∷ bs) =
    if b == 10 then position_from (line + 1) 1 bs
    else if nat_lt b 128 || not (nat_lt b 192) then position_from line (column + 1) bs
    else position_from line column bs

-- a line and a column, and why the text isn't TOML
abbrev pub position_text : ℕ × ℕ → List ℕ → List ℕ
position_text p why = codes "line " ++ (decimal p.0 ++ (codes ", column " ++ (decimal p.1 ++ (codes ": " ++ why))))

-- the line about a text that isn't TOML at a place in it: the place, and why, on one line
abbrev pub IsSyntaxLineAt : ℕ → List ℕ → List ℕ → Type 0
IsSyntaxLineAt at text line =
    (why : List ℕ) × (at ≤ length text) × IsOneLine why
    × (line ≡ position_text (position_from 1 1 (take at text)) (why ++ codes " (bad description)"))

-- the same at some place
abbrev pub IsSyntaxLine : List ℕ → List ℕ → Type 0
IsSyntaxLine text line = (at : ℕ) × IsSyntaxLineAt at text line

-- the explanation of a place where a table breaks a rule
abbrev pub IsRuleLine : Members → List ℕ → Type 0
IsRuleLine table line = (place : Place) × Explains table (Some place) × IsExplanation place line

-- the line about a text: it is accepted; or it breaks a rule, or isn't TOML
abbrev pub TellsOf : List ℕ → List ℕ → Bool → Type 0
TellsOf text line true = IsAcceptedText text × (line ≡ codes "ok")
TellsOf text line false =
    ((table : Members) → parse_document text ≡ Some table → IsRuleLine table line)
    × (parse_document text ≡ None → IsSyntaxLine text line)

-- the line was written; or it couldn't be written whole; or memory ran out
abbrev pub TellsLine : List ℕ → Written → Written → Result (Unit {0}) Fault → Type 0
TellsLine line output output_left (Ok a) = Wrote output output_left (line_of line)
TellsLine line output output_left (Err fault.CannotWriteOutput) = WroteFront output output_left (line_of line)
TellsLine line output output_left (Err fault.NoMemory) = output_left ≡ output
TellsLine line output output_left (Err _) = ⊥

-- the line about a text was written; or it couldn't be written whole; or memory ran out
abbrev pub ExplainsText : List ℕ → Written → Written → Result Bool Fault → Type 0
ExplainsText text output output_left (Ok is_accepted) =
    (line : List ℕ) × TellsOf text line is_accepted × Wrote output output_left (line_of line)
ExplainsText text output output_left (Err fault.CannotWriteOutput) =
    (line : List ℕ) × (is_accepted : Bool) × TellsOf text line is_accepted
    × WroteFront output output_left (line_of line)
ExplainsText text output output_left (Err fault.NoMemory) = output_left ≡ output
ExplainsText text output output_left (Err _) = ⊥

-- the exit status: 0 only if the text is accepted
abbrev pub accepted_status : Result Bool Fault → ℕ
accepted_status (Ok true) = 0
accepted_status (Ok false) = 1
accepted_status (Err why) = 1

-- the outcome of the command: what is wrong with the text is no fault of the command
abbrev pub without_answer : Result Bool Fault → Result (Unit {0}) Fault
without_answer (Ok is_accepted) = Ok tt
without_answer (Err why) = Err why
