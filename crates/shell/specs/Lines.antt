-- The lines that a shell reads, and what they ask for.
use Rattle.std.specs.Prelude.{◌≡◌, ◌⊎◌, ◌||◌, ◌&&◌, ◌==◌, ◌<◌, ◌≤◌, ◌++◌, ◌∷◌, if◌then◌else◌, ℕ, Bool, true, false, List, [], codes, length, nat_lt, take}
use Rattle.std.specs.Prelude.{drop, map, Option, None, Some, option_map, unwrap_or, ⊤}
use Rattle.std.specs.List.{filter, flat_map, position, slice_split, starts_with}
use Rattle.std.specs.Str.{bytes_eq}
use Rattle.model.specs.Run.{lines_of, onto_first}
use Rattle.model.specs.Text.{line_of, spaced}
use Rattle.runs.specs.Reader.{read_from}
use Rattle.shell.specs.declared.typed_lines.TypedLines.{TypedLines}
use Rattle.shell.specs.declared.request.Request.{Request}
use Rattle.shell.specs.declared.request.Request.TheVariants as request

-- a space or a tab
abbrev pub is_blank : ℕ → Bool
is_blank b = (b == 32) || (b == 9)

-- the part of a line before the first `#`, or all of it
abbrev pub before_comment : List ℕ → List ℕ
before_comment line = take (unwrap_or (position (λ b. b == 35) line) (length line)) line

-- the words between blanks
abbrev pub words_in : List ℕ → List (List ℕ)
words_in text = filter (λ word. nat_lt 0 (length word)) (slice_split is_blank text)

-- A line as a shell reads it: the words before a comment, with one space between. A line of more than 256 bytes is
-- bad anyway, and is read as its first 257 bytes.
abbrev pub read_as : List ℕ → List ℕ
read_as line = if nat_lt 256 (length line) then take 257 line else spaced (words_in (before_comment line))

-- whether a line ends the shell
abbrev pub ends_shell : List ℕ → Bool
ends_shell line = bytes_eq line (codes "quit") || bytes_eq line (codes "exit")

-- whether a line is `help`, or `help WORD`
abbrev pub requests_help : List ℕ → Bool
requests_help line = bytes_eq line (codes "help") || bytes_eq (codes "help ") (take 5 line)

-- one byte of a line was read: it is kept if fewer than 257 are
abbrev pub IsKept : List ℕ → ℕ → List ℕ → Type 0
IsKept old b new = ((length old < 257) × (new ≡ old ++ b ∷ [])) ⊎ ((257 ≤ length old) × (new ≡ old))

-- whether a line asks to save the present state
abbrev pub requests_save : List ℕ → Bool
requests_save line = bytes_eq line (codes "save")

-- whether a line asks for the list of all objects
abbrev pub requests_list : List ℕ → Bool
requests_list line = bytes_eq line (codes "list")

-- whether nothing or a space follows a word
abbrev pub ends_word : List ℕ → Bool
ends_word [] = true
ends_word (b ∷ bs) = b == 32

-- whether this is the first word of a line
abbrev pub is_first : List ℕ → List ℕ → Bool
is_first word line = starts_with (λ a b. a == b) line word && ends_word (drop (length word) line)

-- whether a line asks about what is saved, or copies it
abbrev pub is_question : List ℕ → Bool
is_question line = is_first (codes "reach") line || is_first (codes "describe") line || is_first (codes "draw") line
    || is_first (codes "info") line || is_first (codes "copy") line

-- what a line asks for; the word of `help` is what follows the space
abbrev pub IsRequest : List ℕ → Request → Type 0
IsRequest line request.Quit = ends_shell line ≡ true
IsRequest line request.Save = requests_save line ≡ true
IsRequest line request.List = requests_list line ≡ true
IsRequest line (request.Help word) = (requests_help line ≡ true) × (word.now ≡ drop 5 line)
IsRequest line request.Inspect = is_question line ≡ true
IsRequest line request.Pass = (ends_shell line ≡ false) × (requests_save line ≡ false) × (requests_list line ≡ false)
    × (requests_help line ≡ false) × (is_question line ≡ false)

-- the lines of an input whose first line began with these bytes
abbrev pub lines_from : List ℕ → List ℕ → List (List ℕ)
lines_from [] rest = lines_of rest
lines_from (b ∷ begun) rest = onto_first b (lines_from begun rest)

-- the lines that a shell will read, if its input is known
abbrev pub lines_ahead : List ℕ → Option (List ℕ) → Option (List (List ℕ))
lines_ahead begun rest = option_map (λ text. map read_as (lines_from begun text)) rest

-- if the lines ahead are known: the old ones are `taken`, then the new ones
abbrev pub Takes : Option (List (List ℕ)) → Option (List (List ℕ)) → List (List ℕ) → Type 0
Takes None new taken = ⊤
Takes (Some ls) None taken = ⊥
Takes (Some ls) (Some others) taken = ls ≡ taken ++ others

-- if the lines ahead are known, none is left
abbrev pub NoneAhead : Option (List (List ℕ)) → Type 0
NoneAhead None = ⊤
NoneAhead (Some ls) = ls ≡ []

-- the lines ahead, if the input is known
abbrev pub ahead_of : {R : Type 0} → (R → Option (List ℕ)) → TypedLines R → Option (List (List ℕ))
ahead_of rest typed = lines_ahead typed.line.items (rest (read_from typed.reader))
