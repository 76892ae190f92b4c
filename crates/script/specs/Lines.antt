-- What a buffer keeps of a line while the line is read.
use Rattle.script.specs.Names.{ℕ, true, false, Option, None, Some, List, length, All}
use Rattle.std.specs.Prelude.{◌≡◌, ◌≢◌, ◌⊎◌, ◌<◌}
use Rattle.script.specs.declared.lines.LineBuffer.{LineBuffer}

-- no byte of the text ends a line
abbrev pub IsOneLine : List ℕ → Type 0
IsOneLine text = All (λ b. b ≢ 10) text

-- the buffer has the line, or says that the line is too long
abbrev pub Holds : LineBuffer → List ℕ → Type 0
Holds b line = ((b.is_long ≡ false) × (b.text.items ≡ line)) ⊎ ((b.is_long ≡ true) × (256 < length line))

-- the bytes are the line; or, if there are none, the line is too long
abbrev pub IsTextOf : Option (List ℕ) → List ℕ → Type 0
IsTextOf (Some text) line = text ≡ line
IsTextOf None line = 256 < length line
