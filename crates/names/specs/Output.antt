-- A writer that puts names after numbers.
use Rattle.std.specs.Prelude.{◌≡◌, ◌+◌, ◌-◌, ◌==◌, ◌++◌, ℕ, Bool, List, None, Option, Some, drop, length, not, take}
use Rattle.std.specs.List.{suffix_len}
use Rattle.names.specs.Entries.{entries}
use Rattle.names.specs.Texts.{named_text}
use Rattle.names.specs.declared.lines.NamedLines.{NamedLines}
use Rattle.names.specs.declared.output.NamedOutput.{NamedOutput}
use Rattle.script.specs.Writing.{Written}

abbrev pub is_in_line : ℕ → Bool
is_in_line b = not (b == 10)

-- the length of the whole lines of a text
abbrev pub lines_end : List ℕ → ℕ
lines_end text = length text - suffix_len is_in_line text

-- the whole lines of a text, with names added
abbrev pub named_lines : NamedLines → List ℕ → List ℕ
named_lines l text = named_text l.kinds.now (entries l.names) (take (lines_end text) text)

-- the text after its whole lines
abbrev pub rest_of_lines : List ℕ → List ℕ
rest_of_lines text = drop (lines_end text) text

-- What a writer with names has accepted. If it adds names, the bytes differ from those of the inner writer, so they
-- are unknown.
abbrev pub written_above : Option NamedLines → ℕ → Written → Written
written_above None own beneath = beneath
written_above (Some l) own beneath = record { contents = None; failures = beneath.failures + own }

-- the bytes that wait in a writer with names: those in the inner writer, then the unfinished line
abbrev pub waiting_above : Option NamedLines → List ℕ → List ℕ
waiting_above None beneath = beneath
waiting_above (Some l) beneath = beneath ++ l.line.items

abbrev pub written_by : {W : Type 0} → (W → Written) → NamedOutput W → Written
written_by written o = written_above o.lines o.failures.number (written o.inner)

abbrev pub waiting_by : {W : Type 0} → (W → List ℕ) → NamedOutput W → List ℕ
waiting_by waiting o = waiting_above o.lines (waiting o.inner)

-- the inner writer
abbrev pub inner_output : {W : Type 0} → NamedOutput W → W
inner_output o = o.inner

-- what adds names to the lines, or `None` if nothing does
abbrev pub lines_in : {W : Type 0} → NamedOutput W → Option NamedLines
lines_in o = o.lines

-- both have the same names and the same begun line, or neither adds names
abbrev pub HasSameNames : Option NamedLines → Option NamedLines → Type 0
HasSameNames None new = new ≡ None
HasSameNames (Some l) None = ⊥
HasSameNames (Some l) (Some k) = (k.names ≡ l.names) × (k.line ≡ l.line)
