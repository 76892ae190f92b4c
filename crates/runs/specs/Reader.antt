-- A script that is read from a reader.
use Rattle.std.specs.Prelude.{ℕ}
use Rattle.runs.specs.declared.script_reader.ScriptReader.{ScriptReader}

-- the inner reader
abbrev pub read_from : {R : Type 0} → ScriptReader R → R
read_from script = script.inner

-- how many more reads may reach the inner reader
abbrev pub left_to_read : {R : Type 0} → ScriptReader R → ℕ
left_to_read script = script.left

-- how many reads failed
abbrev pub failed_reads : {R : Type 0} → ScriptReader R → ℕ
failed_reads script = script.failures.number
