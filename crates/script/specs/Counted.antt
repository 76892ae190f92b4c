-- A writer that counts its failures.
use Rattle.script.specs.Names.{ℕ, List, Option}
use Rattle.script.specs.Writing.{Written}
use Rattle.script.specs.declared.counted.CountedWriter.{CountedWriter}
use Rattle.script.specs.declared.counted.BufferedOutput.{BufferedOutput}

-- the writer whose failures are counted
abbrev pub inner_writer : {W : Type 0} → CountedWriter W → W
inner_writer w = w.inner

-- how many calls of the writer have failed
abbrev pub failed_writes : {W : Type 0} → CountedWriter W → ℕ
failed_writes w = w.failures.number

-- what the writer has taken, and how many of its calls have failed
abbrev pub written_by : {W : Type 0} → (W → Option (List ℕ)) → CountedWriter W → Written
written_by contents w = record { contents = contents w.inner; failures = w.failures.number }

-- the counted writer inside a buffered output
abbrev pub counted_buffer : {B : Type 0} → BufferedOutput B → CountedWriter B
counted_buffer b = b.counted
