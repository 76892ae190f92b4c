-- The halves of the log.
use Rattle.std.specs.Prelude.{ℕ, ◌%◌, ◌==◌, if◌then◌else◌}
use Rattle.layout.specs.declared.half.Half.{Half}
use Rattle.layout.specs.declared.half.Half.TheVariants.{First, Second}

-- the half of a generation: the first has the even ones
abbrev pub half_of : ℕ → Half
half_of generation = if generation % 2 == 0 then First else Second
