-- In which order the faults of a description are reported.
use Rattle.std.specs.Prelude.{ℕ}
use Rattle.description.specs.declared.fault.BuildFault.{BuildFault}
use Rattle.description.specs.declared.fault.BuildFault.TheVariants.{Shape, Limits, Number, Field, Target, Owner}
use Rattle.description.specs.declared.fault.BuildFault.TheVariants.{Small, Failed, NoMemory}

-- the number of a fault; if several faults apply, the least is reported
abbrev pub fault_number : BuildFault → ℕ
fault_number Shape = 1
fault_number Limits = 2
fault_number Number = 3
fault_number Field = 4
fault_number Target = 5
fault_number Owner = 6
fault_number Small = 7
fault_number Failed = 8
fault_number NoMemory = 9
