-- Described frames are whole processes.
use Rattle.description.specs.Names.{List, Frame, AreWholeProcesses}
use Rattle.description.specs.declared.entry.Description.{Description}
use Rattle.description.specs.Described.{HasFields, HasNumbers, IsDescribed}

-- in described frames each root has its annex, and each annex its root
abbrev pub DescribedIsWhole : Type 0
DescribedIsWhole = (d : Description) (fs : List Frame) → HasNumbers d → HasFields d → IsDescribed d fs →
    AreWholeProcesses fs
