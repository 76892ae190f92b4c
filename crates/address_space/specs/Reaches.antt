-- What a walk through an address space returns.
use Rattle.std.specs.Prelude.{ℕ, ◌==◌, Bool, not, ◌&&◌, if◌then◌else◌, List, Result, Ok, Err, IsTrue}
use Rattle.model.specs.declared.access.Access.{Access}
use Rattle.model.specs.declared.answer.MemoryFault.{MemoryFault}
use Rattle.model.specs.declared.answer.MemoryFault.TheVariants.{ReadOnly}
use Rattle.model.specs.declared.object.Object.{Object}
use Rattle.model.specs.Object.{is_page}
use Rattle.model.specs.World.{content_at}
use Rattle.address_space.specs.declared.walking.Reached.{Reached}

-- the result of a walk in the code, as a result of the model's walk
abbrev pub reported : Result Reached MemoryFault → Result (ℕ × Access) MemoryFault
reported (Ok reached) = Ok (reached.page, record { 0 = reached.access })
reported (Err why) = Err why

-- if a number is reached, it is that of a page
abbrev pub ReachesPage : List Object → Result Reached MemoryFault → Type 0
ReachesPage os (Ok reached) = IsTrue (is_page (content_at os reached.page))
ReachesPage os (Err why) = Unit {0}

-- what a walk reaches: for a load any page, for a store only one without restrictions
abbrev pub allowed : Bool → Result (ℕ × Access) MemoryFault → Result (ℕ × Access) MemoryFault
allowed for_write (Ok found) = if for_write && not (found.1.0 == 0) then Err ReadOnly else Ok found
allowed for_write (Err why) = Err why
