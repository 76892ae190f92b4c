-- The walk through an address space to a page.
use Rattle.std.specs.Prelude.{ℕ, zero, suc, ◌+◌, ◌/◌, ◌%◌, ◌^◌, ◌==◌, nat_lt, if◌then◌else◌, List, [], ◌∷◌, Result, Ok}
use Rattle.std.specs.Prelude.{Err}
use Rattle.model.specs.declared.access.Access.{Access}
use Rattle.model.specs.declared.answer.MemoryFault.{MemoryFault}
use Rattle.model.specs.declared.answer.MemoryFault.TheVariants.{NoSpace, Beyond, Hole, Malformed}
use Rattle.model.specs.declared.capability.Capability.{Capability}
use Rattle.model.specs.declared.capability.Capability.TheVariants.{Void, Page, Space}
use Rattle.model.specs.declared.object.Object.{Object}
use Rattle.model.specs.Capability.{union}
use Rattle.model.specs.World.{slot_at}

-- the slots on the way to a page in a tree of this height: the digits of the page's index to base 32, highest first
abbrev pub path : ℕ → ℕ → List ℕ
path zero index = []
path (suc height) index = index / 32 ^ height % 32 ∷ path height index

-- the page that is reached, with the restrictions of one more capability on the way
abbrev pub restricted : Access → Result (ℕ × Access) MemoryFault → Result (ℕ × Access) MemoryFault
restricted a (Ok reached) = Ok (reached.0, union a reached.1.0)
restricted a (Err fault) = Err fault

-- one level down from a space of this height: a page at height 1, else a space one less high; `rest` is the walk below
abbrev pub below : ℕ → Access → Capability → Result (ℕ × Access) MemoryFault → Result (ℕ × Access) MemoryFault
below height a Void rest = Err Hole
below height a (Page o b) rest = if height == 1 then restricted a rest else Err Malformed
below height a (Space o h b) rest = if height == h + 1 then restricted a rest else Err Malformed
below height a _ rest = Err Malformed

-- the page at the end of a list of slots, and the union of the accesses on the way
abbrev pub walk_along : List Object → Capability → List ℕ → Result (ℕ × Access) MemoryFault
walk_along os (Page o a) [] = Ok (o, a)
walk_along os (Space o h a) (slot ∷ slots) = below h a (slot_at os o slot) (walk_along os (slot_at os o slot) slots)
walk_along os _ _ = Err Malformed

-- the page with this index in an address space (EROS: address spaces are trees of nodes)
unfoldable pub walk : List Object → Capability → ℕ → Result (ℕ × Access) MemoryFault
walk os Void index = Err NoSpace
walk os (Page o a) index = if index == 0 then Ok (o, a) else Err Beyond
walk os (Space o h a) index = if nat_lt index (32 ^ h) then walk_along os (Space o h a) (path h index) else Err Beyond
walk os _ index = Err Malformed
