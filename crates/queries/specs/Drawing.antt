-- What `draw` writes.
use Rattle.queries.specs.Names.{Written, Wrote, ℕ, Bool, true, false, Option, None, Some, List, [], Result, Ok, Err}
use Rattle.queries.specs.Names.{Object, objects_of, is_process, Disk, WroteFront, Description, boxes, graph_text}
use Rattle.queries.specs.Names.{IsPart, holders, is_listed, is_member, IsReach, Fault, Purpose, links}
use Rattle.std.specs.Prelude.{◌≡◌, ◌∷◌}
use Rattle.queries.specs.declared.drawing.Focus.{Focus}
use Rattle.jobs.specs.declared.fault.Fault.TheVariants as fault
use Rattle.queries.specs.Images.{IsDescriptionOf, TellsImage}

-- with a number, it has a box, and e is the part of d with its object and the object's holders; without one, e is d
abbrev pub IsHeldTo : Option ℕ → Description → Description → Type 0
IsHeldTo None d e = e ≡ d
IsHeldTo (Some o) d e = (is_listed o (boxes d) ≡ true) × (inside : ℕ → Bool) ×
    ((n : ℕ) → inside n ≡ is_listed n (holders o d)) × IsPart inside d e

-- with a process, e is the part of d that the process reaches; without one, e is d
abbrev pub IsReachedFrom : List Object → Option ℕ → Purpose → Description → Description → Type 0
IsReachedFrom os None by d e = e ≡ d
IsReachedFrom os (Some p) by d e = (is_process os p ≡ true) × (inside : ℕ → Bool)
    × IsReach os (links by (is_member [])) (p ∷ []) inside × IsPart inside d e

-- e is d with both restrictions
abbrev pub IsFocus : List Object → Focus → Description → Description → Type 0
IsFocus os focus d e = (m : Description) × IsHeldTo focus.to d m × IsReachedFrom os focus.from focus.purpose m e

-- a description was restricted to an object and its holders; or the number has no box; or memory ran out
abbrev pub KeepsHolders : Option ℕ → Description → Description → Result (Unit {0}) Fault → Type 0
KeepsHolders to d e (Ok a) = IsHeldTo to d e
KeepsHolders to d e (Err (fault.NoObject o)) = (to ≡ Some o) × (is_listed o (boxes d) ≡ false)
KeepsHolders to d e (Err fault.NoMemory) = Unit {0}
KeepsHolders to d e (Err _) = ⊥

-- a description was restricted to what a process reaches; or the number isn't a process's; or memory ran out
abbrev pub KeepsReached : List Object → Option ℕ → Purpose → Description → Description → Result (Unit {0}) Fault →
    Type 0
KeepsReached os from by d e (Ok a) = IsReachedFrom os from by d e
KeepsReached os from by d e (Err (fault.NoProcess p)) = (from ≡ Some p) × (is_process os p ≡ false)
KeepsReached os from by d e (Err fault.NoMemory) = Unit {0}
KeepsReached os from by d e (Err _) = ⊥

-- a number of the focus is wrong: it has no box, or isn't a process's
abbrev pub IsNoFocus : List Object → Focus → Description → Fault → Type 0
IsNoFocus os focus d (fault.NoObject o) = (focus.to ≡ Some o) × (is_listed o (boxes d) ≡ false)
IsNoFocus os focus d (fault.NoProcess p) = (focus.from ≡ Some p) × (is_process os p ≡ false)
IsNoFocus os focus d _ = ⊥

-- a description was restricted to the part that the focus selects; or the fault says why not
abbrev pub KeepsPart : List Object → Focus → Description → Description → Result (Unit {0}) Fault → Type 0
KeepsPart os focus d e (Ok a) = IsFocus os focus d e
KeepsPart os focus d e (Err fault.NoMemory) = Unit {0}
KeepsPart os focus d e (Err why) = IsNoFocus os focus d why

-- the graph of a part was written
abbrev pub TellsPart : List Object → Focus → Description → (List ℕ → Type 0) → Type 0
TellsPart os focus d Reported = (e : Description) × IsFocus os focus d e × Reported (graph_text os e)

-- the graph of a part was written; or the fault says why not
abbrev pub DrawsPart : List Object → Focus → Description → Written → Written → Result (Unit {0}) Fault →
    Type 0
DrawsPart os focus d output output_left (Ok a) = TellsPart os focus d (Wrote output output_left)
DrawsPart os focus d output output_left (Err fault.CannotWriteOutput) = TellsPart os focus d
    (WroteFront output output_left)
DrawsPart os focus d output output_left (Err fault.NoMemory) = output_left ≡ output
DrawsPart os focus d output output_left (Err why) = IsNoFocus os focus d why × (output_left ≡ output)

-- the graph of a part of the saved state was written; or it couldn't be written whole; or a number of
-- the focus is wrong; or the device wasn't opened, or memory ran out
abbrev pub DrawsImage : {D : Type 0} → (D → Disk) → Focus → D → D → Written → Written →
    Result (Unit {0}) Fault → Type 0
DrawsImage disk focus device back output output_left outcome = TellsImage disk device back output output_left
    (λ s o. (d : Description) × IsDescriptionOf s.plan s.header.age s.frames d
    × DrawsPart (objects_of s.frames) focus d output output_left o) outcome
