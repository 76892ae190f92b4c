-- The plan of an order on a kernel object, before anything changes.
use Rattle.gate.specs.Names.{ℕ, Option, None, Some, List, IsTrue, Capability, Number, Page, Node, Space, Process}
use Rattle.gate.specs.Names.{Geometry, Object, Arguments, named, OrderOutcome, IsNoBankOrder, IsKeptCap, is_node}
use Rattle.gate.specs.Names.{IsSpace, annex_at, content_at, is_process, Change, OrderPlan, changed, outcome_by}
use Rattle.gate.specs.Names.{written_of, numbers_of, MayMake, reply_of_code, union, reduces, []}
use Rattle.std.specs.Prelude.{◌≡◌, ◌⊎◌, ◌<◌, ◌≤◌, ◌∷◌, if◌then◌else◌}
use Rattle.capability.specs.declared.order.Change.TheVariants as change
use Rattle.model.specs.declared.order.ResultCode.TheVariants as code

-- the outcome of a planned order that changes at most one object
abbrev pub outcome_of : List Object → OrderPlan → OrderOutcome
outcome_of os plan = outcome_by os (written_of plan.change) plan

-- an outcome has the code, objects and written numbers of a plan
pub record ChangesAs (os : List Object) (plan : OrderPlan) (outcome : OrderOutcome) : Type 0 where
  pub code : outcome.code ≡ plan.reply.code
  pub objects : outcome.objects ≡ changed os (written_of plan.change) plan.change
  pub written : outcome.written ≡ written_of plan.change

-- a page, node or space capability with the restrictions of a word added; `None` if the word is no access, or the
-- capability of another kind
abbrev pub reduced : Capability → ℕ → Option Capability
reduced (Page o a) w = if reduces w then Some (Page o (union a w)) else None
reduced (Node o a) w = if reduces w then Some (Node o (union a w)) else None
reduced (Space o h a) w = if reduces w then Some (Space o h (union a w)) else None
reduced _ w = None

-- the plan of the order that adds the restrictions of a word to a capability
abbrev pub reduction : Capability → ℕ → OrderPlan
reduction c w = elim (reduced c w) [
  | Some less ↦ record {
    reply = record { code = code.Done; words = 0 ∷ 0 ∷ 0 ∷ []; capability = less };
    change = change.Nothing;
  }
  | None ↦ record { reply = reply_of_code code.BadIndex; change = change.Nothing }
]

-- each process has the same annex in us as in os
abbrev pub HaveAnnexesOf : List Object → List Object → Type 0
HaveAnnexesOf os us = (p : ℕ) → annex_at us p ≡ annex_at os p

-- the node that a node capability names; the process that a process capability names
abbrev pub node_named : Capability → Option ℕ
node_named (Node n a) = Some n
node_named _ = None

abbrev pub process_named : Capability → Option ℕ
process_named (Process p) = Some p
process_named _ = None

-- A change that an order on capability c may make: in the object that c names or, if this is a process, in its
-- annex; within bounds, and with the capability that was sent.
abbrev pub IsFor : List Object → Capability → Arguments → Change → Type 0
IsFor os c args change.Nothing = Unit {0}
IsFor os c args (change.Word page index word) = (index < 512) × (named c ≡ Some page)
IsFor os c args (change.Slot node slot held) = (slot < 32) × (node_named c ≡ Some node) ×
    ((held ≡ args.capability) ⊎ (held ≡ Number args.second))
IsFor os c args (change.Register process annex register held) =
    (register < 32) × (1 ≤ register) × (process_named c ≡ Some process) × (annex ≡ annex_at os process) ×
    (held ≡ args.capability)
IsFor os c args (change.RootWord process index word) = (index < 4) × (process_named c ≡ Some process)
IsFor os c args (change.SetState process state) = process_named c ≡ Some process
IsFor os c args (change.Space process held) = (process_named c ≡ Some process) × (held ≡ args.capability) × IsSpace held
IsFor os c args (change.Bank made) = ⊥

-- word w is an order that needs no object: c isn't a page, node, space or process, nor a bank with order w
abbrev pub IsPlain : Capability → ℕ → Type 0
IsPlain (Page o a) w = ⊥
IsPlain (Node o a) w = ⊥
IsPlain (Space o h a) w = ⊥
IsPlain (Process p) w = ⊥
IsPlain c w = IsNoBankOrder c w

-- the index of a change is within its object
abbrev pub IsWithinObject : Change → Type 0
IsWithinObject (change.Word page index word) = index < 512
IsWithinObject (change.Slot node slot held) = slot < 32
IsWithinObject (change.Register process annex register held) = (register < 32) × (1 ≤ register)
IsWithinObject (change.RootWord process index word) = index < 4
IsWithinObject (change.Bank made) = ⊥
IsWithinObject _ = Unit {0}

-- a change of a root names a process
abbrev pub IsOfProcess : List Object → Change → Type 0
IsOfProcess os (change.RootWord process index word) = IsTrue (is_process os process)
IsOfProcess os (change.SetState process state) = IsTrue (is_process os process)
IsOfProcess os (change.Space process held) = IsTrue (is_process os process)
IsOfProcess os _ = Unit {0}

-- a capability fits a geometry: it may be kept with count 0
abbrev pub FitsCap : Geometry → Capability → Type 0
FitsCap g c = IsKeptCap g 0 (record { what = c; count = 0 })

-- a change stores only a capability that fits, and only in a node, a register or an address space
abbrev pub MayHold : Geometry → List Object → Change → Type 0
MayHold g os (change.Slot node slot held) = FitsCap g held × IsTrue (is_node (content_at os node))
MayHold g os (change.Register process annex register held) = FitsCap g held
MayHold g os (change.Space process held) = FitsCap g held × IsSpace held
MayHold g os _ = Unit {0}

-- a change of one object may be made, and writes these numbers
pub record MayEdit (g : Geometry) (os : List Object) (list : List ℕ) (c : Change) : Type 0 where
  pub within : IsWithinObject c
  pub process : IsOfProcess os c
  pub holds : MayHold g os c
  pub listed : list ≡ written_of c

-- a change may be made, and its order writes the numbers of the list
abbrev pub MayChange : Geometry → List Object → List ℕ → Change → Type 0
MayChange g os list (change.Bank made) = MayMake g os list made
MayChange g os list c = MayEdit g os list c

-- the numbers that must be fetched for a change
abbrev pub fetched_of : Change → List ℕ
fetched_of (change.Bank made) = numbers_of made
fetched_of c = written_of c
