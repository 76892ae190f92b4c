-- The outcome of an order on a kernel object.
use Rattle.std.specs.Prelude.{ℕ, List, [], ◌∷◌}
use Rattle.model.specs.declared.capability.Capability.{Capability}
use Rattle.model.specs.declared.capability.Capability.TheVariants.{Void}
use Rattle.model.specs.declared.object.Object.{Object}
use Rattle.model.specs.declared.order.ResultCode.{ResultCode}
use Rattle.model.specs.declared.order.ResultCode.TheVariants as code

-- the outcome of an order: code, words after it, and capability of the reply; the objects; the numbers written
pub record OrderOutcome : Type 0 where
  pub code : ResultCode
  pub words : List ℕ
  pub capability : Capability
  pub objects : List Object
  pub written : List ℕ

-- a result code as the first result word
abbrev pub code_number : ResultCode → ℕ
code_number code.Done = 0
code_number code.NoOrder = 1
code_number code.NoAccess = 2
code_number code.BadIndex = 3
code_number code.BadCapability = 4
code_number code.Limit = 5
code_number code.NoFrame = 6
code_number code.TooDeep = 7
code_number code.VoidCapability = 8
code_number code.NotFromThisBank = 9
code_number code.PrimeBank = 10

-- the outcome of an order that isn't carried out: nothing changes, and the reply is the code alone
abbrev pub refused : List Object → ResultCode → OrderOutcome
refused os why = record { code = why; words = 0 ∷ 0 ∷ 0 ∷ []; capability = Void; objects = os; written = [] }

-- the outcome of an order that replies two words
abbrev pub replying : List Object → ℕ → ℕ → OrderOutcome
replying os first second =
    record { code = code.Done; words = first ∷ second ∷ 0 ∷ []; capability = Void; objects = os; written = [] }

-- the outcome of an order that gives a capability
abbrev pub given : List Object → Capability → OrderOutcome
given os c = record { code = code.Done; words = 0 ∷ 0 ∷ 0 ∷ []; capability = c; objects = os; written = [] }

-- the outcome of an order that writes object n
abbrev pub wrote : List Object → ℕ → OrderOutcome
wrote os n = record { code = code.Done; words = 0 ∷ 0 ∷ 0 ∷ []; capability = Void; objects = os; written = n ∷ [] }

-- the outcome of an order that replies three words
abbrev pub replying_three : List Object → ℕ → ℕ → ℕ → OrderOutcome
replying_three os first second third =
    record { code = code.Done; words = first ∷ second ∷ third ∷ []; capability = Void; objects = os; written = [] }

-- the outcome of an order that writes these objects and gives a capability
abbrev pub made : List Object → List ℕ → Capability → OrderOutcome
made os written c = record { code = code.Done; words = 0 ∷ 0 ∷ 0 ∷ []; capability = c; objects = os; written = written }
