-- An invocation of a kernel object: the plan of its order, the change, and the reply.
use Rattle.gate.specs.Names.{ℕ, true, List, drop, length, slice_index, slice_index_or, All, Capability, Void}
use Rattle.gate.specs.Names.{Invocation, Operation, Call, Return, Geometry, Object, Available, Arguments, deliver}
use Rattle.gate.specs.Names.{sent_by, order, annex_at, is_process, is_running_process, with_state, IsNow, SameFrame}
use Rattle.gate.specs.Names.{Caller, OrderPlan, Reply, changed, message_of, outcome_by, Parts, Renews, writer_count}
use Rattle.gate.specs.Names.{writers}
use Rattle.std.specs.Prelude.{◌≡◌, ◌⊎◌, ◌<◌, ◌++◌, if◌then◌else◌}
use Rattle.gate.specs.Plan.{MayChange}

-- the arguments of the order that an invocation requests
abbrev pub arguments_of : List Object → Invocation → Arguments
arguments_of os i = record {
  first = slice_index i.words 1;
  second = slice_index i.words 2;
  capability = slice_index_or (sent_by os i) 0 Void;
}

-- order w on capability c reads only the two words of its arguments
abbrev pub ReadsOnlyWords : Capability → ℕ → Type 0
ReadsOnlyWords c w = (g : Geometry) (us : List Object) (a b : Arguments) → a.first ≡ b.first → a.second ≡ b.second →
    order g us c w a ≡ order g us c w b

-- Arguments that are enough for an invocation's order: the words of the invocation, and the capability that is sent.
-- It may be void if the order reads only words.
pub record AreEnough (os : List Object) (i : Invocation) (c : Capability) (args : Arguments) : Type 0 where
  pub first : args.first ≡ (arguments_of os i).first
  pub second : args.second ≡ (arguments_of os i).second
  pub sent : (args.capability ≡ (arguments_of os i).capability) ⊎ (args.capability ≡ Void)
  pub orders : (g : Geometry) (us : List Object) → order g us c (slice_index i.words 0) args
      ≡ order g us c (slice_index i.words 0) (arguments_of os i)

-- the objects on which the order is carried out: a process that returns is available
abbrev pub state_before : Operation → List Object → ℕ → List Object
state_before operation os p = elim operation [ Return ↦ with_state os p Available | _ ↦ os ]

-- the objects after the reply to a process that called; the reply is dropped if the process no longer runs
abbrev pub answered : Operation → ℕ → List Object → Reply → List Object
answered operation p os reply = elim operation
    [ Call ↦ if is_running_process os p then deliver os p (message_of reply) else os | _ ↦ os ]

-- the objects after the order of this caller; `list` has the numbers that the order writes
abbrev pub ordered_by : List Object → Caller → List ℕ → OrderPlan → List Object
ordered_by os caller list plan = changed (state_before caller.operation os caller.process) list plan.change

-- the objects after the order of this caller, and the reply
abbrev pub finished : List Object → Caller → List ℕ → OrderPlan → List Object
finished os caller list plan = answered caller.operation caller.process (ordered_by os caller list plan) plan.reply

-- The plan of an order; `list` has the numbers that the order writes. Words, slots and states may change before the
-- order is carried out: it still has the plan's code and makes the plan's change, which may still be made.
pub record Plans (g : Geometry) (os : List Object) (c : Capability) (word : ℕ) (args : Arguments) (list : List ℕ)
    (plan : OrderPlan) : Type 0 where
  pub here : order g os c word args ≡ outcome_by os list plan
  pub code : (us : List Object) → SameFrame os us → (order g us c word args).code ≡ plan.reply.code
  pub objects : (us : List Object) → SameFrame os us → (order g us c word args).objects ≡ changed us list plan.change
  pub written : (us : List Object) → SameFrame os us → (order g us c word args).written ≡ list
  pub may : (us : List Object) → SameFrame os us → IsNow g us → MayChange g us list plan.change
  pub annex : (us : List Object) → SameFrame os us → (p : ℕ) → is_process us p ≡ true →
      is_process (changed us list plan.change) p ≡ true
      → annex_at (changed us list plan.change) p ≡ annex_at us p
  pub known : All (λ n. n < length os) list

-- a plan; `list` has the numbers that the invocation writes itself, then those that its order writes
pub record IsPlanned (g : Geometry) (os : List Object) (i : Invocation) (caller : Caller) (plan : OrderPlan)
    (list : List ℕ) : Type 0 where
  pub plans : Plans g os caller.invoked (slice_index i.words 0) (arguments_of os i)
      (drop (writer_count caller.operation) list) plan
  pub listed : list ≡ writers caller.operation caller.process caller.annex ++ drop (writer_count caller.operation) list

-- Geometry, touched numbers and failures stay. Allocation counts rise for freed objects only. The parameters are the
-- ghost members of a store of present frames.
pub record GoesOnBeside {S : Type 0} (parts : S → Parts) (Continues : S → S → Type 0) (old new : S) : Type 0 where
  pub renews : Renews (parts old) (parts new)
  pub touched : (parts new).touched ≡ (parts old).touched
  pub geometry : (parts new).geometry ≡ (parts old).geometry
  pub failures : (parts new).failures ≡ (parts old).failures
  pub continues : Continues old new
