-- A property holds of a result if it holds in each case: of a choice, or of an invocation.
use Rattle.model_laws.proofs.Names.{arith, nat_tests, Bool, true, false, Option, None, Some, List, ℕ, IsTrue, Capability, Resume, Start, Invocation, Geometry}
use Rattle.model_laws.proofs.Names.{Object, State, Effect, after_gate, after_order, can_start, deliver, invoke, on_kernel_object, replied, reply_of}
use Rattle.model_laws.proofs.Names.{through_gate, OrderOutcome, consume, is_running_process, register_at, with_state}
use Rattle.std.proofs.Common.{◌≡◌}
use Rattle.std.specs.Prelude.{if◌then◌else◌}

module _ {X : Type 0} (P : X → Type 0) where
  -- a property of two values holds of the one that a test chooses
  pub one_of : (b : Bool) (x y : X) → P x → P y → P (if b then x else y)
  one_of b x y p q = grind (arith, nat_tests)

  pub chosen : (b : Bool) (x y : X) → (b ≡ true → P x) → (b ≡ false → P y) → P (if b then x else y)
  chosen b x y p q = grind (arith, nat_tests)

  -- a property holds of either result of a choice on an option
  pub found_or : {A : Type 0} (found : Option A) (x : X) (f : A → X) → P x → ((a : A) → P (f a)) →
      P (elim found [ None ↦ x | Some a ↦ f a ])
  found_or {A} found x f p q = grind (arith, nat_tests)

module _ (P : List Object → Type 0) (os : List Object) (i : Invocation) where
  -- a property holds after the invoker's state changes if it holds of the same objects, and of those in each other state
  pub after_gate_by : P os → ((s : State) → P (with_state os i.process s)) → P (after_gate os i)
  after_gate_by same state = grind (arith, nat_tests)

  pub after_order_by : P os → ((s : State) → P (with_state os i.process s)) → P (after_order os i)
  after_order_by same state = grind (arith, nat_tests)

  -- a property holds after a reply if it holds whether the reply is delivered or dropped
  pub replied_by : (o : OrderOutcome) → P os → (IsTrue (is_running_process os i.process) → P (deliver os i.process (reply_of o))) →
      P (replied os i o)
  replied_by o same delivered = grind (arith, nat_tests)

  -- the property holds of the objects after the effect, if there is one
  abbrev Gives : Effect → Option Effect → Type 0
  Gives e o = o ≡ Some e → P e.objects

  -- a property holds after an invocation if it holds after each kind: a start, a resume, an order of a kernel object
  pub invoked_by : (Q : Capability → Type 0) (g : Geometry) (e : Effect) → Q (register_at os i.process i.register) →
      ((q key : ℕ) → Q (Start q key) → can_start os i q ≡ true → P (through_gate os i q key).objects) →
      ((q : ℕ) → Q (Resume q) → P (consume q (through_gate os i q 0).objects)) →
      P (on_kernel_object g os i).objects → invoke g os i ≡ Some e → P e.objects
  unfolding invoke
  invoked_by Q g e held starts resumes asks done = grind (arith, nat_tests)
