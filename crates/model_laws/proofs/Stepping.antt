-- Steps of the machine: which the specification allows, and which may be answered `no memory`.
use Rattle.model_laws.proofs.Names.{nat_tests, Command, Geometry, refusal_of, carried_out, StepsAllowed, WantsMemoryToShow, Some, arith}
use Rattle.model.specs.Machine.{Running}
use Rattle.std.proofs.Common.{◌≡◌}
use Rattle.model.specs.declared.answer.Answer.TheVariants as answer
use Rattle.model.specs.declared.answer.Refusal.TheVariants as refusal

pub steps_allowed : StepsAllowed
unfolding refusal_of
steps_allowed g is c a after step = grind (arith, nat_tests)

-- `refusal_of` never gives `NoMemory`
refused_otherwise : (g : Geometry) (s : Running) (c : Command) → refusal_of g s c ≡ Some refusal.NoMemory → ⊥
unfolding refusal_of
refused_otherwise g s c is = grind arith

carried_otherwise : (g : Geometry) (s : Running) (c : Command) → (carried_out g s c).answer ≡ answer.Refused refusal.NoMemory → ⊥
unfolding carried_out
carried_otherwise g s c is = grind arith

pub wants_memory_to_show : WantsMemoryToShow
wants_memory_to_show g is c after step = grind (arith, nat_tests, refused_otherwise, carried_otherwise)
