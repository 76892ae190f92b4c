use Rattle.script.proofs.Names.{arith, nat_tests, ℕ, [], codes, ap, decimal, MemoryFault, printed, line_of, spaced, fault_number, the_type}
use Rattle.std.proofs.Common.{◌≡◌, ◌+◌, ◌∷◌}
use denote.Enum.Declared.{tag_of}
use Rattle.script.proofs.Fronts.{writes_same}
use Rattle.script.proofs.print.print_answer.Goals as goal

-- the printed number of a memory fault follows from its tag
fault_number_is : (f : MemoryFault) → tag_of the_type f + 1 ≡ fault_number f
fault_number_is f = grind (arith, nat_tests)

pub returns-in-MemoryFault : goal.returns-in-MemoryFault
unfolding printed
returns-in-MemoryFault g c = writes_same _ _ _ _ _ (rw (c.in-MemoryFault.is)
    (ap (λ (k : ℕ). line_of (spaced (codes "memory" ∷ codes "fault" ∷ decimal k ∷ []))) (fault_number_is _))) c.print_numbered.ensures
