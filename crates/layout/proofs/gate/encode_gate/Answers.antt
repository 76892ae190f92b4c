use Rattle.layout.proofs.Names.{arith, nat_tests, ℕ, List, set, refl, ap, Gate, Closed, Open, zeros, gate_bytes}
use Rattle.std.proofs.Common.{◌≡◌, ◌∷◌, ◌∙◌}
use Rattle.layout.proofs.gate.encode_gate.Goals as goal

one_zero : zeros 512 ≡ 0 ∷ zeros 511
unfolding zeros
one_zero = refl

abbrev first_byte : Gate → ℕ
first_byte Closed = 0
first_byte Open = 1

first_set : (g : Gate) (bytes : List ℕ) → bytes ≡ zeros 512 → set bytes 0 (first_byte g) ≡ gate_bytes g
first_set g bytes e = grind (arith, nat_tests, one_zero)

tag_is : (g : Gate) (bytes : List ℕ) → set bytes 0 (first_byte g) ≡ gate_bytes g →
    set bytes 0 (denote.Enum.Declared.tag_of Rattle.layout.specs.contracts.gate.Gate.the_type g) ≡ gate_bytes g
tag_is g bytes e = grind (arith, nat_tests)

pub returns : goal.returns
returns c = tag_is c.args.gate c.blank.new.bytes (first_set c.args.gate c.blank.new.bytes (c.blank.ensures ∙ ap zeros c.requires))
