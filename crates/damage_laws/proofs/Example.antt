-- The example is good.
use Rattle.damage_laws.proofs.Names.{ℕ, zero, suc, refl, inl, arith, length-replicate, blank_frame, number, words_bytes, copies, gate_numbers}
use Rattle.damage_laws.proofs.Names.{numbered_gate_bytes, written_has, ExampleIsGood, example, example_header, HasWholeGate}
use Rattle.std.proofs.Common.{◌≡◌, ◌<◌}
use Rattle.damage_laws.proofs.ExampleBytes.{example_whole}
use Rattle.damage_laws.proofs.ExampleFrames.{example_each, example_has_units}
use Rattle.damage_laws.proofs.ExampleParts.{example_has_directory, example_has_header, example_has_plan}

zero_copies : copies 0 (gate_numbers (numbered_gate_bytes 0)) ≡ 64
unfolding gate_numbers numbered_gate_bytes words_bytes number
zero_copies = refl

gates : (k : ℕ) → k < 3 → HasWholeGate example k
gates zero lt = inl (0, omega (arith, zero_copies))
gates (suc zero) lt = (written_has 1 (omega arith) (omega arith)).1
gates (suc (suc zero)) lt = (written_has 2 (omega arith) (omega arith)).1
gates (suc (suc (suc k))) lt = absurd (omega (arith, lt))

pub example_good : ExampleIsGood
example_good = (
  record {
    device = example_whole;
    encodes = record {
      plan = example_has_plan;
      commit = example_header 2;
      same = refl;
      header = example_has_header;
      directory = example_has_directory;
      count = length-replicate 17 blank_frame;
      each = example_each;
      units = λ is. example_has_units;
    };
    sealed = refl;
  },
  gates,
)
