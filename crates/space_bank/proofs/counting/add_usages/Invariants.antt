use Rattle.space_bank.proofs.Names.{ℕ, length, IsTrue, is_bank, content_at, objects_in}
use Rattle.std.proofs.Common.{◌≡◌, slice_index}
use Rattle.space_bank.proofs.Missing.{used_below}
use Rattle.space_bank.proofs.counting.add_usages.Given as goal

abbrev pub invariant-loop-number : goal.invariant-loop-number
invariant-loop-number g l =
    let os = objects_in (g.F.Frames.parts l.store) in
    record {
      size : length l.usages ≡ length l.initial.usages;
      each : (b : ℕ) → IsTrue (is_bank (content_at os b)) → slice_index l.usages b ≡ used_below os b l.number;
    }
