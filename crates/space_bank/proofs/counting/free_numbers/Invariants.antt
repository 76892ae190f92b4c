use Rattle.space_bank.proofs.Names.{ℕ, length, is_free, content_at, objects_in, is_marked}
use Rattle.std.proofs.Common.{◌≡◌, ◌+◌, ◌<◌}
use Rattle.space_bank.proofs.counting.free_numbers.Given as goal

abbrev pub invariant-loop-number : goal.invariant-loop-number
invariant-loop-number g l =
    let os = objects_in (g.F.Frames.parts l.store) in
    record {
      size : length l.numbers ≡ l.count;
      each : (n : ℕ) → n < l.number → is_marked l.numbers n ≡ is_free (content_at os (l.first + n));
    }
