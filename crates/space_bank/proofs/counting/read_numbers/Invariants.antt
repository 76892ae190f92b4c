use Rattle.space_bank.proofs.Names.{map, vec_len, range_with_len, vec_capacity, content_at, objects_in, kept_number}
use Rattle.std.proofs.Common.{◌≡◌, ◌≤◌}
use Rattle.space_bank.proofs.counting.read_numbers.Given as goal

abbrev pub invariant-loop-number : goal.invariant-loop-number
invariant-loop-number g l =
    let os = objects_in (g.F.Frames.parts l.initial.store) in
    record {
      kept : l.kept.items ≡ map (λ n. kept_number l.role (content_at os n)) (range_with_len 0 l.number);
      size : vec_len l.kept ≡ l.number;
      room : l.count ≤ vec_capacity l.kept;
      same : g.F.Frames.parts l.store ≡ g.F.Frames.parts l.initial.store;
      continues : g.F.Frames.ContinuesTo l.initial.store l.store;
    }
