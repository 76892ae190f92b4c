use Rattle.space_bank.proofs.Names.{length, vec_len, filter, range_with_len, vec_capacity, objects_in, is_listed}
use Rattle.std.proofs.Common.{◌≡◌, ◌≤◌, ◌+◌, ◌-◌, ◌++◌}
use Rattle.space_bank.proofs.listing.list_all.Given as goal

abbrev pub invariant-loop-number : goal.invariant-loop-number
invariant-loop-number g l =
    let os = objects_in (g.F.Frames.parts l.store) in
    record {
      listed : l.listed.items ≡ l.initial.listed.items ++ filter (is_listed os l.bank l.deep) (range_with_len 0 l.from);
      count : vec_len l.listed ≤ vec_len l.initial.listed + (l.from - 1);
      room : vec_capacity l.listed ≡ vec_capacity l.initial.listed;
      within : l.from ≤ length os;
    }

abbrev pub decreases-loop-number : goal.decreases-loop-number
decreases-loop-number g l = length (objects_in (g.F.Frames.parts l.store)) - l.from
