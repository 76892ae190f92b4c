-- Which objects begin a unit, and how many nodes it has.
use Rattle.home_ranges.proofs.Names.{ℕ, Bool, Option, Some, None, HomeRange, Plan, Shape, Version, arith, nat_tests, nat_lt, sym, ap, true, false, shape_of}
use Rattle.home_ranges.proofs.Names.{range_with, rank_in, row, min, node_shape, page_shape}
use Rattle.std.proofs.Common.{◌≡◌, ◌+◌, ◌-◌, ◌≤◌, ◌<◌, ◌∙◌}
use Rattle.std.specs.Prelude.{◌==◌, if◌then◌else◌}
use Rattle.layout.specs.sealed.Units.{begins_unit, cluster_count}

-- the first node of a cluster has its frame at the front of the block; so has a page
offset_by : (v : Version) (node : Bool) (rank : ℕ) →
    ((if node then node_shape v rank else page_shape v).offset == 0) ≡ (if node then rank == 0 else true)
offset_by v node rank = grind (arith, nat_tests)

pub offset_begins : (p : Plan) (number : ℕ) (s : Shape) → s ≡ shape_of p number → (s.offset == 0) ≡ begins_unit p number
offset_begins p number s is =
    ap (λ (t : Shape). t.offset == 0) is
    ∙ offset_by p.version (nat_lt number p.geometry.nodes) (rank_in p.version (range_with p.ranges number) number)
