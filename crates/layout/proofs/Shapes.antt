-- How many sectors frames take, and which bytes in them.
use Rattle.layout.proofs.Names.{nat_tests, ℕ, ap, arith, Geometry, Image, Shape, Version, IsShapeFor, node_shape, page_shape, shaped_at, shape_length}
use Rattle.layout.proofs.Names.{shape_bytes, Plan, place_length, row}
use Rattle.std.proofs.Common.{◌≡◌, ◌+◌, ◌<◌, ◌≤◌}
use Rattle.layout.proofs.Sectors.{same_sectors}

-- no frame takes more than a slot of the log
pub few_sectors : (p : Plan) (n : ℕ) → place_length p n ≤ 9
few_sectors p n = grind (arith, nat_tests)

-- the shape of a rank within a cluster fits a node's number
pub node_fits : (v : Version) (g : Geometry) (n rank : ℕ) → n < g.nodes → rank < (row v).cluster_nodes → IsShapeFor g n (node_shape v rank)
node_fits v g n rank lt below = grind (arith, nat_tests)

-- the shape of a page fits a page's number
pub page_fits : (v : Version) (g : Geometry) (n : ℕ) → g.nodes ≤ n → IsShapeFor g n (page_shape v)
page_fits v g n le = grind (arith, nat_tests)

-- the bytes of a frame depend only on its block's sectors
pub same_shaped : (at : ℕ) (s : Shape) (old new : Image) → ((i : ℕ) → i < shape_length s → new (at + i) ≡ old (at + i)) →
    shaped_at new at s ≡ shaped_at old at s
same_shaped at s old new same = ap (shape_bytes s) (same_sectors at (shape_length s) old new same)
