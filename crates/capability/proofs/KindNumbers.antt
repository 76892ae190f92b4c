-- A content's kind determines which numbers it may have.
use Rattle.capability.proofs.Names.{arith, ℕ, true, nat_tests, Capability, Geometry, Content, is_bank, is_node, is_page, is_root, IsOfKind, object_count}
use Rattle.std.proofs.Common.{◌≡◌, ◌<◌, ◌≤◌}

pub node_number : (g : Geometry) (n : ℕ) (c : Content Capability) → IsOfKind g n c → is_node c ≡ true → n < g.nodes
node_number g n c kind is = grind (arith, nat_tests)

pub root_number : (g : Geometry) (n : ℕ) (c : Content Capability) → IsOfKind g n c → is_root c ≡ true → n < g.nodes
root_number g n c kind is = grind (arith, nat_tests)

pub bank_number : (g : Geometry) (n : ℕ) (c : Content Capability) → IsOfKind g n c → is_bank c ≡ true → n < g.nodes
bank_number g n c kind is = grind (arith, nat_tests)

pub page_number : (g : Geometry) (n : ℕ) (c : Content Capability) → IsOfKind g n c → is_page c ≡ true → (g.nodes ≤ n) × (n < object_count g)
page_number g n c kind is = grind (arith, nat_tests)
