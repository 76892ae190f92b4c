-- Sealed clusters of nodes.
use Rattle.std.specs.Prelude.{◌≡◌, ℕ, ◌-◌, ◌*◌, List, take, drop}
use Rattle.layout.specs.Bytes.{zeros}
use Rattle.seal.specs.Seal.{IsSealed}

-- a cluster is sealed, and has zeros between its frames and its seal
pub record IsCluster (nodes : ℕ) (bytes : List ℕ) : Type 0 where
  pub seal : IsSealed bytes
  pub blank : take (4072 - 800 * nodes) (drop (800 * nodes) bytes) ≡ zeros (4072 - 800 * nodes)
