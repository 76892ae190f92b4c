-- Banks: their chains and their usages.
use Rattle.model.specs.Names.{ℕ, zero, suc, Bool, not, List, [], nat_eq, list_any, count_by, enumerate_from}
use Rattle.std.specs.Prelude.{◌==◌, ◌&&◌, if◌then◌else◌, ◌∷◌}
use Rattle.model.specs.declared.object.Object.{Object}
use Rattle.model.specs.Object.{is_free}
use Rattle.model.specs.World.{owner_at}

-- a bank, its owner, the owner's owner and so on up to the prime bank, number 0; at most k of them
abbrev pub chain_within : ℕ → List Object → ℕ → List ℕ
chain_within zero os b = []
chain_within (suc k) os b = b ∷ (if b == 0 then [] else chain_within k os (owner_at os b))

-- the chain of a bank, cut after 16 banks: in a sound world it has reached number 0 by then
unfoldable pub chain : List Object → ℕ → List ℕ
chain os b = chain_within 16 os b

-- whether bank b is in the chain of an object's owner; used only for objects other than b
abbrev pub is_under : List Object → ℕ → Object → Bool
is_under os b object = not (is_free object.content) && list_any (nat_eq b) (chain os object.owner)

-- the usage of a bank: how many objects other than itself have it in their chain
unfoldable pub usage : List Object → ℕ → ℕ
usage os b = count_by (λ p. not (p.0 == b) && is_under os b p.1) (enumerate_from 0 os)
