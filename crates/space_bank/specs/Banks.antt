-- The state of banks, which is stored apart from the objects, and the conditions of their orders.
use Rattle.space_bank.specs.Names.{ℕ, Bool, false, List, length, slice_index, IsTrue, Geometry, Object, Arguments}
use Rattle.space_bank.specs.Names.{usage, is_bank, is_free, limit_in, MayBeHeld, object_count, annex_at, content_at}
use Rattle.space_bank.specs.Names.{is_process, AreSound, Parts, Renews, objects_in, is_marked}
use Rattle.std.specs.Prelude.{◌≡◌, ◌+◌, ◌<◌, ◌≤◌}

-- Which nodes and which pages are free, each from the first one on; the usages and limits of banks, and the annexes of
-- processes, by number; the numbers listed for an order, and how many the list has memory for.
pub record BanksState : Type 0 where
  pub free_nodes : List Bool
  pub free_pages : List Bool
  pub usages : List ℕ
  pub limits : List ℕ
  pub annexes : List ℕ
  pub listed : List ℕ
  pub room : ℕ

-- the state of the banks agrees with the objects
pub record AreCounted (g : Geometry) (os : List Object) (s : BanksState) : Type 0 where
  pub nodes : length s.free_nodes ≡ g.nodes
  pub pages : length s.free_pages ≡ g.pages
  pub node : (n : ℕ) → n < g.nodes → is_marked s.free_nodes n ≡ is_free (content_at os n)
  pub page : (n : ℕ) → n < g.pages → is_marked s.free_pages n ≡ is_free (content_at os (g.nodes + n))
  pub usage_each : length s.usages ≡ g.nodes
  pub limit_each : length s.limits ≡ g.nodes
  pub annex_each : length s.annexes ≡ g.nodes
  pub usage : (b : ℕ) → IsTrue (is_bank (content_at os b)) → slice_index s.usages b ≡ usage os b
  pub limit : (b : ℕ) → IsTrue (is_bank (content_at os b)) → slice_index s.limits b ≡ limit_in (content_at os b)
  pub annex : (p : ℕ) → IsTrue (is_process os p) → slice_index s.annexes p ≡ annex_at os p
  pub room : object_count g + 2 ≤ s.room

-- bank b may be served: the frames are sound, and the banks' state agrees with them
pub record MayServe (p : Parts) (s : BanksState) (b : ℕ) : Type 0 where
  pub sound : AreSound p
  pub counted : AreCounted p.geometry (objects_in p) s
  pub bank : IsTrue (is_bank (content_at (objects_in p) b))

-- an order of bank b may be planned: b may be served, and the capability that was sent may be held
pub record MayAsk (p : Parts) (s : BanksState) (b : ℕ) (args : Arguments) : Type 0 where
  pub serves : MayServe p s b
  pub sent : MayBeHeld (objects_in p) args.capability

-- Touched numbers, geometry and failures stay. Allocation counts rise for freed objects only. All other objects stay
-- fetched and announced. The parameters are the ghost members of a store of present frames.
pub record KeepsObjects {S : Type 0} (parts : S → Parts) (Fetched Announced : S → ℕ → Type 0)
    (Continues : S → S → Type 0) (old new : S) : Type 0 where
  pub count : length (parts new).headers ≡ length (parts old).headers
  pub renews : Renews (parts old) (parts new)
  pub touched : (parts new).touched ≡ (parts old).touched
  pub geometry : (parts new).geometry ≡ (parts old).geometry
  pub failures : (parts new).failures ≡ (parts old).failures
  pub fetched : (n : ℕ) → is_free (content_at (objects_in (parts new)) n) ≡ false → Fetched old n → Fetched new n
  pub announced : (n : ℕ) → is_free (content_at (objects_in (parts new)) n) ≡ false → Announced old n → Announced new n
  pub continues : Continues old new
