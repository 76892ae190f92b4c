-- What the orders of banks require, and what they change.
use Rattle.space_bank.specs.Names.{[], ℕ, Bool, true, false, List, length, IsTrue, Geometry, Object, Arguments}
use Rattle.space_bank.specs.Names.{BankOrder, chain, usage, has_quota, on_bank, owned_by, AreCurrent, AreKeepable}
use Rattle.space_bank.specs.Names.{is_bank, is_free, is_member, rescind, content_at, object_at, IsNow, SameFrame}
use Rattle.space_bank.specs.Names.{BankChange, Change, OrderPlan, Fresh, outcome_by, IsFreshAt, IsOnce, Parts}
use Rattle.space_bank.specs.Names.{frames_of, objects_in, slice_set}
use Rattle.std.specs.Prelude.{◌≡◌, ◌≢◌, ◌∷◌, ◌+◌, ◌^◌, ◌<◌, ◌++◌, if◌then◌else◌}
use Rattle.capability.specs.declared.order.BankChange.TheVariants as bank
use Rattle.capability.specs.declared.order.Change.TheVariants as change
use Rattle.capability.specs.declared.present.Fresh.TheVariants as fresh
use Rattle.space_bank.specs.Banks.{AreCounted, BanksState}

-- which numbers are marked as free, those of nodes and then those of pages
abbrev pub marks_of : BanksState → List Bool
marks_of s = s.free_nodes ++ s.free_pages

-- number n is marked as taken, and nothing else changes
pub record IsMade (s t : BanksState) (n : ℕ) : Type 0 where
  pub nodes : length t.free_nodes ≡ length s.free_nodes
  pub pages : length t.free_pages ≡ length s.free_pages
  pub marks : marks_of t ≡ slice_set (marks_of s) n false
  pub kept : t ≡ record s { free_nodes = t.free_nodes; free_pages = t.free_pages }

-- after an order the banks' state agrees with the objects, no capability's count is above its object's, and the frames
-- may be kept at the next age
pub record CarriesOut (old new : Parts) (s : BanksState) : Type 0 where
  pub counted : AreCounted old.geometry (objects_in new) s
  pub current : AreCurrent (frames_of new)
  pub keepable : (age : ℕ) → age + 1 < 2 ^ 64 → AreKeepable old.geometry age (frames_of old) →
      AreKeepable old.geometry (age + 1) (frames_of new)

-- A list may be freed: its numbers are in use, none occurs twice, and none is a bank in the chain of `above`. Each
-- bank outside the list has all of the list under it if this bank is in that chain, else none.
pub record MayFree (os : List Object) (above : ℕ) (list : List ℕ) : Type 0 where
  pub once : IsOnce list
  pub used : (n : ℕ) → is_member list n ≡ true → is_free (content_at os n) ≡ false
  pub apart : (x : ℕ) → IsTrue (is_member (chain os above) x) → is_member list x ≡ false
  pub lowered : (x : ℕ) → IsTrue (is_bank (content_at os x)) → is_member list x ≡ false →
      usage (rescind list os) x + (if is_member (chain os above) x then length list else 0) ≡ usage os x

-- the listed objects belong to bank b now, and all others are unchanged
pub record AreTransferred (list : List ℕ) (b : ℕ) (old new : List Object) : Type 0 where
  pub size : length new ≡ length old
  pub each : (n : ℕ) → object_at new n ≡
      (if is_member list n then record { owner = b; content = content_at old n } else object_at old n)

-- a page, a node, or a bank whose owner's chain has fewer than 16 banks may be made under bank b
abbrev pub IsMadeUnder : List Object → ℕ → Fresh → Type 0
IsMadeUnder os b (fresh.Bank limit) = length (chain os b) < 16
IsMadeUnder os b (fresh.Root annex) = ⊥
IsMadeUnder os b fresh.Annex = ⊥
IsMadeUnder os b _ = Unit {0}

-- the conditions of a bank's changes: to make an object, to make a process, to free objects, to transfer objects to
-- the owner
pub record MakesOne (g : Geometry) (os : List Object) (list : List ℕ) (n : ℕ) (f : Fresh) (b : ℕ) : Type 0 where
  pub listed : list ≡ n ∷ []
  pub bank : IsTrue (is_bank (content_at os b))
  pub room : IsTrue (has_quota os b 1)
  pub unused : IsTrue (is_free (content_at os n))
  pub place : IsFreshAt g n f
  pub kind : IsMadeUnder os b f

pub record MakesTwo (g : Geometry) (os : List Object) (list : List ℕ) (r a b : ℕ) : Type 0 where
  pub listed : list ≡ r ∷ a ∷ []
  pub bank : IsTrue (is_bank (content_at os b))
  pub room : IsTrue (has_quota os b 2)
  pub unused : IsTrue (is_free (content_at os r))
  pub annex_unused : IsTrue (is_free (content_at os a))
  pub two : a ≢ r
  pub place : r < g.nodes
  pub annex_place : a < g.nodes

pub record Frees (os : List Object) (list : List ℕ) (above : ℕ) : Type 0 where
  pub bank : IsTrue (is_bank (content_at os above))
  pub may : MayFree os above list

pub record Transfers (os : List Object) (list : List ℕ) (b : ℕ) : Type 0 where
  pub bank : IsTrue (is_bank (content_at os b))
  pub other : b ≢ 0
  pub listed : list ≡ b ∷ owned_by os b

-- the condition of any change of a bank; its order writes the numbers of the list
abbrev pub MayMake : Geometry → List Object → List ℕ → BankChange → Type 0
MayMake g os list (bank.Make n f b) = MakesOne g os list n f b
MayMake g os list (bank.MakeProcess r a b) = MakesTwo g os list r a b
MayMake g os list (bank.GiveUp above) = Frees os list above
MayMake g os list (bank.Transfer b) = Transfers os list b

-- a change that an order of a bank may plan
abbrev pub IsForBank : Geometry → List Object → List ℕ → Change → Type 0
IsForBank g os list change.Nothing = list ≡ []
IsForBank g os list (change.Bank made) = MayMake g os list made
IsForBank g os list _ = ⊥

-- An order was planned, and writes these numbers. Words, slots and states may change before it is carried out: its
-- outcome is still the planned one, and its change may still be made.
pub record PlansAs (g : Geometry) (os : List Object) (b : ℕ) (order : BankOrder) (args : Arguments) (written : List ℕ)
    (plan : OrderPlan) : Type 0 where
  pub outcome : (us : List Object) → SameFrame os us → on_bank g us b order args ≡ outcome_by us written plan
  pub may : (us : List Object) → SameFrame os us → IsNow g us → IsForBank g us written plan.change

-- an order was planned; `list` has the numbers that the invocation writes itself, then those that the order writes
pub record IsPlanned (p : Parts) (b : ℕ) (order : BankOrder) (args : Arguments) (first : List ℕ) (plan : OrderPlan)
    (list : List ℕ) : Type 0 where
  pub plans : PlansAs p.geometry (objects_in p) b order args (on_bank p.geometry (objects_in p) b order args).written
      plan
  pub listed : list ≡ first ++ (on_bank p.geometry (objects_in p) b order args).written
