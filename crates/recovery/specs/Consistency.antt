-- The three reasons why frames that may be kept (they have encodings) can have no sound world, and
-- the least that holds.
use Rattle.recovery.specs.Names.{ℕ, List, Option, None, Some, slice_index, Contains, Bank, Frame, chain, usage}
use Rattle.recovery.specs.Names.{frame_at, objects_of, limit_in, BadImage, BadCapability, BadProcess, BadBank, role_at}
use Rattle.recovery.specs.Names.{owner_of, AreNamed, AreWholeProcesses, AreBanked, AreOwned}
use Rattle.std.specs.Prelude.{◌≡◌, ◌≢◌, ◌<◌, ◌≤◌}
use Rattle.model.specs.declared.object.Role.TheVariants as role
use Rattle.recovery.specs.declared.consistency.reason.Unbanked.{Unbanked}
use Rattle.recovery.specs.declared.consistency.reason.Unbanked.TheVariants as bank

-- number 0 is a bank that owns itself
abbrev pub HasPrime : List Frame → Type 0
HasPrime fs = (role_at fs 0 ≡ role.Bank) × (owner_of fs 0 ≡ 0)

-- an object is free or owned by a bank, and if it is a bank its chain reaches number 0
abbrev pub IsOwnedAt : List Frame → ℕ → Type 0
IsOwnedAt fs n = (role_at fs n ≢ role.Free → role_at fs (owner_of fs n) ≡ role.Bank) ×
    (role_at fs n ≡ role.Bank → Contains (chain (objects_of fs) n) 0)

-- all numbers below n have the property P
abbrev pub AllBefore : (ℕ → Type 0) → ℕ → Type 0
AllBefore P n = (m : ℕ) → m < n → P m

-- The first place where a rule of banks is broken: number 0; else the first object that no bank owns, or bank whose
-- chain doesn't reach number 0; else the first bank whose usage is above its limit.
abbrev pub IsUnbanked : List Frame → Unbanked → Type 0
IsUnbanked fs bank.Prime = HasPrime fs → ⊥
IsUnbanked fs (bank.Owner object owner) = (role_at fs object ≢ role.Free) × (owner_of fs object ≡ owner) ×
    (role_at fs owner ≢ role.Bank) × HasPrime fs × AllBefore (IsOwnedAt fs) object
IsUnbanked fs (bank.Chain b) = (role_at fs b ≡ role.Bank) × (Contains (chain (objects_of fs) b) 0 → ⊥) ×
    (role_at fs (owner_of fs b) ≡ role.Bank) × HasPrime fs × AllBefore (IsOwnedAt fs) b
IsUnbanked fs (bank.Limit b used limit) = (role_at fs b ≡ role.Bank) × (used ≡ usage (objects_of fs) b) ×
    (limit ≡ limit_in (frame_at fs b).content) × (limit < used) × AreOwned fs ×
    AllBefore (λ m. role_at fs m ≡ role.Bank → usage (objects_of fs) m ≤ limit_in (frame_at fs m).content) b

-- the first bank whose usage is above its limit, from lists of usages and limits
abbrev pub IsAboveLimit : List Frame → List ℕ → List ℕ → Unbanked → Type 0
IsAboveLimit fs usages limits (bank.Limit b used limit) = (role_at fs b ≡ role.Bank) × (used ≡ slice_index usages b) ×
    (limit ≡ slice_index limits b) × (limit < used) ×
    AllBefore (λ m. role_at fs m ≡ role.Bank → slice_index usages m ≤ slice_index limits m) b
IsAboveLimit fs usages limits _ = ⊥

-- The least of reasons 8 to 10 that holds, if the frames' world isn't sound:
-- - `BadCapability`: a capability has a greater count than its object; or it is live and its object doesn't have the
-- role for it; or it resumes a process that doesn't wait.
-- - `BadProcess`: a root and an annex don't belong together: the root names no annex, or one with another owner, or one
--   that another root names too, or an annex has no root.
-- - `BadBank`: number 0 isn't a bank that owns itself, an object's owner isn't a bank, a bank's chain of at most 16
--   banks doesn't reach number 0, or a bank's usage is above its limit.
-- No frames are inconsistent for another reason.
abbrev pub IsInconsistent : List Frame → BadImage → Type 0
IsInconsistent fs BadCapability = AreNamed fs → ⊥
IsInconsistent fs BadProcess = AreNamed fs × (AreWholeProcesses fs → ⊥)
IsInconsistent fs BadBank = AreNamed fs × AreWholeProcesses fs × (AreBanked fs → ⊥)
IsInconsistent fs _ = ⊥

-- the result of the search for a reason: `None` if the frames are consistent, else the least that holds
abbrev pub Tells : List Frame → Option BadImage → Type 0
Tells fs None = AreNamed fs × AreWholeProcesses fs × AreBanked fs
Tells fs (Some why) = IsInconsistent fs why
