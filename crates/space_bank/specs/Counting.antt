-- The parts of the banks' state.
use Rattle.space_bank.specs.Names.{ℕ, Bool, List, length, map, range_with_len, Capability, Content, Object, Role}
use Rattle.space_bank.specs.Names.{is_free, limit_in, root_in, content_at, is_marked}
use Rattle.std.specs.Prelude.{◌≡◌, ◌+◌, ◌<◌}
use Rattle.model.specs.declared.object.Role.TheVariants as role

-- mark n says whether number first + n is free, for n below `count`
pub record AreMarked (os : List Object) (first count : ℕ) (marks : List Bool) : Type 0 where
  pub size : length marks ≡ count
  pub each : (n : ℕ) → n < count → is_marked marks n ≡ is_free (content_at os (first + n))

-- the number recorded for an object of this role: the limit of a bank, the annex of a process, else 0
abbrev pub kept_number : Role → Content Capability → ℕ
kept_number role.Bank c = limit_in c
kept_number role.Root c = (root_in c).annex
kept_number _ c = 0

-- the limits of banks, and the annexes of processes, among the first `count` numbers
pub record AreKept (os : List Object) (count : ℕ) (limits annexes : List ℕ) : Type 0 where
  pub limits_are : limits ≡ map (λ n. kept_number role.Bank (content_at os n)) (range_with_len 0 count)
  pub annexes_are : annexes ≡ map (λ n. kept_number role.Root (content_at os n)) (range_with_len 0 count)
