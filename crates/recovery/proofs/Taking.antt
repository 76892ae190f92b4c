-- Each root takes its annex.
use Rattle.recovery.proofs.Names.{nat_tests, ℕ, Bool, true, List, length, arith, get_or-set_same, get_or-set_other, Frame, Parts, frames_of, AreWholeProcesses}
use Rattle.recovery.proofs.Names.{IsRootOf, role_at, AreTaken, IsTaking, is_taken}
use Rattle.std.proofs.Common.{◌≡◌, ◌+◌, ◌<◌}
use Rattle.model.specs.declared.object.Role.TheVariants as role
use Rattle.recovery.proofs.Standing.{some_same}
use Rattle.recovery.proofs.Tables.{frame_beyond}

-- a root's number is in the table
pub root_known : (p : Parts) (r a : ℕ) → IsRootOf (frames_of p) r a → r < length p.headers
root_known p r a root = grind (arith, nat_tests, frame_beyond)

-- the parameters: the roots below n have taken their annexes
module _ (fs : List Frame) (n : ℕ) (old : List Bool) (before : AreTaken fs n old) where
  -- if n isn't a root, nothing more is taken
  pub taken_same : ((a : ℕ) → IsRootOf fs n a → ⊥) → AreTaken fs (n + 1) old
  taken_same other = grind (arith, nat_tests)

  -- if n is a root and takes its annex, the roots below n + 1 have taken theirs
  module _ (new : List Bool) (a : ℕ) (root : IsRootOf fs n a) (takes : IsTaking fs n a old new) (room : a < length old) where
    pub taken_more : AreTaken fs (n + 1) new
    taken_more = grind (arith, nat_tests, some_same, get_or-set_same, get_or-set_other)

-- facts after all roots have taken their annexes
module _ (p : Parts) (taken : List Bool) (all : AreTaken (frames_of p) (length p.headers) taken) where
  pub whole_taken : ((a : ℕ) → role_at (frames_of p) a ≡ role.Annex → is_taken taken a ≡ true) → AreWholeProcesses (frames_of p)
  whole_taken each = grind (arith, nat_tests, root_known)

  pub taken_whole : AreWholeProcesses (frames_of p) → (a : ℕ) → role_at (frames_of p) a ≡ role.Annex → is_taken taken a ≡ true
  taken_whole whole a annex = grind (arith, nat_tests, root_known)
