use Rattle.reach.proofs.Names.{arith, nat_tests, None, refl, found_at}
use Rattle.std.proofs.Common.{◌≡◌}
use Rattle.reach.proofs.Finding.{begun}
use Rattle.reach.proofs.levels.Levels.begin.Goals as goal

pub returns-then-is_none : goal.returns-then-is_none
returns-then-is_none c =
    let old = c.args.self.now in
    let none : found_at old c.args.number ≡ None = grind (arith, nat_tests) in
    begun old _ c.args.number (record { level = 0; step = None }) none c.requires refl refl refl refl
