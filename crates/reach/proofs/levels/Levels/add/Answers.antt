use Rattle.reach.proofs.Names.{arith, nat_tests, None, refl, found_at}
use Rattle.std.proofs.Common.{◌≡◌}
use Rattle.reach.proofs.Finding.{added}
use Rattle.reach.proofs.levels.Levels.add.Goals as goal

pub returns-then-is_none : goal.returns-then-is_none
returns-then-is_none c =
    let old = c.args.self.now in
    let to = c.args.step.to in
    let none : found_at old to ≡ None = grind (arith, nat_tests) in
    added old _ to _ none c.requires.known refl _ _ refl refl refl c.requires.level c.max-self.ensures
