use Rattle.reach.proofs.Names.{[], arith, common_steps, rules}
use Rattle.std.proofs.Common.{◌≡◌}
use Rattle.reach.proofs.Listing.{lists_first, lists_more, lists_skip, lists_whole}
use Rattle.reach.proofs.process.all_processes.Goals as goal

pub loop-number-init : goal.loop-number-init
loop-number-init c = let none : c.new-all.result.items ≡ [] = search rules in rw none (lists_first _)

pub loop-number-preserved : goal.loop-number-preserved
loop-number-preserved c = grind (arith, common_steps, lists_more, lists_skip)

pub returns : goal.returns
returns c = lists_whole _ _ _ c.loop-number.invariant (omega (arith, c.loop-number-test.false))
