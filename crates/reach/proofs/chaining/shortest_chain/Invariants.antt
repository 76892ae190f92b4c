use Rattle.reach.proofs.Names.{ℕ, Option, Some, None, Found, found_at, is_member, links}
use Rattle.reach.proofs.Chains.{IsBack}
use Rattle.reach.proofs.chaining.shortest_chain.Given as goal

-- the level at which a number was found, or 0
abbrev pub level_of : Option Found → ℕ
level_of None = 0
level_of (Some f) = f.level

abbrev pub invariant-loop-step : goal.invariant-loop-step
invariant-loop-step l = IsBack l.objects (links l.fn.purpose (is_member l.trusted)) l.levels l.object l.at l.steps.items

abbrev pub decreases-loop-step : goal.decreases-loop-step
decreases-loop-step l = level_of (found_at l.levels l.at)
