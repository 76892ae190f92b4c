use Rattle.reach.proofs.Names.{common_steps, arith, chain_text}
use Rattle.reach.proofs.explaining.print_chain.Goals as goal

pub returns-in-Some : goal.returns-in-Some
unfolding chain_text
returns-in-Some g c = grind (arith, common_steps)

pub returns-in-None : goal.returns-in-None
unfolding chain_text
returns-in-None g c = rw c.in-None.is (rw c.line_of_unchanged.ensures.text at c.write_to.ensures)
