use Rattle.space_bank.proofs.Names.{ap, sym, new_at}
use Rattle.space_bank.proofs.Missing.{found_one}
use Rattle.space_bank.proofs.planning_new.next_one.Goals as goal

pub returns-in-Some-clause-made : goal.returns-in-Some-clause-made
returns-in-Some-clause-made g = λ os marked.
    ap (new_at g.args.bank g.args.fresh) (sym (found_one os g.args.first g.args.numbers.now marked.each g.in-Some.number
    g.in-Some.ensures.some))
