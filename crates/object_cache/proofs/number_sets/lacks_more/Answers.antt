use Rattle.object_cache.proofs.Names.{rules, arith, nat_tests}
use Rattle.object_cache.proofs.Marking.{at_most_the_length}
use Rattle.object_cache.proofs.number_sets.lacks_more.Goals as goal

pub returns-else-numbers-room : goal.returns-else-numbers-room
returns-else-numbers-room c =
    let most = at_most_the_length c.args.marks.now c.args.numbers.now in
    grind (arith, nat_tests, rules, most)
