use Rattle.std.proofs.Common.{arith, rules}
use Rattle.seal.proofs.Summing.{goes_on, summed_all, summed_fits}
use Rattle.seal.proofs.sums.sums_of.Goals as goal

pub overflow_add-sums : goal.overflow_add-sums
overflow_add-sums c =
    let goes =
    goes_on c.args.row.now c.loop-i.i c.read_u32.result _ c.loop-i.sums (search rules) c.requires.size c.loop-i-test.true (search rules)
    c.read_u32.ensures c.loop-i.invariant in
    omega (arith, goes.a)

pub overflow_add-sums-in-loop-i : goal.overflow_add-sums-in-loop-i
overflow_add-sums-in-loop-i c =
    let goes =
    goes_on c.args.row.now c.loop-i.i c.read_u32.result _ c.loop-i.sums (search rules) c.requires.size c.loop-i-test.true (search rules)
    c.read_u32.ensures c.loop-i.invariant in
    omega (arith, goes.b)

pub overflow_add-sums-in-loop-i-2 : goal.overflow_add-sums-in-loop-i-2
overflow_add-sums-in-loop-i-2 c =
    let goes =
    goes_on c.args.row.now c.loop-i.i c.read_u32.result _ c.loop-i.sums (search rules) c.requires.size c.loop-i-test.true (search rules)
    c.read_u32.ensures c.loop-i.invariant in
    omega (arith, goes.c)

pub loop-i-preserved : goal.loop-i-preserved
loop-i-preserved c =
    let goes =
    goes_on c.args.row.now c.loop-i.i c.read_u32.result _ c.loop-i.sums (search rules) c.requires.size c.loop-i-test.true (search rules)
    c.read_u32.ensures c.loop-i.invariant in
    goes.next

pub returns-clause-sums : goal.returns-clause-sums
returns-clause-sums c = summed_all c.args.row.now c.loop-i.i c.loop-i.sums c.loop-i-test.false c.loop-i.invariant

pub returns-clause-fit : goal.returns-clause-fit
returns-clause-fit c = summed_fits c.args.row.now c.loop-i.i c.loop-i.sums (search rules) c.requires.size c.loop-i.invariant
