use Rattle.space_bank.proofs.Names.{arith, ap, length, length-set, objects_in}
use Rattle.std.proofs.Common.{◌∙◌}
use Rattle.space_bank.proofs.Missing.{marks_more}
use Rattle.space_bank.proofs.counting.free_numbers.Goals as goal

pub loop-number-preserved : goal.loop-number-preserved
loop-number-preserved g c =
    let size = ap length c.set.ensures ∙ length-set c.loop-number.numbers c.loop-number.number c.is_free.result
    ∙ c.loop-number.invariant.size in
    record {
      size = size;
      each = marks_more (objects_in (g.F.Frames.parts c.args.store.now)) c.args.first c.loop-number.number c.loop-number.numbers
          c.set.new.self
          c.is_free.result (omega (arith, c.loop-number.invariant.size, c.loop-number-test.true)) c.set.ensures c.is_free.ensures
          c.loop-number.invariant.each;
    }
