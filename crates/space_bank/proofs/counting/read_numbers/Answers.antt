use Rattle.space_bank.proofs.Names.{arith}
use Rattle.std.proofs.Common.{◌∙◌}
use Rattle.space_bank.proofs.Missing.{numbers_more}
use Rattle.space_bank.proofs.counting.read_numbers.Goals as goal

pub loop-number-preserved : goal.loop-number-preserved
loop-number-preserved g c =
    let parts = g.F.Frames.parts in
    let inv = c.loop-number.invariant in
    let ok = c.in_ok-read_number.ensures in
    record {
      kept = numbers_more (parts c.args.store.now) (parts c.loop-number.store) c.args.role c.loop-number.number c.in_ok-read_number.field-0
          c.loop-number.kept.items c.push_reserved.new.self.items inv.same ok.kept inv.kept c.push_reserved.ensures.items;
      size = omega (arith, inv.size, c.push_reserved.ensures.len);
      room = omega (arith, inv.room, c.push_reserved.ensures.capacity);
      same = ok.fetches.same ∙ inv.same;
      continues = g.met.F.Frames.continues_twice c.args.store.now c.loop-number.store c.read_number.new.store inv.continues
          ok.fetches.snapshots.continues;
    }
