use Rattle.std.proofs.Common.{◌<◌, ◌+◌, ◌-◌, ◌/◌, ℕ, arith, length}
use Rattle.migrator.proofs.Opening.{below_more, above_more}
use Rattle.migrator.proofs.find.first_from.Goals as goal

pub loop-low-preserved-then-entries-middle : goal.loop-low-preserved-then-entries-middle
loop-low-preserved-then-entries-middle c =
    let middle : ℕ = c.loop-low.low + (c.loop-low.high - c.loop-low.low) / 2 in
    let lt : middle < length c.args.entries.now = omega (arith, c.loop-low-test.true, c.loop-low.invariant.1) in (
      omega (arith, c.loop-low-test.true),
      c.loop-low.invariant.1,
      below_more c.args.entries.now c.args.number middle c.requires lt c.if-entries-middle.true,
      c.loop-low.invariant.3,
    )

pub loop-low-preserved : goal.loop-low-preserved
loop-low-preserved c =
    let middle : ℕ = c.loop-low.low + (c.loop-low.high - c.loop-low.low) / 2 in
    let lt : middle < length c.args.entries.now = omega (arith, c.loop-low-test.true, c.loop-low.invariant.1) in (
      omega (arith, c.loop-low-test.true),
      omega (arith, lt),
      c.loop-low.invariant.2,
      above_more c.args.entries.now c.args.number middle c.requires lt
          c.if-entries-middle.false,
    )
