use Rattle.std.proofs.Common.{arith, ◌-◌}
use Rattle.script.proofs.ShortNumbers.{value_below}
use Rattle.script.proofs.short.last_digits.Goals as goal

pub overflow_mul-number : goal.overflow_mul-number
overflow_mul-number c = omega (
  arith,
  value_below c.args.text.now c.args.at (c.loop-place.place - c.args.at) 18 _
      (omega (arith, c.loop-place.invariant.begun, c.loop-place.invariant.within))
      (omega (arith, c.loop-place-test.true, c.if-text-at-gt19.false))
      c.loop-place.invariant.values,
)

pub overflow_add-number : goal.overflow_add-number
overflow_add-number c = omega (
  arith,
  value_below c.args.text.now c.args.at (c.loop-place.place - c.args.at) 18 _
      (omega (arith, c.loop-place.invariant.begun, c.loop-place.invariant.within))
      (omega (arith, c.loop-place-test.true, c.if-text-at-gt19.false))
      c.loop-place.invariant.values,
  c.from-byte.ensures,
  c.if-byte-gt-LAST_DIGIT.false,
)
