use Rattle.std.proofs.Common.{arith, ◌-◌}
use Rattle.script.proofs.ShortNumbers.{digits_read, value_below}
use Rattle.script.proofs.short.digits_before.Goals as goal

pub returns-then-byte-eq-SPACE : goal.returns-then-byte-eq-SPACE
returns-then-byte-eq-SPACE c = λ within.
    digits_read c.args.text.now c.args.at c.loop-place.place c.loop-place.number c.loop-place.invariant.begun
    (omega (arith, c.loop-place-test.true, c.digits_end-place-end.ensures.within))
    (omega (arith, c.loop-place-test.true, c.digits_end-place-end.ensures.few))
    (omega (arith, c.if-byte-eq-SPACE.true, c.from-byte.ensures))
    c.requires.some c.loop-place.invariant.values

pub overflow_mul-number : goal.overflow_mul-number
overflow_mul-number c = omega (
  arith,
  value_below c.args.text.now c.args.at (c.loop-place.place - c.args.at) 18 _
      (omega (arith, c.loop-place.invariant.begun, c.loop-place-test.true, c.digits_end-place-end.ensures.within))
      (omega (arith, c.loop-place-test.true, c.digits_end-place-end.ensures.few)) c.loop-place.invariant.values,
)

pub overflow_add-number : goal.overflow_add-number
overflow_add-number c = omega (
  arith,
  value_below c.args.text.now c.args.at (c.loop-place.place - c.args.at) 18 _
      (omega (arith, c.loop-place.invariant.begun, c.loop-place-test.true, c.digits_end-place-end.ensures.within))
      (omega (arith, c.loop-place-test.true, c.digits_end-place-end.ensures.few)) c.loop-place.invariant.values,
  c.from-byte.ensures,
  c.if-byte-gt-LAST_DIGIT.false,
)
