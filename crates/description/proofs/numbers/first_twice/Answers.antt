use Rattle.description.proofs.Names.{rules, length, length-set, slice_index}
use Rattle.std.proofs.Common.{◌<◌, ◌∙◌}
use Rattle.description.proofs.SeenNumbers.{one_seen}
use Rattle.description.proofs.numbers.first_twice.Goals as goal

pub loop-place-preserved : goal.loop-place-preserved
loop-place-preserved c =
    let ns = c.args.numbers.now in
    let at = c.loop-place.place in
    let within : at < length ns = search rules in
    let inside : slice_index ns at < length c.loop-place.seen = rw c.loop-place.invariant.0 (c.requires at 0 within) in
    rw c.set.ensures (
      length-set _ _ _ ∙ c.loop-place.invariant.0,
      one_seen c.loop-place.seen ns at within inside c.in_default.ensures
          c.loop-place.invariant.1,
    )
