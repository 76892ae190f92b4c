use Rattle.image_writer.proofs.Names.{arith, rules, home_place, place_length, frames_in, places_begin, subst, IsFirstOf}
use Rattle.std.proofs.Common.{◌≡◌, ◌<◌, ◌∙◌}
use Rattle.image_writer.proofs.ClosedGates.{behind_all, leaves_shut, shut_on}
use Rattle.image_writer.proofs.HomeFrames.{none_more, one_more, stays_between}
use Rattle.image_writer.proofs.HomeUnits.{root_more, root_same}
use Rattle.image_writer.proofs.homes.write_homes.Goals as goal
use Rattle.image_writer.proofs.homes.write_homes.Goals.{then-first-number+in_ok-seal, else-first-number}

pub loop-number-preserved : goal.loop-number-preserved
loop-number-preserved g c =
    let below : c.loop-number.number < c.args.count = search rules in
    let lt = rw c.requires.count at below in
    let p = c.args.home.now in
    let n = c.loop-number.number in
    let frames = frames_in c.args.headers.now c.args.contents.now in
    let old = g.D.Device.disk c.args.device.now in
    let mid = g.D.Device.disk c.loop-number.device in
    let was = c.loop-number.invariant in
    elim c.if-first-number.branch [
      | then-first-number+in_ok-seal w ↦
          let new = g.D.Device.disk w.write_shared.new.device in
          let first = subst (IsFirstOf p n) w.if-first-number.true c.first.ensures.first in
          let writes = rw w.place-at.ensures.value at w.write_shared.ensures.writes in
          let there = rw w.place-at.ensures.value at w.in_ok-seal.ensures.written in
          let sealed = rw w.place-at.ensures.value at w.in_ok-seal.ensures.seal in
          let beside = behind_all p.version (home_place p n) (place_length p n) (places_begin p n c.requires.plan lt) in
          let same : new.failures ≡ mid.failures = search rules in
          rw (w.device-is, w.root-is) (
            one_more old.seen mid.seen new.seen p n c.requires.plan lt writes.elsewhere first frames was.0 there,
            stays_between old.seen mid.seen new.seen p n c.requires.plan lt writes.elsewhere was.1,
            writes.size ∙ was.2,
            same ∙ was.3,
            leaves_shut p (home_place p n) (place_length p n) mid new beside was.4 writes.crash,
            shut_on p (home_place p n) (place_length p n) {old = old} {mid = mid} {new = new} was.5 beside was.4 writes.any_moment,
            λ is. root_more old.seen mid.seen new.seen p n c.requires.plan lt writes.elsewhere first (was.6 is) (sealed is)
                w.add_last-root.ensures,
          )
      | else-first-number w ↦
          let start = c.first.ensures.first in
          let before : c.first.result < n = omega (arith, start.below, w.if-first-number.false) in
          rw (w.device-is, w.root-is) (
            none_more p frames n c.first.result mid.seen lt before start was.0,
            was.1,
            was.2,
            was.3,
            was.4,
            was.5,
            λ is. root_same mid.seen p n c.first.result c.requires.plan lt before start (was.6 is),
          )
    ]

pub returns-in_err-seal-clause-shut : goal.returns-in_err-seal-clause-shut
returns-in_err-seal-clause-shut g c =
    let below : c.loop-number.number < c.args.count = search rules in
    let lt = rw c.requires.count at below in
    let p = c.args.home.now in
    let n = c.loop-number.number in
    let writes = rw c.place-at.ensures.value at c.write_shared.ensures.writes in
    leaves_shut p (home_place p n) (place_length p n) (g.D.Device.disk c.loop-number.device) (g.D.Device.disk c.write_shared.new.device)
    (behind_all p.version (home_place p n) (place_length p n) (places_begin p n c.requires.plan lt)) c.loop-number.invariant.4 writes.crash

pub returns-in_err-seal-clause-elsewhere : goal.returns-in_err-seal-clause-elsewhere
returns-in_err-seal-clause-elsewhere g c =
    let below : c.loop-number.number < c.args.count = search rules in
    let lt = rw c.requires.count at below in
    let writes = rw c.place-at.ensures.value at c.write_shared.ensures.writes in
    stays_between (g.D.Device.disk c.args.device.now).seen (g.D.Device.disk c.loop-number.device).seen
    (g.D.Device.disk c.write_shared.new.device).seen c.args.home.now c.loop-number.number c.requires.plan lt writes.elsewhere
    c.loop-number.invariant.1

pub returns-in_err-seal-clause-any_moment : goal.returns-in_err-seal-clause-any_moment
returns-in_err-seal-clause-any_moment g c =
    let below : c.loop-number.number < c.args.count = search rules in
    let lt = rw c.requires.count at below in
    let p = c.args.home.now in
    let n = c.loop-number.number in
    let writes = rw c.place-at.ensures.value at c.write_shared.ensures.writes in
    shut_on p (home_place p n) (place_length p n) {old = g.D.Device.disk c.args.device.now} {mid = g.D.Device.disk c.loop-number.device}
    {new = g.D.Device.disk c.write_shared.new.device} c.loop-number.invariant.5
    (behind_all p.version (home_place p n) (place_length p n) (places_begin p n c.requires.plan lt)) c.loop-number.invariant.4
    writes.any_moment
