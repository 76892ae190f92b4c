use Rattle.migrator.proofs.Names.{refl, arith, [], ap, subst, rules, err_from_is_err_and, Geometry, Image, agrees_is, IsSpelt, frame_read, IsBadAt}
use Rattle.std.proofs.Common.{◌≡◌, ◌∙◌, ◌+◌, ◌<◌, ◌++◌, ◌∷◌}
use Rattle.migrator.proofs.Opening.{reads_more, reads_none, frames_until, length-until, frames_more, frames_all, spelt_more}
use Rattle.migrator.proofs.image.take_frames.Goals as goal

pub loop-number-preserved : goal.loop-number-preserved
loop-number-preserved g c =
    let seen = agrees_is (g.D.Device.disk c.loop-number.device).seen (g.D.Device.disk c.args.device.now).seen c.loop-number.invariant.0.seen
    in
    let same : (g.D.Device.disk c.take_frame.new.device).failures ≡ (g.D.Device.disk c.loop-number.device).failures = search rules in
    let here = subst (λ (i : Image). IsSpelt i c.args.plan.now c.args.header.age c.args.header.generation c.args.directory.now
    c.loop-number.number) seen
    c.in_ok-take_frame.ensures.spelt in
    let took = c.in_ok-take_frame.ensures.took
    (frames_until (g.D.Device.disk c.args.device.now).seen c.args.plan.now c.args.header.generation c.args.directory.now
    c.loop-number.number)
    c.loop-number.invariant.3 in
    let more = subst (λ (i : Image). g.I.Intake.Took c.take_frame.new.taken
    (frames_until (g.D.Device.disk c.args.device.now).seen c.args.plan.now c.args.header.generation c.args.directory.now
    c.loop-number.number ++ frame_read i
    c.args.plan.now c.args.header.generation c.args.directory.now c.loop-number.number ∷ [])) seen took in (
      reads_more c.loop-number.invariant.0 c.take_frame.ensures.reads,
      same ∙ c.loop-number.invariant.1,
      spelt_more (g.D.Device.disk c.args.device.now).seen c.args.plan.now c.args.header.age c.args.header.generation c.args.directory.now
          c.loop-number.number
          c.loop-number.invariant.2 here,
      subst (g.I.Intake.Took c.take_frame.new.taken)
          (frames_more (g.D.Device.disk c.args.device.now).seen c.args.plan.now c.args.header.generation c.args.directory.now
          c.loop-number.number) more,
      omega (arith, c.loop-number.invariant.4, c.in_ok-take_frame.ensures.room),
    )

pub returns-in_err-take_frame-clause-reads : goal.returns-in_err-take_frame-clause-reads
returns-in_err-take_frame-clause-reads g c = reads_more c.loop-number.invariant.0 c.take_frame.ensures.reads

pub returns-clause-took : goal.returns-clause-took
returns-clause-took g c =
    let end : c.loop-number.number ≡ c.geometry-geometry.result.nodes + c.geometry-geometry.result.pages = search rules in
    let done = subst (λ (x : Geometry). c.loop-number.number ≡ x.nodes + x.pages) c.geometry-geometry.ensures.value end in
    subst (g.I.Intake.Took c.loop-number.taken)
    (ap (frames_until (g.D.Device.disk c.args.device.now).seen c.args.plan.now c.args.header.generation c.args.directory.now) done
    ∙ frames_all (g.D.Device.disk c.args.device.now).seen c.args.plan.now c.args.header.generation c.args.directory.now)
    c.loop-number.invariant.3

pub loop-number-init : goal.loop-number-init
loop-number-init g c = (
  reads_none (g.met.D.Device.only_now c.args.device.now),
  refl,
  (λ n lt. absurd (omega (arith, lt))),
  c.requires.none,
  c.requires.room,
)

pub take_frame-requires-clause-room : goal.take_frame-requires-clause-room
take_frame-requires-clause-room g c =
    let below : c.loop-number.number < c.geometry-geometry.result.nodes + c.geometry-geometry.result.pages = search rules in
    let lt = subst (λ (x : Geometry). c.loop-number.number < x.nodes + x.pages) c.geometry-geometry.ensures.value below in
    let until = frames_until (g.D.Device.disk c.args.device.now).seen c.args.plan.now c.args.header.generation c.args.directory.now
    c.loop-number.number in
    let size = length-until (g.D.Device.disk c.args.device.now).seen c.args.plan.now c.args.header.generation c.args.directory.now
    c.loop-number.number in
    (until, c.loop-number.invariant.3, omega (arith, size, lt, c.loop-number.invariant.4))

pub returns-in_err-take_frame-clause-refused : goal.returns-in_err-take_frame-clause-refused
returns-in_err-take_frame-clause-refused g c =
    let below : c.loop-number.number < c.geometry-geometry.result.nodes + c.geometry-geometry.result.pages = search rules in
    let lt = subst (λ (x : Geometry). c.loop-number.number < x.nodes + x.pages) c.geometry-geometry.ensures.value below in
    let seen = agrees_is (g.D.Device.disk c.loop-number.device).seen (g.D.Device.disk c.args.device.now).seen c.loop-number.invariant.0.seen
    in
    let bad = subst (λ (i : Image). IsBadAt i c.args.plan.now c.args.header c.args.directory.now c.loop-number.number
    c.in_err-take_frame.field-0.0) seen
    c.in_err-take_frame.ensures.refused in
    let p = err_from_is_err_and c.from_residual.result c.from_residual.ensures.1 in
    rw (p.1, p.2) (c.loop-number.number, lt, bad)
