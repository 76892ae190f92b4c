use Rattle.migrator.proofs.Opening.{refused_same}
use Rattle.migrator.proofs.Names.{err_from_is_err_and, [], sym, subst, Frame, Image, agrees_is, IsFrameOf, frame_of, frame_in, spelt_read}
use Rattle.std.proofs.Common.{◌++◌, ◌∷◌}
use Rattle.migrator.proofs.image.take_frame.Goals as goal

pub returns-in-Ok-clause-spelt : goal.returns-in-Ok-clause-spelt
returns-in-Ok-clause-spelt g c =
    let found = subst (λ (i : Image). IsFrameOf c.args.plan.now.geometry c.args.header.age c.args.number
    (frame_in i c.args.plan.now c.args.header.generation c.args.directory.now c.args.number)
    (frame_of c.in_ok-read.read c.read_saved.new.scratch))
    (agrees_is (g.D.Device.disk c.read_saved.new.device).seen (g.D.Device.disk c.args.device.now).seen c.read_saved.ensures.reads.seen)
    c.in_ok-read.ensures.found in
    (spelt_read (g.D.Device.disk c.args.device.now).seen c.args.plan.now c.args.header.age c.args.header.generation c.args.directory.now
    c.args.number
    (frame_of c.in_ok-read.read c.read_saved.new.scratch) found).0

pub returns-in-Ok-clause-took : goal.returns-in-Ok-clause-took
returns-in-Ok-clause-took g c = λ fs took.
    let found = subst (λ (i : Image). IsFrameOf c.args.plan.now.geometry c.args.header.age c.args.number
    (frame_in i c.args.plan.now c.args.header.generation c.args.directory.now c.args.number)
    (frame_of c.in_ok-read.read c.read_saved.new.scratch))
    (agrees_is (g.D.Device.disk c.read_saved.new.device).seen (g.D.Device.disk c.args.device.now).seen c.read_saved.ensures.reads.seen)
    c.in_ok-read.ensures.found in
    let same = (spelt_read (g.D.Device.disk c.args.device.now).seen c.args.plan.now c.args.header.age c.args.header.generation
    c.args.directory.now
    c.args.number (frame_of c.in_ok-read.read c.read_saved.new.scratch) found).1 in
    subst (λ (f : Frame). g.I.Intake.Took c.take.new.self (fs ++ f ∷ [])) (sym same) (c.in-Ok.ensures.took fs took)

pub returns-in_err-read-clause-refused : goal.returns-in_err-read-clause-refused
returns-in_err-read-clause-refused g c =
    let new = (g.D.Device.disk c.read_saved.new.device).seen in
    let old = (g.D.Device.disk c.args.device.now).seen in
    let p = err_from_is_err_and c.from_residual.result c.from_residual.ensures.1 in
    rw (p.1, p.2) (refused_same c.args.plan.now c.args.header c.args.directory.now c.args.number old new c.in_err-read.field-0.0
    (agrees_is new old c.read_saved.ensures.reads.seen)
    c.in_err-read.ensures.refused)
