use Rattle.migrator.proofs.Names.{take, subst, err_from_is_err_and, Image, agrees_is, IsBadAt, HasOtherUnits}
use Rattle.migrator.proofs.Opening.{bad_frame, reads_more}
use Rattle.migrator.proofs.SealedUnits.{units_refused}
use Rattle.migrator.proofs.image.read_image.Goals as goal

pub returns-in_err-check_seals-clause-refused : goal.returns-in_err-check_seals-clause-refused
returns-in_err-check_seals-clause-refused g c =
    let seen = agrees_is (g.D.Device.disk c.read_committed.new.device).seen (g.D.Device.disk c.args.device.now).seen
    c.read_committed.ensures.reads.seen in
    let p = err_from_is_err_and c.from_residual-in_err-check_seals.result c.from_residual-in_err-check_seals.ensures.1 in
    let header = c.in_ok-header.header in
    let bad = subst (λ (i : Image). HasOtherUnits i c.args.plan.now header.root header.header.generation
    (take header.header.entries c.read_committed.new.directory) c.in_err-check_seals.field-0.0) seen c.in_err-check_seals.ensures.refused in
    rw (p.1, p.2) (units_refused _
    c.requires.plan (rw c.new-log.ensures at c.in_ok-header.ensures.found).header
    (rw c.new-log.ensures at c.in_ok-header.ensures.found).directory bad)

pub returns-in_err-check_seals-clause-reads : goal.returns-in_err-check_seals-clause-reads
returns-in_err-check_seals-clause-reads g c = reads_more c.read_committed.ensures.reads c.check_seals.ensures.reads

pub returns-in_err-take_frames-clause-refused : goal.returns-in_err-take_frames-clause-refused
returns-in_err-take_frames-clause-refused g c =
    let seen = agrees_is (g.D.Device.disk c.check_seals.new.device).seen (g.D.Device.disk c.args.device.now).seen
    (reads_more c.read_committed.ensures.reads c.check_seals.ensures.reads).seen in
    let p = err_from_is_err_and c.from_residual-in_err-take_frames.result c.from_residual-in_err-take_frames.ensures.1 in
    let bad = subst (λ (i : Image). IsBadAt i c.args.plan.now c.in_ok-header.header.header
    (take c.in_ok-header.header.header.entries c.read_committed.new.directory)
    c.in_err-take_frames.ensures.refused.0 c.in_err-take_frames.field-0.0) seen c.in_err-take_frames.ensures.refused.2 in
    rw (p.1, p.2) (bad_frame _
    c.requires.plan (rw c.new-log.ensures at c.in_ok-header.ensures.found).header
    (rw c.new-log.ensures at c.in_ok-header.ensures.found).directory
    c.in_err-take_frames.ensures.refused.1 bad)

pub returns-in_err-take_frames-clause-reads : goal.returns-in_err-take_frames-clause-reads
returns-in_err-take_frames-clause-reads g c =
    reads_more (reads_more c.read_committed.ensures.reads c.check_seals.ensures.reads) c.take_frames.ensures.reads

pub returns-clause-reads : goal.returns-clause-reads
returns-clause-reads g c = reads_more (reads_more c.read_committed.ensures.reads c.check_seals.ensures.reads) c.take_frames.ensures.reads

pub returns-clause-found : goal.returns-clause-found
returns-clause-found g c =
    let first = agrees_is (g.D.Device.disk c.read_committed.new.device).seen (g.D.Device.disk c.args.device.now).seen
    c.read_committed.ensures.reads.seen in
    let seen = agrees_is (g.D.Device.disk c.check_seals.new.device).seen (g.D.Device.disk c.args.device.now).seen
    (reads_more c.read_committed.ensures.reads c.check_seals.ensures.reads).seen in
    record {
      header = (rw c.new-log.ensures at c.in_ok-header.ensures.found).header;
      directory = (rw c.new-log.ensures at c.in_ok-header.ensures.found).directory;
      spelt = rw (← seen) c.in_ok-take_frames.ensures.spelt;
      units = rw (← first) c.in_ok-check_seals.ensures.found;
    }
