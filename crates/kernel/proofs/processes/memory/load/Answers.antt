use Rattle.kernel.proofs.Names.{Ok, Err, subst, objects_in, IsEarly}
use Rattle.kernel.proofs.Performing.{ok_stayed, early_none}
use Rattle.kernel.proofs.MemoryServing.{early_load, load_answers}
use Rattle.kernel.proofs.processes.memory.load.Goals as goal

pub returns-in-Some-clause-serves : goal.returns-in-Some-clause-serves
returns-in-Some-clause-serves g c age sound =
    early_load c.args.process c.args.address c.in-Some.why
    sound (subst (IsEarly (objects_in (g.F.Frames.parts c.args.store.now)) c.args.process) c.in-Some.is c.in_ok-why.ensures.why)
    c.early.ensures.fetches.snapshots (ok_stayed c.in_ok-why.field-0 c.in_ok-why.ensures.fetches.cause)

pub returns-in-Ok-clause-serves : goal.returns-in-Ok-clause-serves
returns-in-Ok-clause-serves g c age sound =
    load_answers (g.F.Frames.parts c.load.new.frames) c.args.process c.args.address
    sound (early_none (objects_in (g.F.Frames.parts c.args.store.now)) c.args.process c.in_ok-why.field-0 c.in_default.not-Some
    c.in_ok-why.ensures.why)
    c.in_ok-why.ensures.fetches.same c.in_ok-word.field-0 (Ok c.in-Ok.word) c.in-Ok.is c.in_ok-word.ensures.loaded
    c.in_ok-word.ensures.fetches.same

pub returns-in-Err-clause-serves : goal.returns-in-Err-clause-serves
returns-in-Err-clause-serves g c age sound =
    load_answers (g.F.Frames.parts c.load.new.frames) c.args.process c.args.address
    sound (early_none (objects_in (g.F.Frames.parts c.args.store.now)) c.args.process c.in_ok-why.field-0 c.in_default.not-Some
    c.in_ok-why.ensures.why)
    c.in_ok-why.ensures.fetches.same c.in_ok-word.field-0 (Err c.in-Err.fault) c.in-Err.is c.in_ok-word.ensures.loaded
    c.in_ok-word.ensures.fetches.same
