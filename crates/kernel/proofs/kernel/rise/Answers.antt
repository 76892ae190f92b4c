use Rattle.kernel.proofs.Machines.{no_reason, rises, stays_down}
use Rattle.kernel.proofs.kernel.rise.Goals as goal

pub refusal-requires : goal.refusal-requires
refusal-requires g c =
    no_reason g.D.Device.disk g.S.ObjectStore.view g.S.Frames.parts c.args.opened c.in-Err.refused.device c.in-Err.refused.fault
    (g.met.D.Device.seen_left _) c.requires.left c.in-Err.ensures.refused

pub returns-in-Ok-clause-reopened : goal.returns-in-Ok-clause-reopened
returns-in-Ok-clause-reopened g c h saved leaves =
    rises g.D.Device.disk g.S.ObjectStore.view g.S.Frames.parts c.args.opened
    (g.met.D.Device.seen_left _) h saved leaves c.in-Ok.found c.saved-saved.result.generation c.saved-saved.result.age
    c.in-Ok.ensures.opened c.saved-saved.ensures.generation c.saved-saved.ensures.age

pub returns-in-Err-clause-reopened : goal.returns-in-Err-clause-reopened
returns-in-Err-clause-reopened g c h saved leaves =
    rw (c.refusal.ensures.why, c.requires.down) (stays_down g.D.Device.disk g.S.ObjectStore.view g.S.Frames.parts c.args.opened
    (g.met.D.Device.seen_left _) h saved leaves c.in-Err.refused.fault c.in-Err.refused.device c.in-Err.ensures.refused)
