use Rattle.devices.specs.MirrorSound.{state_with}
use Rattle.devices.proofs.Patches.{patches_both, filled_left}
use Rattle.devices.proofs.sectors.settle.Goals as goal

pub returns-in-Fill-clause-left : goal.returns-in-Fill-clause-left
returns-in-Fill-clause-left c =
    filled_left _ c.args.outcome (state_with c.args.present.now c.args.synced.now c.args.unsynced.now) _ c.in-Fill.is
    c.fill_written.ensures.patched
    c.requires.same_elsewhere

pub returns-in-Fill-clause-same : goal.returns-in-Fill-clause-same
returns-in-Fill-clause-same c =
    patches_both _ _ _ _ _ _ c.fill_written.ensures.patched c.fill_written-in-Fill.ensures.patched c.requires.same_elsewhere
