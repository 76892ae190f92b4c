use Rattle.ckpt_log.proofs.SealedDirectories.{all_fit}
use Rattle.ckpt_log.proofs.sealed.directory.entries_fit.Goals as goal

pub returns : goal.returns
returns c = all_fit c.args.entries.now c.loop-entry.entry-index c.loop-entry-test.false c.loop-entry.invariant
