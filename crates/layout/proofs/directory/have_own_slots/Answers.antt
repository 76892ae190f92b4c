use Rattle.layout.proofs.Directories.{none_used}
use Rattle.layout.proofs.directory.have_own_slots.Goals as goal

pub loop-entry-init : goal.loop-entry-init
loop-entry-init c = none_used c.args.entries.now
