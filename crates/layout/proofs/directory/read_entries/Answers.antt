use Rattle.std.proofs.Common.{rules}
use Rattle.layout.proofs.Directories.{none_read, entry_read}
use Rattle.layout.proofs.directory.read_entries.Goals as goal

pub loop-i-init : goal.loop-i-init
loop-i-init c = none_read c.args.bytes.now c.args.into.now

pub loop-i-preserved : goal.loop-i-preserved
loop-i-preserved c = search (rules, entry_read)
