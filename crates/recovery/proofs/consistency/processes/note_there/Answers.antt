use Rattle.recovery.proofs.Names.{rules, not_root}
use Rattle.recovery.proofs.Notes.{unnoted}
use Rattle.recovery.proofs.Tables.{content_read}
use Rattle.recovery.proofs.consistency.processes.note_there.Goals as goal

pub returns-in_default : goal.returns-in_default
returns-in_default g c = search (rules, unnoted, not_root, content_read)
