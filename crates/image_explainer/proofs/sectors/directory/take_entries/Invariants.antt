use Rattle.layout.proofs.Directories.{EntriesRead}
use Rattle.image_explainer.proofs.sectors.directory.take_entries.Given as goal

abbrev pub invariant-loop-i : goal.invariant-loop-i
invariant-loop-i l = EntriesRead l.bytes l.into l.i
