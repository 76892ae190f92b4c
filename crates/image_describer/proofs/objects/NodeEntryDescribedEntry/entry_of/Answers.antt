use Rattle.image_describer.proofs.ReadOnly.{looked_once, read_failed, read_short, looked_well}
use Rattle.image_describer.proofs.objects.NodeEntryDescribedEntry.entry_of.Goals as goal

pub returns-in_err-owner-clause-only_reads : goal.returns-in_err-owner-clause-only_reads
returns-in_err-owner-clause-only_reads g c = read_failed c.from_residual.result c.from_residual.ensures.1 c.in_err-owner.ensures.only_reads

pub returns-in_err-slots-clause-only_reads : goal.returns-in_err-slots-clause-only_reads
returns-in_err-slots-clause-only_reads g c =
    read_short c.from_residual-in_err-slots.result (looked_once c.in_ok-owner.ensures.only_reads) c.from_residual-in_err-slots.ensures.1

pub returns-clause-only_reads : goal.returns-clause-only_reads
returns-clause-only_reads g c = looked_well (looked_once c.in_ok-owner.ensures.only_reads)
