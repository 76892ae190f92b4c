use Rattle.image_describer.proofs.ReadOnly.{looked_once, read_failed, looked_well}
use Rattle.image_describer.proofs.objects.BankEntryDescribedEntry.entry_of.Goals as goal

pub returns-in_err-owner-clause-only_reads : goal.returns-in_err-owner-clause-only_reads
returns-in_err-owner-clause-only_reads g c = read_failed c.from_residual.result c.from_residual.ensures.1 c.in_err-owner.ensures.only_reads

pub returns-clause-only_reads : goal.returns-clause-only_reads
returns-clause-only_reads g c = looked_well (looked_once c.in_ok-owner.ensures.only_reads)
