use Rattle.migrator.proofs.Opening.{read_stays, reads_store}
use Rattle.migrator.proofs.durable.Durable.saved_header.Goals as goal

pub invariant_of-self : goal.invariant_of-self
invariant_of-self g c = (read_stays c.saved_header.ensures.reads c.self.invariant).stands

pub returns-clause-reads : goal.returns-clause-reads
returns-clause-reads g c = reads_store c.self.view_is c.self.invariant c.saved_header.ensures.reads
