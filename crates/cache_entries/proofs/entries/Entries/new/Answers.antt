use Rattle.cache_entries.proofs.Stored.{none_stored}
use Rattle.cache_entries.proofs.entries.Entries.new.Goals as goal

pub returns-clause-none : goal.returns-clause-none
returns-clause-none c =
    none_stored c.in_ok-order-in-Some.order c.in_ok-presents-in-Some.presents c.in_ok-kepts-in-Some.kepts c.resize.new.self.items
    c.args.count c.args.capacity
    (rw (c.in-Some.ensures, c.count-most.ensures.value) at c.in_ok-order-in-Some.ensures)
