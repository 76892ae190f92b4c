use Rattle.queries.proofs.Names.{[]}
use Rattle.queries.proofs.ReachedImages.{listed_processes, tells_of_starts}
use Rattle.queries.proofs.reaching.tell_of_all.Goals as goal

pub tell_of-requires-clause-processes : goal.tell_of-requires-clause-processes
tell_of-requires-clause-processes g c = rw c.deref.ensures.value (listed_processes c.args.objects.now c.in-Ok.all.items c.in-Ok.ensures)

pub returns-in-Ok : goal.returns-in-Ok
returns-in-Ok g c = tells_of_starts c.args.format c.args.objects.now [] c.in-Ok.all.items c.args.trusted.now c.args.question
    (g.W.Output.written c.args.writer.now)
    (g.W.Output.written c.tell_of.new.writer) c.in-Ok.ensures c.tell_of.result (rw c.deref.ensures.value at c.tell_of.ensures)
