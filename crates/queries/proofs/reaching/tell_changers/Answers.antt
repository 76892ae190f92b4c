use Rattle.queries.proofs.Names.{refl, processes_known, text_written, IsChangersText, TellsOf, Changers, changers_text}
use Rattle.queries.proofs.reaching.tell_changers.Goals as goal

pub changers-requires-clause-known : goal.changers-requires-clause-known
changers-requires-clause-known g c = processes_known c.args.objects.now c.args.processes.now c.requires.processes

pub changers-requires-clause-trusted : goal.changers-requires-clause-trusted
changers-requires-clause-trusted g c = processes_known c.args.objects.now c.args.trusted.now c.requires.trusted

pub returns-in-Ok : goal.returns-in-Ok
returns-in-Ok g c =
    let old = g.W.Output.written c.args.writer.now in
    let new = g.W.Output.written c.print_changers.new.writer in
    let text = changers_text c.args.format c.args.objects.now c.in-Ok.inside in
    let is : IsChangersText c.args.format c.args.objects.now c.args.purpose c.args.processes.now c.args.trusted.now c.args.object text =
    record { there = c.requires.there; marks = c.in-Ok.inside; changers = c.in-Ok.ensures.changers; spelled = refl } in
    rw c.of_write.ensures (text_written old new text (TellsOf c.args.format c.args.objects.now c.args.processes.now c.args.trusted.now
    (Changers c.args.purpose c.args.object) old new)
    (λ a wrote. (text, is, wrote)) (λ front. (text, is, front)) c.print_changers.result c.print_changers.ensures)
