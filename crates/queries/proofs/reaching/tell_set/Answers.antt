use Rattle.queries.proofs.Names.{refl, reach_text, processes_known, IsSetText, text_written, TellsOf, Set}
use Rattle.queries.proofs.reaching.tell_set.Goals as goal

pub reach-requires-clause-known : goal.reach-requires-clause-known
reach-requires-clause-known g c = processes_known c.args.objects.now c.args.processes.now c.requires.processes

pub reach-requires-clause-trusted : goal.reach-requires-clause-trusted
reach-requires-clause-trusted g c = processes_known c.args.objects.now c.args.trusted.now c.requires.trusted

pub returns-in-Ok : goal.returns-in-Ok
returns-in-Ok g c =
    let old = g.W.Output.written c.args.writer.now in
    let new = g.W.Output.written c.print_reach.new.writer in
    let text = reach_text c.args.format c.args.objects.now c.in-Ok.inside in
    let is : IsSetText c.args.format c.args.objects.now c.args.purpose c.args.processes.now c.args.trusted.now text =
    record { marks = c.in-Ok.inside; reach = c.in-Ok.ensures.reach; bounds = c.in-Ok.ensures.bounds; spelled = refl } in
    rw c.of_write.ensures (text_written old new text (TellsOf c.args.format c.args.objects.now c.args.processes.now c.args.trusted.now
    (Set c.args.purpose) old new)
    (λ a wrote. (text, is, wrote)) (λ front. (text, is, front)) c.print_reach.result c.print_reach.ensures)
