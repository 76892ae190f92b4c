use Rattle.queries.proofs.Names.{refl, chain_text, processes_known, IsChainText, text_written, TellsOf, Chain}
use Rattle.queries.proofs.reaching.tell_chain.Goals as goal

pub shortest_chain-requires-clause-known : goal.shortest_chain-requires-clause-known
shortest_chain-requires-clause-known g c = processes_known c.args.objects.now c.args.processes.now c.requires.processes

pub shortest_chain-requires-clause-trusted : goal.shortest_chain-requires-clause-trusted
shortest_chain-requires-clause-trusted g c = processes_known c.args.objects.now c.args.trusted.now c.requires.trusted

pub returns-in-Ok : goal.returns-in-Ok
returns-in-Ok g c =
    let old = g.W.Output.written c.args.writer.now in
    let new = g.W.Output.written c.print_chain.new.writer in
    let text = chain_text c.args.format c.args.objects.now c.args.purpose c.args.object c.in-Ok.chain in
    let is : IsChainText c.args.format c.args.objects.now c.args.purpose c.args.processes.now c.args.trusted.now c.args.object text =
    record {
      there = c.requires.there;
      chain = c.in-Ok.chain;
      shortest = c.in-Ok.ensures.shortest;
      reach = c.in-Ok.ensures.reach;
      spelled = refl;
    } in
    rw c.of_write.ensures (text_written old new text (TellsOf c.args.format c.args.objects.now c.args.processes.now c.args.trusted.now
    (Chain c.args.purpose c.args.object) old new)
    (λ a wrote. (text, is, wrote)) (λ front. (text, is, front)) c.print_chain.result c.print_chain.ensures)
