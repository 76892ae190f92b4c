use Rattle.jobs.proofs.Names.{OnErr, WroteFront, line_of, upgraded_text}
use Rattle.jobs.proofs.WrittenTexts.{text_written}
use Rattle.jobs.proofs.upgrading.tell_total.Goals as goal

pub returns-clause-front : goal.returns-clause-front
returns-clause-front g c =
    let old = g.W.Output.written c.args.writer.now in
    let new = g.W.Output.written c.write_to.new.writer in
    let text = line_of (upgraded_text c.args.layout c.args.total) in
    rw c.of_write.ensures (text_written old new text (λ o. OnErr o (WroteFront old new text)) (λ a wrote. tt) (λ front. front)
    c.write_to.result
    (rw c.total_line.ensures.text at c.write_to.ensures))
