use Rattle.queries.proofs.Names.{List, subst, Object, DrawsPart, IsFocus, graph_text, text_written}
use Rattle.queries.proofs.drawing.draw_part.Goals as goal

pub returns-in-Ok : goal.returns-in-Ok
returns-in-Ok g c =
    let d = c.args.whole.0 in
    let e = c.keep_part.new.description in
    let old = g.W.Output.written c.args.writer.now in
    let new = g.W.Output.written c.draw.new.writer in
    let is : IsFocus c.args.whole.1.items c.args.focus d e = subst (λ (os : List Object). IsFocus os c.args.focus d e) c.deref.ensures.value
    c.in-Ok.ensures in
    rw c.of_write.ensures (text_written old new (graph_text c.args.whole.1.items e) (DrawsPart c.args.whole.1.items c.args.focus d old new)
    (λ a wrote. (e, is, wrote)) (λ front. (e, is, front)) c.draw.result
    (rw c.deref-in-Ok.ensures.value at c.draw.ensures))
