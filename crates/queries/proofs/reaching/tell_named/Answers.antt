use Rattle.queries.proofs.Names.{sym}
use Rattle.std.proofs.Common.{◌∙◌}
use Rattle.queries.proofs.ReachedImages.{named_starts, tells_of_starts}
use Rattle.queries.proofs.reaching.tell_named.Goals as goal

pub returns : goal.returns
returns g c =
    let os = c.args.objects.now in
    let named = c.args.named.now in
    let are = named_starts os named (sym c.is_empty.ensures ∙ c.if-is_empty.false) c.requires.named in
    tells_of_starts c.args.format os named named c.args.trusted.now c.args.question (g.W.Output.written c.args.writer.now)
    (g.W.Output.written c.tell_of.new.writer) are
    c.tell_of.result c.tell_of.ensures
