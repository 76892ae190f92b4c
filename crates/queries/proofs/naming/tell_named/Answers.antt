use Rattle.std.proofs.Common.{arith, inr, subst}
use Rattle.layout.specs.Superblock.{IsGeometry}
use Rattle.queries.proofs.GrownImages.{tells_fault}
use Rattle.queries.proofs.Names.{text_written}
use Rattle.queries.specs.Naming.{TellsNamed, grown_names}
use Rattle.queries.proofs.naming.tell_named.Goals as goal

pub tell_names-requires : goal.tell_names-requires
tell_names-requires g c =
    let grown = c.in-Ok.ensures.1 in
    let limits = subst IsGeometry grown.geometry grown.limits in
    rw c.over.ensures (omega (arith, limits.most_nodes, limits.most_pages))

pub returns-in-Ok : goal.returns-in-Ok
returns-in-Ok g c =
    let between = g.W.Output.written c.tell_grown.new.writer in
    let new = g.W.Output.written c.tell_names.new.writer in
    rw c.of_write.ensures (text_written between new (grown_names c.args.description.geometry c.args.sizes c.args.names.now)
    (TellsNamed c.args.description c.args.sizes c.args.names.now (g.W.Output.written c.args.writer.now) new)
    (λ a wrote. (between, c.in-Ok.ensures, wrote)) (λ front. inr (between, c.in-Ok.ensures, front)) c.tell_names.result
    (rw c.over.ensures at c.tell_names.ensures))

pub returns-in-Err : goal.returns-in-Err
returns-in-Err g c =
    tells_fault c.args.sizes c.args.description c.args.names.now (g.W.Output.written c.args.writer.now)
    (g.W.Output.written c.tell_grown.new.writer) c.in-Err.fault c.in-Err.ensures
