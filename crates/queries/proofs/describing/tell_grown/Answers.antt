use Rattle.queries.proofs.GrownImages.{grown_has_fields, grown_has_text, tells_text}
use Rattle.queries.proofs.describing.tell_grown.Goals as goal

pub tell_description-requires-clause-fields : goal.tell_description-requires-clause-fields
tell_description-requires-clause-fields g c = grown_has_fields c.args.sizes c.args.description c.grow_description.new.description
    c.in-Ok.ensures
    c.requires.fields

pub tell_description-requires-clause-spelled : goal.tell_description-requires-clause-spelled
tell_description-requires-clause-spelled g c = grown_has_text c.args.sizes c.args.description c.grow_description.new.description
    c.in-Ok.ensures c.requires.laid
    c.requires.spelled

pub returns-in-Ok : goal.returns-in-Ok
returns-in-Ok g c =
    tells_text c.args.sizes c.args.description c.grow_description.new.description c.in-Ok.ensures (g.W.Output.written c.args.writer.now)
    (g.W.Output.written c.tell_description.new.writer)
    c.tell_description.result c.tell_description.ensures
