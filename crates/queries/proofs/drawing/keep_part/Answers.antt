use Rattle.queries.proofs.DrawnImages.{keeps_both}
use Rattle.queries.proofs.drawing.keep_part.Goals as goal

pub returns-in-Ok : goal.returns-in-Ok
returns-in-Ok c =
    keeps_both c.args.objects.now c.args.focus c.args.description.now c.keep_holders.new.description c.keep_reached.new.description
    c.in-Ok.ensures
    c.keep_reached.result c.keep_reached.ensures
