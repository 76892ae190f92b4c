use Rattle.vezhnake.proofs.Names.{Some, ap, Session}
use Rattle.std.proofs.Common.{◌∙◌}
use Rattle.vezhnake.proofs.Handles.{opens_new}
use Rattle.vezhnake.proofs.handle.Handle.open_closed.Goals as goal

pub returns-in-Some : goal.returns-in-Some
returns-in-Some c =
    opens_new c.args.image.now c.args.cache c.args.self.now.pointer.session c.put.new.self.pointer.session c.in-Ok.session c.requires
    (c.put.ensures ∙ ap (λ (s : Session). Some s) c.in-Some.ensures) c.in-Ok.ensures.opened
