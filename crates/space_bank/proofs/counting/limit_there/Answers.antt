use Rattle.space_bank.proofs.Names.{sym, ap, limit_in, ContentRef, content_behind}
use Rattle.std.proofs.Common.{◌∙◌}
use Rattle.space_bank.proofs.Missing.{limit_held, no_limit}
use Rattle.space_bank.proofs.counting.limit_there.Goals as goal

pub returns-in-Bank : goal.returns-in-Bank
returns-in-Bank g c =
    let p = g.F.Frames.parts c.args.store.now in
    let known = (g.met.F.Frames.known_fetched c.args.store.now c.args.number c.requires).0 in
    sym (ap (λ (r : ContentRef). limit_in (content_behind r)) c.in-Bank.is)
    ∙ limit_held p c.args.number (content_behind c.frame.result) known c.frame.ensures

pub returns-in_default : goal.returns-in_default
returns-in_default g c =
    let p = g.F.Frames.parts c.args.store.now in
    let known = (g.met.F.Frames.known_fetched c.args.store.now c.args.number c.requires).0 in
    sym (no_limit c.frame.result c.in_default.not-Bank) ∙ limit_held p c.args.number (content_behind c.frame.result) known c.frame.ensures
