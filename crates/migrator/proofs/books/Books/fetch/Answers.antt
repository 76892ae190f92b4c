use Rattle.migrator.proofs.Names.{IfOk-weaker, ap, sym, frame_from, seen_by}
use Rattle.std.proofs.Common.{◌∙◌}
use Rattle.migrator.proofs.Completing.{working_again}
use Rattle.migrator.proofs.Opening.{newest_by, whole_low}
use Rattle.migrator.proofs.books.Books.fetch.Goals as goal

pub read_put-requires-clause-slot : goal.read_put-requires-clause-slot
read_put-requires-clause-slot g c =
    whole_low c.args.number c.requires.stands.kept.working c.place.ensures c.in-Whole.is

pub read_put-requires-clause-spelt : goal.read_put-requires-clause-spelt
read_put-requires-clause-spelt g c =
    let low = whole_low c.args.number c.requires.stands.kept.working c.place.ensures c.in-Whole.is in
    let raw = working_again c.requires.stands (g.D.Device.disk c.args.device.now).seen c.args.number low in
    rw (c.working_generation-generation.ensures, ← raw)
    (c.requires.stands.kept.working.spelt c.args.number c.in-Whole.slot c.requires.object (sym c.place.ensures ∙ c.in-Whole.is))

pub returns-in-Whole-clause-found : goal.returns-in-Whole-clause-found
returns-in-Whole-clause-found g c =
    let b = c.args.self.now in
    let low = whole_low c.args.number c.requires.stands.kept.working c.place.ensures c.in-Whole.is in
    let raw = working_again c.requires.stands (g.D.Device.disk c.args.device.now).seen c.args.number low in
    IfOk-weaker c.read_put.result _ _ (λ read e. e ∙ ap (frame_from b.plan.geometry c.args.number) (sym raw)
    ∙ newest_by (seen_by (g.D.Device.disk c.args.device.now).seen b) b c.requires.object (sym c.place.ensures ∙ c.in-Whole.is))
    (rw c.working_generation-generation.ensures at c.read_put.ensures.found)

pub returns-in-Torn-clause-found : goal.returns-in-Torn-clause-found
returns-in-Torn-clause-found g c =
    IfOk-weaker c.fetch_below.result _ _ (λ read e. e ∙ newest_by (seen_by (g.D.Device.disk c.args.device.now).seen c.args.self.now)
    c.args.self.now
    c.requires.object (sym c.place.ensures ∙ c.in-Torn.is)) c.fetch_below.ensures.found

pub returns-in-Nowhere-clause-found : goal.returns-in-Nowhere-clause-found
returns-in-Nowhere-clause-found g c =
    IfOk-weaker c.fetch_below-in-Nowhere.result _ _ (λ read e. e ∙ newest_by
    (seen_by (g.D.Device.disk c.args.device.now).seen c.args.self.now)
    c.args.self.now c.requires.object (sym c.place.ensures ∙ c.in-Nowhere.is)) c.fetch_below-in-Nowhere.ensures.found
