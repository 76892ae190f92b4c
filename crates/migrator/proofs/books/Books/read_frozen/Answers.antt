use Rattle.migrator.proofs.Names.{IfOk-weaker, refl, ap, sym, frame_from}
use Rattle.std.proofs.Common.{◌∙◌}
use Rattle.migrator.proofs.Completing.{frozen_raw, own_frame, own_spelt}
use Rattle.migrator.proofs.Opening.{whole_low}
use Rattle.migrator.proofs.books.Books.read_frozen.Goals as goal

pub slot_sector-sector-requires : goal.slot_sector-sector-requires
slot_sector-sector-requires g c = record {
  slot = rw c.new-log.ensures (whole_low c.args.number c.requires.stands.kept.frozen refl c.requires.place);
}

pub read-requires : goal.read-requires
read-requires g c =
    let at = rw c.new-log.ensures at c.slot_sector-sector.ensures.value in
    record {
      spelt = rw (c.shape-shape.ensures.value, c.geometry.ensures.value)
          (own_spelt c.requires.stands c.args.number c.requires.place at (c.is_for.ensures.yes c.if-is_for.true) c.requires.object);
    }

pub returns-then-is_for-clause-found : goal.returns-then-is_for-clause-found
returns-then-is_for-clause-found g c =
    let at = rw c.new-log.ensures at c.slot_sector-sector.ensures.value in
    own_frame c.requires.stands c.args.number c.requires.place at (c.is_for.ensures.yes c.if-is_for.true)
    (rw (c.shape-shape.ensures.value, c.geometry.ensures.value) at c.read.ensures)

pub read_put-requires-clause-slot : goal.read_put-requires-clause-slot
read_put-requires-clause-slot g c =
    whole_low c.args.number c.requires.stands.kept.frozen refl c.requires.place

pub read_put-requires-clause-spelt : goal.read_put-requires-clause-spelt
read_put-requires-clause-spelt g c =
    let at = rw c.new-log.ensures at c.slot_sector-sector.ensures.value in
    let raw = frozen_raw c.requires.stands c.args.slot c.args.number (λ u some here. c.is_for.ensures.no c.if-is_for.false u some
    (here ∙ sym at)) in
    rw (← raw) (c.requires.stands.kept.frozen.spelt c.args.number c.args.slot c.requires.object c.requires.place)

pub returns-clause-found : goal.returns-clause-found
returns-clause-found g c =
    let at = rw c.new-log.ensures at c.slot_sector-sector.ensures.value in
    let raw = frozen_raw c.requires.stands c.args.slot c.args.number (λ u some here. c.is_for.ensures.no c.if-is_for.false u some
    (here ∙ sym at)) in
    IfOk-weaker c.read_put.result _ _ (λ read e. e ∙ ap (frame_from c.args.self.now.plan.geometry c.args.number) (sym raw))
    c.read_put.ensures.found
