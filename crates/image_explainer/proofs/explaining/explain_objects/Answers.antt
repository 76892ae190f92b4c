use Rattle.image_explainer.proofs.Names.{Err, ap, arith, sym, DurableState}
use Rattle.std.proofs.Common.{◌≡◌, ◌∙◌}
use Rattle.image_explainer.proofs.Reasons.{explains_found, explains_refused, opened_keepable}
use Rattle.image_explainer.proofs.explaining.explain_objects.Goals as goal

pub returns-in-Ok : goal.returns-in-Ok
returns-in-Ok g c = λ device opens.
    let over = g.met.S.WholeStore.is_over in
    let new = c.find_in_objects-found.new.store in
    let still = g.met.S.WholeStore.still c.args.store new c.in-Ok.ensures.only_reads.snapshots.continues in
    explains_found g.D.Device.disk device c.into_device-device.result (g.S.Frames.parts c.args.store) (g.S.ObjectStore.view c.args.store)
    opens
    (c.into_device-device.ensures ∙ (over new).beneath ∙ ap (λ (d : DurableState g.row.D.Denot). d.beneath) still
    ∙ sym (over c.args.store).beneath)
    c.in-Ok.found c.in-Ok.ensures.found

pub returns-in-Err : goal.returns-in-Err
returns-in-Err g c = λ device opens.
    let over = g.met.S.WholeStore.is_over in
    let failures = g.met.S.ObjectStore.failures_are in
    let new = c.find_in_objects-found.new.store in
    let still = g.met.S.WholeStore.still c.args.store new c.in-Err.ensures.only_reads.snapshots.continues in
    let beneath = (over new).beneath ∙ ap (λ (d : DurableState g.row.D.Denot). d.beneath) still ∙ sym (over c.args.store).beneath in
    let same : (g.S.Frames.parts new).failures ≡ (g.S.Frames.parts c.args.store).failures =
    failures new ∙ ap (λ (d : g.row.D.Denot). (g.D.Device.disk d).failures) beneath ∙ sym (failures c.args.store) in
    explains_refused g.D.Device.disk device c.into_device-device.result (g.S.Frames.parts c.args.store) (g.S.ObjectStore.view c.args.store)
    opens
    (c.into_device-device.ensures ∙ beneath) c.into.result
    (λ failed. absurd (omega (arith, same, c.in-Err.ensures.only_reads.cause.0 (ap Err (c.into.ensures.0.0 failed)))))
    c.into.ensures.1

pub find_in_objects-found-requires : goal.find_in_objects-found-requires
find_in_objects-found-requires g c =
    let opens = c.requires.1 in
    record {
      may = record {
        usable = (g.met.S.ObjectStore.usable_is c.args.store).1 opens.usable;
        keepable = opened_keepable g.D.Device.disk c.requires.0 (g.S.Frames.parts c.args.store) (g.S.ObjectStore.view c.args.store) opens
            (g.met.S.ObjectStore.geometry_is c.args.store);
      };
    }
