use Rattle.image_builder.proofs.Names.{subst, DurableState, saved_by, WritesUpgraded}
use Rattle.image_builder.proofs.upgrading.write_store.Goals as goal

pub returns-in-Ok-in_order-clause-writes : goal.returns-in-Ok-in_order-clause-writes
returns-in-Ok-in_order-clause-writes g c =
    subst (λ (s : DurableState _). WritesUpgraded c.args.layout g.E.Device.disk (saved_by g.D.Device.disk s) c.args.new.now
    c.write_over-written.new.new c.write_over-written.result) c.into_parts-saved.ensures.durable c.write_over-written.ensures
