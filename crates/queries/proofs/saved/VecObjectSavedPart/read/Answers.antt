use Rattle.queries.proofs.Names.{ap, SavedFrames}
use Rattle.std.proofs.Common.{◌∙◌}
use Rattle.queries.proofs.saved.VecObjectSavedPart.read.Goals as goal

pub read_objects-requires-clause-sound : goal.read_objects-requires-clause-sound
read_objects-requires-clause-sound g c =
    let geometry = g.met.S.ObjectStore.geometry_is c.args.store.now
    ∙ ap (λ (x : SavedFrames). x.geometry) (g.met.S.WholeStore.is_over c.args.store.now).saved in
    ((g.S.WholeStore.durable c.args.store.now).books.header.age, rw (geometry, c.requires.saved) c.requires.sound)

pub returns-in-Ok-clause-part : goal.returns-in-Ok-clause-part
returns-in-Ok-clause-part g c = rw c.requires.saved at c.in-Ok.ensures.objects

pub returns-in-Ok-clause-same : goal.returns-in-Ok-clause-same
returns-in-Ok-clause-same g c = g.met.S.WholeStore.still c.args.store.now c.read_objects.new.store
    c.in-Ok.ensures.only_reads.snapshots.continues

pub returns-in-Err-clause-same : goal.returns-in-Err-clause-same
returns-in-Err-clause-same g c = g.met.S.WholeStore.still c.args.store.now c.read_objects.new.store
    c.in-Err.ensures.only_reads.snapshots.continues
