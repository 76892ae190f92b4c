use Rattle.queries.proofs.Names.{ap, map, Vec, Plan, version_number, Version, NumberRange, numbers_of, SavedFrames}
use Rattle.std.specs.declared.alloc.Global.{Global}
use Rattle.std.proofs.Common.{◌∙◌}
use Rattle.queries.proofs.saved.DescriptionSavedPart.read.Goals as goal

pub describe-requires-clause-sound : goal.describe-requires-clause-sound
describe-requires-clause-sound g c =
    let saved = (g.met.S.WholeStore.is_over c.args.store.now).saved in
    let geometry = g.met.S.ObjectStore.geometry_is c.args.store.now ∙ ap (λ (x : SavedFrames). x.geometry) saved in
    let age = c.saved-age.ensures.age ∙ ap (λ (x : SavedFrames). x.age) saved in
    rw (geometry, age, c.requires.saved) c.requires.sound

pub returns-in-Ok-clause-part : goal.returns-in-Ok-clause-part
returns-in-Ok-clause-part g c =
    let saved = (g.met.S.WholeStore.is_over c.args.store.now).saved in
    let geometry = g.met.S.ObjectStore.geometry_is c.args.store.now ∙ ap (λ (x : SavedFrames). x.geometry) saved in
    let age = c.saved-age.ensures.age ∙ ap (λ (x : SavedFrames). x.age) saved in
    record {
      describes = rw (geometry, age, c.requires.saved) at c.in-Ok.ensures.describes;
      brief = c.in-Ok.ensures.brief;
      ranges = ap (λ (v : Vec NumberRange Global). v.items) c.in-Ok.ensures.ranges ∙ c.in_ok-ranges.ensures.ranges ∙
          ap (λ (p : Plan). map numbers_of p.ranges) c.superblock-2.ensures;
      layout = c.in-Ok.ensures.layout ∙ ap (λ (v : Version). version_number v) c.version-version.ensures.value ∙
          ap (λ (p : Plan). version_number p.version) c.superblock.ensures;
    }

pub returns-in-Ok-clause-same : goal.returns-in-Ok-clause-same
returns-in-Ok-clause-same g c = g.met.S.WholeStore.still c.args.store.now c.describe.new.store
    c.in-Ok.ensures.only_reads.snapshots.continues

pub returns-in-Err-clause-same : goal.returns-in-Err-clause-same
returns-in-Err-clause-same g c = g.met.S.WholeStore.still c.args.store.now c.describe.new.store
    c.in-Err.ensures.only_reads.snapshots.continues
