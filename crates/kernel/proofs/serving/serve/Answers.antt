use Rattle.kernel.proofs.Names.{arith, answer_of}
use Rattle.model.specs.declared.command.Command.TheVariants as command
use Rattle.kernel.proofs.Acts.{acted, caused, counted_still, up_counted, up_sound}
use Rattle.kernel.proofs.serving.serve.Goals as goal

pub returns-in-Load-clause-serves : goal.returns-in-Load-clause-serves
returns-in-Load-clause-serves g c =
    let l = c.args.live.now in
    let failures = g.met.S.ObjectStore.failures_are in
    let said = c.load.ensures in
    rw c.in-Load.is (acted _ _ _ g.met.D.Device.only_now g.met.S.ObjectStore.sound_holds l c.load.new.store
    (g.met.S.ObjectStore.continues l.store c.load.new.store said.snapshots.continues) (failures l.store) (failures c.load.new.store) l.banks
    l.age (command.Load c.in-Load.process c.in-Load.address)
    (answer_of c.load.result) (omega arith) (said.serves l.age (up_sound _ _ _ l c.requires.up))
    (counted_still said.snapshots.same (up_counted _ _ _ l c.requires.up)))

pub returns-in-Store-clause-serves : goal.returns-in-Store-clause-serves
returns-in-Store-clause-serves g c =
    let l = c.args.live.now in
    let failures = g.met.S.ObjectStore.failures_are in
    let said = c.store.ensures in
    rw c.in-Store.is (acted _ _ _ g.met.D.Device.only_now g.met.S.ObjectStore.sound_holds l c.store.new.store
    (g.met.S.ObjectStore.continues l.store c.store.new.store said.continues) (failures l.store) (failures c.store.new.store) l.banks l.age
    (command.Store c.in-Store.process c.in-Store.address
    c.in-Store.value) (answer_of c.store.result) (omega arith) (said.serves l.age (up_sound _ _ _ l c.requires.up))
    (said.counted l.banks (up_counted _ _ _ l c.requires.up)))

pub returns-in-Show-clause-serves : goal.returns-in-Show-clause-serves
returns-in-Show-clause-serves g c =
    let l = c.args.live.now in
    let failures = g.met.S.ObjectStore.failures_are in
    let said = c.show.ensures in
    rw c.in-Show.is (acted _ _ _ g.met.D.Device.only_now g.met.S.ObjectStore.sound_holds l c.show.new.store
    (g.met.S.ObjectStore.continues l.store c.show.new.store said.snapshots.continues) (failures l.store) (failures c.show.new.store) l.banks
    l.age (command.Show c.in-Show.number) (answer_of c.show.result)
    (omega arith) (said.serves l.age (up_sound _ _ _ l c.requires.up)) (counted_still said.snapshots.same
    (up_counted _ _ _ l c.requires.up)))

pub returns-in-Evict-clause-serves : goal.returns-in-Evict-clause-serves
returns-in-Evict-clause-serves g c = rw c.in-Evict.is c.evict.ensures.serves

pub returns-in-Checkpoint-clause-serves : goal.returns-in-Checkpoint-clause-serves
returns-in-Checkpoint-clause-serves g c = rw c.in-Checkpoint.is c.checkpoint.ensures.serves

pub returns-in-Stabilize-clause-serves : goal.returns-in-Stabilize-clause-serves
returns-in-Stabilize-clause-serves g c = rw c.in-Stabilize.is c.stabilize.ensures.serves

pub returns-in-Commit-clause-serves : goal.returns-in-Commit-clause-serves
returns-in-Commit-clause-serves g c = rw c.in-Commit.is c.commit.ensures.serves

pub returns-in-Journal-clause-serves : goal.returns-in-Journal-clause-serves
returns-in-Journal-clause-serves g c = rw c.in-Journal.is c.journal.ensures.serves

pub returns-in-Migrate-clause-serves : goal.returns-in-Migrate-clause-serves
returns-in-Migrate-clause-serves g c = rw c.in-Migrate.is c.migrate.ensures.serves

pub returns-in-Load-clause-cause : goal.returns-in-Load-clause-cause
returns-in-Load-clause-cause g c =
    let failures = g.met.S.ObjectStore.failures_are in
    caused (failures c.args.live.now.store) (failures c.load.new.store)
    (c.load.ensures.serves c.args.live.now.age (up_sound _ _ _ c.args.live.now c.requires.up))

pub returns-in-Store-clause-cause : goal.returns-in-Store-clause-cause
returns-in-Store-clause-cause g c =
    let failures = g.met.S.ObjectStore.failures_are in
    caused (failures c.args.live.now.store) (failures c.store.new.store)
    (c.store.ensures.serves c.args.live.now.age (up_sound _ _ _ c.args.live.now c.requires.up))

pub returns-in-Show-clause-cause : goal.returns-in-Show-clause-cause
returns-in-Show-clause-cause g c =
    let failures = g.met.S.ObjectStore.failures_are in
    caused (failures c.args.live.now.store) (failures c.show.new.store)
    (c.show.ensures.serves c.args.live.now.age (up_sound _ _ _ c.args.live.now c.requires.up))

pub load-requires-clause-usable : goal.load-requires-clause-usable
load-requires-clause-usable g c = (g.met.S.ObjectStore.usable_is c.args.live.now.store).1 c.requires.up.1.store

pub load-requires-clause-sound : goal.load-requires-clause-sound
load-requires-clause-sound g c = (c.args.live.now.age, up_sound _ _ _ c.args.live.now c.requires.up)

pub store-requires-clause-usable : goal.store-requires-clause-usable
store-requires-clause-usable g c = (g.met.S.ObjectStore.usable_is c.args.live.now.store).1 c.requires.up.1.store

pub store-requires-clause-sound : goal.store-requires-clause-sound
store-requires-clause-sound g c = (c.args.live.now.age, up_sound _ _ _ c.args.live.now c.requires.up)

pub show-requires-clause-usable : goal.show-requires-clause-usable
show-requires-clause-usable g c = (g.met.S.ObjectStore.usable_is c.args.live.now.store).1 c.requires.up.1.store

pub show-requires-clause-sound : goal.show-requires-clause-sound
show-requires-clause-sound g c = (c.args.live.now.age, up_sound _ _ _ c.args.live.now c.requires.up)
