use Rattle.recovery.proofs.Recovered.{found_still, recovers, refused_cause, refused_for, refuses, risen_later}
use Rattle.recovery.proofs.recovering.recover_in.Goals as goal

pub returns-in-Ok-examine-clause-opened : goal.returns-in-Ok-examine-clause-opened
returns-in-Ok-examine-clause-opened g c =
    let disk = g.D.Device.disk in
    let view = g.S.ObjectStore.view in
    let parts = g.S.Frames.parts in
    let laws = g.met.S.ObjectStore in
    let device = g.met.D.Device in
    let s = c.in-Ok.store in
    let t = c.examine.new.store in
    let said = c.in-Ok-examine.ensures in
    recovers disk view parts device.counts_now device.seen_left laws.sound_holds laws.geometry_is c.args.device s t c.in-Ok.ensures.opened
    said.snapshots
    (laws.continues s t said.snapshots.continues) (laws.continues_peeks s t said.snapshots.continues)
    c.in-Ok-examine.banks c.saved-age.result.age c.saved-age.ensures.age said.same
    (found_still (parts s) (parts t) (disk (view s).beneath) (disk (view t).beneath) (laws.failures_are s) (laws.failures_are t) said.same)
    said.sound said.counted

pub returns-in-Ok-examine-clause-set : goal.returns-in-Ok-examine-clause-set
returns-in-Ok-examine-clause-set g c =
    g.met.S.ObjectStore.stays_set c.args.setting c.in-Ok.store c.examine.new.store c.in-Ok-examine.ensures.snapshots.continues
    c.in-Ok.ensures.set

pub returns-in-Err-examine-clause-refused : goal.returns-in-Err-examine-clause-refused
returns-in-Err-examine-clause-refused g c =
    let disk = g.D.Device.disk in
    let view = g.S.ObjectStore.view in
    let parts = g.S.Frames.parts in
    let laws = g.met.S.ObjectStore in
    let device = g.met.D.Device in
    let s = c.in-Ok.store in
    let t = c.examine.new.store in
    let said = c.in-Err-examine.ensures in
    refuses disk view parts device.counts_now device.seen_left laws.sound_holds laws.geometry_is c.args.device s t c.in-Ok.ensures.opened
    said.snapshots
    (laws.continues s t said.snapshots.continues) (laws.continues_peeks s t said.snapshots.continues)
    c.in-Err-examine.fault
    (risen_later (parts s) (parts t) (disk (view s).beneath) (disk (view t).beneath) (laws.failures_are s) (laws.failures_are t)
    said.snapshots.later)
    (refused_cause (parts s) (parts t) (disk (view s).beneath) (disk (view t).beneath) (laws.failures_are s) (laws.failures_are t)
    c.in-Err-examine.fault
    said.cause) (refused_for c.in-Err-examine.fault said.bad) c.into_device.result c.into_device.ensures

pub examine-requires-clause-usable : goal.examine-requires-clause-usable
examine-requires-clause-usable g c = (g.met.S.ObjectStore.usable_is c.in-Ok.store).1 c.in-Ok.ensures.opened.usable
