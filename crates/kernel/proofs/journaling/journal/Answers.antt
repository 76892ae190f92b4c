use Rattle.kernel.proofs.Names.{err_from_is_err_and, left_in, whole, ap, length, nat_lt, is_page_now, is_still_saved}
use Rattle.kernel.proofs.Acts.{unfailed}
use Rattle.kernel.proofs.Journals.{journal_cause, journal_refused, journal_went, done_usable, too_old, unlooked_same}
use Rattle.kernel.proofs.Stages.{keepable_most, none_there}
use Rattle.kernel.proofs.journaling.journal.Goals as goal

pub returns-then-is_worn-clause-serves : goal.returns-then-is_worn-clause-serves
returns-then-is_worn-clause-serves g c =
    too_old _ _ _ g.met.D.Device.only_now g.met.S.ObjectStore.sound_holds c.args.live.now c.args.number
    (c.is_worn.ensures.worn c.if-is_worn.true)

pub journal-requires-clause-may : goal.journal-requires-clause-may
journal-requires-clause-may g c =
    let up = c.requires in
    record {
      usable = (g.met.S.ObjectStore.usable_is c.args.live.now.store).1 up.1.store;
      keepable = keepable_most up.0 (g.S.Frames.parts c.args.live.now.store) c.args.live.now.age up.1.sound.geometry up.1.sound.now;
    }

pub returns-clause-serves : goal.returns-clause-serves
returns-clause-serves g c =
    let snapshots = (g.S.ObjectStore.view c.args.live.now.store).snapshots in
    let said = c.in_ok-generation.ensures in
    let reported = said.answer in
    let stayed = unfailed (g.met.S.ObjectStore.failures_are c.args.live.now.store) (g.met.S.ObjectStore.failures_are c.journal.new.self)
    reported.0 in
    journal_went _ _ _ g.met.D.Device.only_now g.met.S.ObjectStore.sound_holds c.args.live.now c.journal.new.self c.args.number
    (c.is_worn.ensures.young c.if-is_worn.false) said.size (rw c.saved-age.ensures.age at said.any_moment)
    (none_there snapshots.frozen reported.1)
    reported.2 reported.3 (said.same stayed) reported.4
    c.in_ok-generation.generation reported.5 (rw c.saved-age.ensures.age at said.snapshots)
    (done_usable c.in_ok-generation.generation said.usable)

pub returns-in_err-generation : goal.returns-in_err-generation
returns-in_err-generation g c =
    let failed = err_from_is_err_and c.from_residual.result c.from_residual.ensures.1 in
    let p = g.S.Frames.parts c.args.live.now.store in
    let old = g.D.Device.disk (g.S.ObjectStore.view c.args.live.now.store).beneath in
    let new = g.D.Device.disk (g.S.ObjectStore.view c.journal.new.self).beneath in
    let snapshots = (g.S.ObjectStore.view c.args.live.now.store).snapshots in
    let n = c.args.number in
    let said = c.in_err-generation.ensures in
    rw (failed.1, failed.2) (record {
      serves = journal_refused _ _ _ g.met.D.Device.only_now g.met.S.ObjectStore.sound_holds c.args.live.now c.journal.new.self n
          (c.is_worn.ensures.young c.if-is_worn.false) _
          said.size said.answer said.turned_away said.refused
          (λ stayed. said.same (unfailed (g.met.S.ObjectStore.failures_are c.args.live.now.store)
          (g.met.S.ObjectStore.failures_are c.journal.new.self) stayed))
          said.usable (rw c.saved-age.ensures.age at said.any_moment);
      cause = journal_cause old new (left_in whole snapshots) snapshots.saved (nat_lt n (length p.headers)) (is_page_now p n)
          (is_still_saved p snapshots.saved n) _ said.answer;
      untouched = λ is. ap (λ s. (g.S.ObjectStore.view s).beneath) (unlooked_same old new (left_in whole snapshots) snapshots.saved
          (nat_lt n (length p.headers)) (is_page_now p n) (is_still_saved p snapshots.saved n) _ said.answer said.turned_away is);
      no_fault = tt;
    })
