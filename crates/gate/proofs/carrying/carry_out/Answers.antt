use Rattle.gate.proofs.Names.{true, List, ap, arith, drop, refl, subst, sym, ℕ, All-drop, Geometry, Object, is_annex, annex_at, content_at, is_process}
use Rattle.gate.proofs.Names.{tests_at, changed, AreSound, frames_of, objects_in, annex_used, root_used, keepable_roles, AreCounted, writer_count, renews_after}
use Rattle.gate.proofs.Names.{renews_then, answered, state_before, FitsCap}
use Rattle.std.proofs.Common.{◌≡◌, ◌+◌, ◌∙◌}
use Rattle.gate.proofs.BankStates.{annex_listed, answered_frame, before_counted, before_frame, before_may, before_sound, counted_on, no_send, process_listed}
use Rattle.gate.proofs.BankStates.{writers_within}
use Rattle.gate.proofs.Effects.{frame_before}
use Rattle.gate.proofs.Standing.{in_geometry, running_process, free_in_frame}
use Rattle.gate.proofs.carrying.carry_out.Goals as goal

pub set_state_before_order-requires-clause-announced : goal.set_state_before_order-requires-clause-announced
set_state_before_order-requires-clause-announced g c other =
    let caller = c.args.caller in
    process_listed (g.F.PresentFrames.IsAnnounced c.args.store.now) caller.operation caller.process caller.annex
    (drop (writer_count caller.operation) c.args.banks.now.listed)
    c.args.banks.now.listed c.requires.planned.1.listed other c.requires.announced

pub change-requires : goal.change-requires
change-requires g c =
    let before = c.set_state_before_order in
    let old = g.F.Frames.parts c.args.store.now in
    let mid = g.F.Frames.parts before.new.store in
    let caller = c.args.caller in
    let banks = c.args.banks.now in
    let same = before.ensures.snapshots.geometry in
    let sound : AreSound mid = before_sound old mid banks c.requires.sound c.requires.counted caller.operation caller.process
    c.requires.running
    before.ensures.objects same
    (before.ensures.current c.requires.sound.1.current) (before.ensures.keepable c.requires.sound.0 c.requires.sound.1.keepable) in
    let may = before_may old mid banks c.requires.sound c.requires.counted caller.operation caller.process c.requires.running
    before.ensures.objects same
    c.requires.planned.0 caller c.args.plan banks.listed c.requires.planned.1 sound in
    rw c.writer_count.ensures (record {
      sound = sound;
      counted = before_counted old mid banks c.requires.sound c.requires.counted caller.operation caller.process c.requires.running
          before.ensures.objects
          same;
      may = may;
      within = writers_within caller.operation caller.process caller.annex (drop (writer_count caller.operation) banks.listed) banks.listed
          c.requires.planned.1.listed;
      announced = All-drop (g.F.PresentFrames.IsAnnounced before.new.store) (writer_count caller.operation) banks.listed
          (λ k d inside. before.ensures.snapshots.announced _ (c.requires.announced k d inside));
      fetched = λ k d inside. before.ensures.snapshots.fetched _ (c.requires.fetched.2 k d inside);
    })

pub answer-requires-clause-roles : goal.answer-requires-clause-roles
answer-requires-clause-roles g c =
    let before = c.set_state_before_order in
    let sound = c.requires.sound in
    let same = before.ensures.snapshots.geometry in
    keepable_roles (g.F.Frames.parts before.new.store).geometry (sound.0 + 1) (frames_of (g.F.Frames.parts c.change.new.store))
    (c.change.ensures.keepable sound.0 (omega (arith, sound.1.sound.age)) (in_geometry same
    (before.ensures.keepable sound.0 sound.1.keepable)))

pub answer-requires-clause-root : goal.answer-requires-clause-root
answer-requires-clause-root g c call is =
    let before = c.set_state_before_order in
    let caller = c.args.caller in
    let used = root_used (content_at (objects_in (g.F.Frames.parts c.change.new.store)) caller.process) is in
    let announced = process_listed (g.F.PresentFrames.IsAnnounced c.args.store.now) caller.operation caller.process caller.annex
    (drop (writer_count caller.operation) c.args.banks.now.listed)
    c.args.banks.now.listed c.requires.planned.1.listed (no_send caller.operation call) c.requires.announced in (
      c.change.ensures.snapshots.fetched caller.process used (before.ensures.snapshots.fetched caller.process c.requires.fetched.0),
      c.change.ensures.snapshots.announced caller.process used (before.ensures.snapshots.announced caller.process announced),
    )

pub answer-requires-clause-annex : goal.answer-requires-clause-annex
answer-requires-clause-annex g c call is =
    let before = c.set_state_before_order in
    let os = objects_in (g.F.Frames.parts c.args.store.now) in
    let new = objects_in (g.F.Frames.parts c.change.new.store) in
    let caller = c.args.caller in
    let plan = c.args.plan in
    let listed = c.args.banks.now.listed in
    let rest = drop (writer_count caller.operation) listed in
    let us = state_before caller.operation os caller.process in
    let process = running_process os caller.process c.requires.running in
    let frame = frame_before caller.operation os caller.process process in
    let objects : new ≡ changed us rest plan.change =
    c.change.ensures.objects ∙ ap (λ (k : ℕ). changed (objects_in (g.F.Frames.parts before.new.store)) (drop k listed) plan.change)
    c.writer_count.ensures
    ∙ ap (λ (vs : List Object). changed vs rest plan.change) before.ensures.objects in
    let still : is_process (changed us rest plan.change) caller.process ≡ true =
    subst (λ (vs : List Object). is_process vs caller.process ≡ true) objects is in
    let was : is_process us caller.process ≡ true = (tests_at os us frame caller.process).root ∙ process in
    let same : annex_at new caller.process ≡ caller.annex =
    ap (λ (vs : List Object). annex_at vs caller.process) objects
    ∙ c.requires.planned.1.plans.annex us frame caller.process was still ∙ (frame.alike caller.process).annex ∙ sym c.requires.annex in
    let after : is_annex (content_at new (annex_at new caller.process)) ≡ true =
    subst (λ (vs : List Object). is_annex (content_at vs (annex_at vs caller.process)) ≡ true) (sym objects)
    (c.requires.after.frame.annexes caller.process still).0 in
    let used = annex_used (content_at new (annex_at new caller.process)) after in
    let announced = annex_listed (g.F.PresentFrames.IsAnnounced c.args.store.now) caller.operation caller.process caller.annex rest listed
    c.requires.planned.1.listed call c.requires.announced in (
      c.change.ensures.snapshots.fetched (annex_at new caller.process) used
          (before.ensures.snapshots.fetched (annex_at new caller.process) (subst (g.F.Frames.IsFetched c.args.store.now) (sym same)
          c.requires.fetched.1)),
      c.change.ensures.snapshots.announced (annex_at new caller.process) used
          (before.ensures.snapshots.announced (annex_at new caller.process)
          (subst (g.F.PresentFrames.IsAnnounced c.args.store.now) (sym same) announced)),
    )

pub returns-clause-objects : goal.returns-clause-objects
returns-clause-objects g c =
    let before = c.set_state_before_order in
    let caller = c.args.caller in
    let plan = c.args.plan in
    let listed = c.args.banks.now.listed in
    c.answer.ensures.objects ∙ ap (λ (us : List Object). answered caller.operation caller.process us plan.reply)
    (c.change.ensures.objects ∙ ap (λ (k : ℕ). changed (objects_in (g.F.Frames.parts before.new.store)) (drop k listed) plan.change)
    c.writer_count.ensures
    ∙ ap (λ (us : List Object). changed us (drop (writer_count caller.operation) listed) plan.change) before.ensures.objects)

pub returns-clause-current : goal.returns-clause-current
returns-clause-current g c = c.answer.ensures.current c.change.ensures.current

pub returns-clause-counted : goal.returns-clause-counted
returns-clause-counted g c =
    let before = c.set_state_before_order in
    let us = objects_in (g.F.Frames.parts c.change.new.store) in
    let caller = c.args.caller in
    subst (λ (h : Geometry). AreCounted h (objects_in (g.F.Frames.parts c.answer.new.store)) c.change.new.banks)
    before.ensures.snapshots.geometry
    (subst (λ (vs : List Object). AreCounted (g.F.Frames.parts before.new.store).geometry vs c.change.new.banks)
    (sym c.answer.ensures.objects)
    (counted_on (answered_frame caller.operation us caller.process c.args.plan.reply)
    c.change.ensures.counted))

pub returns-clause-keepable : goal.returns-clause-keepable
returns-clause-keepable g c age young fits k =
    let before = c.set_state_before_order in
    let first = before.ensures.snapshots.geometry in
    let second = c.change.ensures.snapshots.geometry in
    in_geometry (sym (second ∙ first))
    (c.answer.ensures.keepable (age + 1) (subst (λ (h : Geometry). FitsCap h c.args.plan.reply.capability) (sym (second ∙ first)) fits)
    (in_geometry second
    (c.change.ensures.keepable age young (in_geometry first (before.ensures.keepable age k)))))

pub returns-clause-beside : goal.returns-clause-beside
returns-clause-beside g c =
    let before = c.set_state_before_order in
    let old = g.F.Frames.parts c.args.store.now in
    let mid = g.F.Frames.parts before.new.store in
    let then = g.F.Frames.parts c.change.new.store in
    let new = g.F.Frames.parts c.answer.new.store in
    let caller = c.args.caller in
    let frame = before_frame old mid c.args.banks.now c.requires.sound c.requires.counted caller.operation caller.process c.requires.running
    before.ensures.objects before.ensures.snapshots.geometry in
    let freed = free_in_frame then new _ c.answer.ensures.objects (answered_frame caller.operation (objects_in then) caller.process
    c.args.plan.reply) in
    record {
      renews = renews_after old mid new before.ensures.snapshots.allocations (free_in_frame old mid (objects_in mid) refl frame)
          (renews_then mid then new c.change.ensures.snapshots.renews c.answer.ensures.snapshots.allocations freed);
      touched = c.answer.ensures.snapshots.touched ∙ c.change.ensures.snapshots.touched ∙ before.ensures.snapshots.touched;
      geometry = c.answer.ensures.snapshots.geometry ∙ c.change.ensures.snapshots.geometry ∙ before.ensures.snapshots.geometry;
      failures = c.answer.ensures.snapshots.failures ∙ c.change.ensures.snapshots.failures ∙ before.ensures.snapshots.failures;
      continues = g.met.F.Frames.continues_twice _ _ _ before.ensures.snapshots.continues
          (g.met.F.Frames.continues_twice _ _ _ c.change.ensures.snapshots.continues c.answer.ensures.snapshots.continues);
    }
