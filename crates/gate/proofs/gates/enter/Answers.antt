use Rattle.gate.proofs.Names.{Object, annex_at, ap, is_process, objects_in, List, arith, sym, subst, All, Capability, frames_of, keepable_later, keeps_twice}
use Rattle.gate.proofs.Names.{FitsCap}
use Rattle.std.proofs.Common.{◌≡◌, ◌+◌, ◌∙◌}
use Rattle.gate.proofs.Plans.{after_annex, after_process}
use Rattle.gate.proofs.Standing.{in_geometry}
use Rattle.gate.proofs.gates.enter.Goals as goal

pub deliver-requires : goal.deliver-requires
deliver-requires g c =
    let i = c.args.invocation.now in
    let q = c.args.gate.process in
    let os = objects_in (g.F.Frames.parts c.args.store.now) in
    let mid = c.set_state_at_gate.new.store in
    let before = c.set_state_at_gate.ensures in
    let annex : c.args.annex ≡ annex_at (objects_in (g.F.Frames.parts mid)) q =
    c.requires.annex ∙ sym (ap (λ (us : List Object). annex_at us q) before.objects ∙ after_annex os i q) in
    record {
      process = ap (λ (us : List Object). is_process us q) before.objects ∙ after_process os i c.requires.process q ∙ c.requires.receiver;
      root_fetched = before.snapshots.fetched q c.requires.fetched.1;
      root_announced = before.snapshots.announced q c.requires.announced.0;
      annex_fetched = subst (g.F.Frames.IsFetched mid) annex (before.snapshots.fetched c.args.annex c.requires.fetched.2);
      annex_announced = subst (g.F.PresentFrames.IsAnnounced mid) annex (before.snapshots.announced c.args.annex c.requires.announced.1);
    }

pub returns-then-gate-clause-keepable : goal.returns-then-gate-clause-keepable
returns-then-gate-clause-keepable g c age young fits k =
    let before = c.set_state_at_gate in
    let first = in_geometry before.ensures.snapshots.geometry (before.ensures.keepable age k) in
    let all = subst (λ (cs : List Capability). All (FitsCap (g.F.Frames.parts before.new.store).geometry) cs)
    (sym c.message-message.ensures.capabilities)
    (rw before.ensures.snapshots.geometry fits) in
    let second = in_geometry c.deliver.ensures.snapshots.geometry (c.deliver.ensures.keepable age all first) in
    in_geometry (sym (c.deliver.ensures.snapshots.geometry ∙ before.ensures.snapshots.geometry))
    (c.consume.ensures.keepable age young second)

pub returns-else-gate-clause-keepable : goal.returns-else-gate-clause-keepable
returns-else-gate-clause-keepable g c age young fits k =
    let before = c.set_state_at_gate in
    let first = in_geometry before.ensures.snapshots.geometry (before.ensures.keepable age k) in
    let all = subst (λ (cs : List Capability). All (FitsCap (g.F.Frames.parts before.new.store).geometry) cs)
    (sym c.message-message.ensures.capabilities)
    (rw before.ensures.snapshots.geometry fits) in
    keepable_later (g.F.Frames.parts c.args.store.now).geometry age (age + 1) (frames_of (g.F.Frames.parts c.deliver.new.store))
    (omega arith)
    (in_geometry (sym before.ensures.snapshots.geometry) (c.deliver.ensures.keepable age all first))

pub returns-else-gate-clause-snapshots : goal.returns-else-gate-clause-snapshots
returns-else-gate-clause-snapshots g c =
    let F = g.F.Frames in
    keeps_twice F.parts F.IsFetched g.F.PresentFrames.IsAnnounced F.ContinuesTo g.met.F.Frames.continues_twice _ _ _
    c.set_state_at_gate.ensures.snapshots
    c.deliver.ensures.snapshots

pub returns-then-gate-clause-snapshots : goal.returns-then-gate-clause-snapshots
returns-then-gate-clause-snapshots g c =
    let F = g.F.Frames in
    let twice = keeps_twice F.parts F.IsFetched g.F.PresentFrames.IsAnnounced F.ContinuesTo g.met.F.Frames.continues_twice in
    twice _ _ _ (twice _ _ _ c.set_state_at_gate.ensures.snapshots c.deliver.ensures.snapshots) c.consume.ensures.snapshots
