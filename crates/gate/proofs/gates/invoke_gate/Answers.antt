use Rattle.gate.proofs.Names.{ℕ, true, List, None, sym, ap, subst, All, slice_index, err_from_is_err_and, Capability, can_start, IsNoBankOrder, is_process}
use Rattle.gate.proofs.Names.{objects_in, entered, length, received, written_through, FitsCap, Parts, process_known, AreSound}
use Rattle.std.proofs.Common.{◌≡◌, ◌<◌, ◌||◌, ◌∙◌}
use Rattle.gate.proofs.Effects.{effect_through, gate_code, gate_invoked, gate_process, gate_stalled, received_fits, carried_out, found_stalled, unannounced}
use Rattle.gate.proofs.Standing.{announced_same, running_process, gate_no_bank, renews_invoked, annex_there, requested_annex, calls_below, few_objects}
use Rattle.gate.proofs.Standing.{keepable_most, now_sound}
use Rattle.gate.proofs.gates.invoke_gate.Goals as goal

pub fetch_process-requires-clause-may : goal.fetch_process-requires-clause-may
fetch_process-requires-clause-may g c = record {
  usable = c.requires.usable;
  keepable = keepable_most (g.F.Frames.parts c.args.store.now) c.requires.sound;
}

pub fetch_process-requires-clause-process : goal.fetch_process-requires-clause-process
fetch_process-requires-clause-process g c =
    gate_process (g.F.Frames.parts c.args.store.now) c.requires.sound c.args.gate c.requires.requested c.requires.gate

pub fetch_process-requires-clause-annex : goal.fetch_process-requires-clause-annex
fetch_process-requires-clause-annex g c =
    let old = g.F.Frames.parts c.args.store.now in
    annex_there old c.requires.sound c.args.gate.process (gate_process old c.requires.sound c.args.gate c.requires.requested
    c.requires.gate)

pub can_enter-requires-clause-process : goal.can_enter-requires-clause-process
can_enter-requires-clause-process g c =
    subst (λ (p : Parts). is_process (objects_in p) c.args.gate.process ≡ true) (sym c.in_ok-annex.ensures.fetches.same)
    (gate_process (g.F.Frames.parts c.args.store.now) c.requires.sound c.args.gate c.requires.requested c.requires.gate)

pub announce_gate-requires : goal.announce_gate-requires
announce_gate-requires g c =
    let old = g.F.Frames.parts c.args.store.now in
    let now = g.F.Frames.parts c.fetch_process.new.store in
    let same : old ≡ now = sym c.in_ok-annex.ensures.fetches.same in
    let process = gate_process old c.requires.sound c.args.gate c.requires.requested c.requires.gate in
    let i = c.args.invocation.now in
    let there : (n : ℕ) → n < length old.headers → n < length now.headers =
    λ n known. subst (λ (p : Parts). n < length p.headers) same known in
    record {
      may = record {
        usable = g.met.F.Frames.stays_usable c.args.store.now c.fetch_process.new.store c.in_ok-annex.ensures.fetches.snapshots.continues
            (ap (λ (p : Parts). p.failures) (sym same)) c.requires.usable;
        keepable = keepable_most now (subst AreSound same c.requires.sound);
      };
      process = there i.process (process_known old i.process (running_process (objects_in old) i.process c.requires.running));
      receiver = there c.args.gate.process (process_known old c.args.gate.process process);
      annex = there c.in_ok-annex.annex
          (requested_annex old c.requires.sound c.args.gate.process c.in_ok-annex.annex process c.in_ok-annex.ensures.annex.0);
    }

pub enter-requires-clause-receiver : goal.enter-requires-clause-receiver
enter-requires-clause-receiver g c =
    subst (λ (p : Parts). is_process (objects_in p) c.args.gate.process ≡ true)
    (sym (announced_same c.in_ok-annex.ensures.fetches c.in_ok-announce_gate.ensures.prepares))
    (gate_process (g.F.Frames.parts c.args.store.now) c.requires.sound c.args.gate c.requires.requested c.requires.gate)

pub enter-requires-clause-calls : goal.enter-requires-clause-calls
enter-requires-clause-calls g c =
    let old = g.F.Frames.parts c.args.store.now in
    let now = g.F.Frames.parts c.announce_gate.new.store in
    let there = sym (announced_same c.in_ok-annex.ensures.fetches c.in_ok-announce_gate.ensures.prepares) in
    let process = gate_process old c.requires.sound c.args.gate c.requires.requested c.requires.gate in
    calls_below now (subst AreSound there c.requires.sound) c.args.gate.process
    (subst (λ (p : Parts). c.args.gate.process < length p.headers) there (process_known old c.args.gate.process process))

pub enter-requires-clause-current : goal.enter-requires-clause-current
enter-requires-clause-current g c =
    (subst AreSound (sym (announced_same c.in_ok-annex.ensures.fetches c.in_ok-announce_gate.ensures.prepares)) c.requires.sound).1.current

pub returns-then-not-can_enter : goal.returns-then-not-can_enter
returns-then-not-can_enter g c =
    let old = g.F.Frames.parts c.args.store.now in
    let i = c.args.invocation.now in
    found_stalled i g.met.F.Frames.continues_twice c.fetch_process.new.store c.in_ok-annex.ensures.fetches
    (gate_stalled old.geometry (objects_in old) i c.args.caller c.args.gate c.requires.requested c.requires.gate
    (sym (c.if-not-can_enter.ensures ∙ ap (λ (p : Parts). c.args.gate.is_resume || can_start (objects_in p) i c.args.gate.process)
    c.in_ok-annex.ensures.fetches.same)))

pub returns-in_err-announce_gate : goal.returns-in_err-announce_gate
returns-in_err-announce_gate g c =
    let old = g.F.Frames.parts c.args.store.now in
    let i = c.args.invocation.now in
    let os = objects_in old in
    let can = sym (c.if-not-can_enter.ensures ∙ ap (λ (p : Parts). c.args.gate.is_resume || can_start (objects_in p) i c.args.gate.process)
    c.in_ok-annex.ensures.fetches.same) in
    let p = err_from_is_err_and c.from_residual-in_err-announce_gate.result c.from_residual-in_err-announce_gate.ensures.1 in
    rw (p.1, p.2) (unannounced i g.met.F.Frames.continues_twice c.announce_gate.new.store c.in_ok-annex.ensures.fetches
    _ (effect_through os i c.args.gate) (gate_invoked old.geometry os i c.args.caller c.args.gate c.requires.requested c.requires.gate
    c.requires.key can)
    (ap (written_through i.operation i.process c.args.gate.process) c.in_ok-annex.ensures.annex.0) _
    c.in_err-announce_gate.ensures.prepares)

pub returns : goal.returns
returns g c =
    let old = g.F.Frames.parts c.args.store.now in
    let mid = g.F.Frames.parts c.announce_gate.new.store in
    let there = announced_same c.in_ok-annex.ensures.fetches c.in_ok-announce_gate.ensures.prepares in
    let i = c.args.invocation.now in
    let os = objects_in old in
    let can = sym (c.if-not-can_enter.ensures ∙ ap (λ (p : Parts). c.args.gate.is_resume || can_start (objects_in p) i c.args.gate.process)
    c.in_ok-annex.ensures.fetches.same) in
    let invoked = gate_invoked old.geometry os i c.args.caller c.args.gate c.requires.requested c.requires.gate c.requires.key can in
    let effect = effect_through os i c.args.gate in
    let snapshots = c.enter.ensures.snapshots in
    let objects = c.enter.ensures.objects ∙ ap (λ (p : Parts). entered (objects_in p) i c.args.gate c.all_sent-sent.result) there
    ∙ ap (λ (cs : List Capability). entered os i c.args.gate cs) c.all_sent-sent.ensures in
    let fits = subst (λ (p : Parts). All (FitsCap p.geometry) (received i c.all_sent-sent.result)) (sym there)
    (received_fits old.geometry os i c.all_sent-sent.result (now_sound old c.requires.sound)
    (few_objects old c.requires.sound c.requires.few)
    (running_process os i.process c.requires.running) c.all_sent-sent.ensures) in
    let other = subst (λ (k : Capability). IsNoBankOrder k (slice_index i.words 0)) (sym c.requires.gate ∙ c.requires.requested.invoked)
    (gate_no_bank c.args.gate (slice_index i.words 0)) in
    carried_out i g.met.F.Frames.continues_twice c.enter.new.store c.in_ok-annex.ensures.fetches
    _ effect invoked (ap (written_through i.operation i.process c.args.gate.process) c.in_ok-annex.ensures.annex.0)
    c.announce_gate.new.store tt
    c.in_ok-announce_gate.ensures.prepares
    snapshots.failures snapshots.touched snapshots.geometry snapshots.continues objects c.requires.fits c.requires.running
    c.enter.ensures.current
    (λ age young. c.enter.ensures.keepable age young fits)
    (renews_invoked old mid (g.F.Frames.parts c.enter.new.store) i effect c.requires.sound (ap (λ (p : Parts). p.headers) there)
    c.requires.fits
    c.requires.running other invoked objects snapshots.allocations)
    None (sym (gate_code old.geometry os i c.args.caller c.args.gate c.requires.requested c.requires.gate))
