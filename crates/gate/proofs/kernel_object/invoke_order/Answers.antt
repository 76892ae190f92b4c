use Rattle.gate.proofs.Names.{ℕ, List, Some, drop, length, sym, ap, subst, IsTrue, All, err_from_is_err_and, annex_at, on_kernel_object, is_running_process}
use Rattle.gate.proofs.Names.{IsNow, objects_in, process_known, writer_count, IsPlanned, finished, ordered_by, FitsCap, counted_listed, AreCounted, AreSound}
use Rattle.gate.proofs.Names.{Parts, Renews}
use Rattle.std.proofs.Common.{◌≡◌, ◌<◌, ◌∙◌}
use Rattle.gate.proofs.Effects.{fetched_known, listed_known, object_invoked, order_after, order_code, order_fits, order_objects, order_written, carried_out}
use Rattle.gate.proofs.Effects.{unannounced}
use Rattle.gate.proofs.Standing.{announced_same, running_process, requested_annex, few_objects, inside_known, keepable_most, now_sound}
use Rattle.gate.proofs.kernel_object.invoke_order.Goals as goal

pub announce_order-requires : goal.announce_order-requires
announce_order-requires g c =
    let old = g.F.Frames.parts c.args.store.now in
    let now = g.F.Frames.parts c.plan_order.new.store in
    let same : old ≡ now = sym c.in_ok-plan.ensures.fetches.same in
    let os = objects_in old in
    let i = c.args.invocation.now in
    let caller = c.args.caller in
    let root = running_process os caller.process (subst (λ (p : ℕ). IsTrue (is_running_process os p)) (sym c.requires.requested.process)
    c.requires.running) in
    let known : (n : ℕ) → n < length old.headers → n < length now.headers =
    λ n within. subst (λ (p : Parts). n < length p.headers) same within in
    let there = known caller.process (process_known old caller.process root) in
    let annex = known caller.annex
    (requested_annex old c.requires.sound i.process caller.annex (running_process os i.process c.requires.running)
    c.requires.requested.annex) in
    let inside : (n : ℕ) → n < length os → n < length now.headers = λ n within. known n (inside_known old n within) in
    record {
      may = record {
        usable = g.met.F.Frames.stays_usable c.args.store.now c.plan_order.new.store c.in_ok-plan.ensures.fetches.snapshots.continues
            (ap (λ (p : Parts). p.failures) (sym same)) c.requires.usable;
        keepable = keepable_most now (subst AreSound same c.requires.sound);
      };
      process = there;
      annex = annex;
      known = subst (λ (ns : List ℕ). All (λ n. n < length now.headers) ns) (sym c.listed.ensures)
          (listed_known c.requires.requested c.in_ok-plan.ensures.planned root (λ n. n < length now.headers) there annex inside);
      new = fetched_known c.requires.requested c.in_ok-plan.ensures.planned root (λ n. n < length now.headers)
          (now_sound old c.requires.sound) inside;
    }

pub carry_out-requires : goal.carry_out-requires
carry_out-requires g c =
    let old = g.F.Frames.parts c.args.store.now in
    let there = sym (announced_same c.in_ok-plan.ensures.fetches c.in_ok-announce_order.ensures.prepares) in
    let os = objects_in old in
    let i = c.args.invocation.now in
    let caller = c.args.caller in
    let plan = c.in_ok-plan.plan in
    let banks = c.plan_order.new.banks in
    let running = subst (λ (p : ℕ). IsTrue (is_running_process os p)) (sym c.requires.requested.process) c.requires.running in
    let after = order_after c.requires.requested c.in_ok-plan.ensures.planned (running_process os caller.process running)
    (now_sound old c.requires.sound) c.requires.fits c.requires.running in
    record {
      sound = subst AreSound there c.requires.sound;
      counted = counted_listed c.in_ok-plan.ensures.kept
          (subst (λ (p : Parts). AreCounted p.geometry (objects_in p) c.args.banks.now) there c.requires.counted);
      running = subst (λ (p : Parts). IsTrue (is_running_process (objects_in p) caller.process)) there running;
      annex = c.requires.requested.annex ∙ ap (annex_at os) (sym c.requires.requested.process)
          ∙ ap (λ (p : Parts). annex_at (objects_in p) caller.process) there;
      planned = (
        i,
        subst (λ (p : Parts). IsPlanned p.geometry (objects_in p) i caller plan banks.listed) there
            c.in_ok-plan.ensures.planned,
      );
      announced = subst (λ (ns : List ℕ). All (g.F.PresentFrames.IsAnnounced c.announce_order.new.store) ns) c.listed.ensures
          c.in_ok-announce_order.ensures.announced;
      fetched = c.in_ok-announce_order.ensures.fetched;
      after = subst (λ (p : Parts). IsNow p.geometry (ordered_by (objects_in p) caller (drop (writer_count caller.operation) banks.listed)
          plan)) there
          after;
    }

pub returns-in_err-announce_order-clause-invoked : goal.returns-in_err-announce_order-clause-invoked
returns-in_err-announce_order-clause-invoked g c =
    let p = err_from_is_err_and c.from_residual-in_err-announce_order.result c.from_residual-in_err-announce_order.ensures.1 in
    let old = g.F.Frames.parts c.args.store.now in
    let os = objects_in old in
    let i = c.args.invocation.now in
    let caller = c.args.caller in
    let root = running_process os caller.process (subst (λ (q : ℕ). IsTrue (is_running_process os q)) (sym c.requires.requested.process)
    c.requires.running) in
    let written = order_written c.requires.requested c.in_ok-plan.ensures.planned root in
    rw (p.1, p.2) (unannounced i g.met.F.Frames.continues_twice c.announce_order.new.store c.in_ok-plan.ensures.fetches
    _ (on_kernel_object old.geometry os i) (object_invoked old.geometry os i caller c.requires.requested c.requires.object)
    (c.listed.ensures ∙ written) _
    c.in_err-announce_order.ensures.prepares)

pub returns-clause-invoked : goal.returns-clause-invoked
returns-clause-invoked g c =
    let old = g.F.Frames.parts c.args.store.now in
    let there = announced_same c.in_ok-plan.ensures.fetches c.in_ok-announce_order.ensures.prepares in
    let os = objects_in old in
    let i = c.args.invocation.now in
    let caller = c.args.caller in
    let plan = c.in_ok-plan.plan in
    let listed = c.plan_order.new.banks.listed in
    let planned = c.in_ok-plan.ensures.planned in
    let beside = c.carry_out.ensures.beside in
    let root = running_process os caller.process (subst (λ (q : ℕ). IsTrue (is_running_process os q)) (sym c.requires.requested.process)
    c.requires.running) in
    let written = order_written c.requires.requested planned root in
    let fits = subst (λ (p : Parts). FitsCap p.geometry plan.reply.capability) (sym there)
    (order_fits c.requires.requested planned root (now_sound old c.requires.sound) c.requires.fits c.requires.running
    (few_objects old c.requires.sound c.requires.few)) in
    let renews = subst (λ (p : Parts). Renews p (g.F.Frames.parts c.carry_out.new.store)) there beside.renews in
    carried_out i g.met.F.Frames.continues_twice c.carry_out.new.store c.in_ok-plan.ensures.fetches
    _ (on_kernel_object old.geometry os i) (object_invoked old.geometry os i caller c.requires.requested c.requires.object)
    (c.listed.ensures ∙ written)
    c.announce_order.new.store tt
    c.in_ok-announce_order.ensures.prepares beside.failures beside.touched beside.geometry beside.continues
    (c.carry_out.ensures.objects ∙ ap (λ (p : Parts). finished (objects_in p) caller (drop (writer_count caller.operation) listed) plan)
    there
    ∙ sym (order_objects c.requires.requested planned root))
    c.requires.fits c.requires.running c.carry_out.ensures.current (λ age young. c.carry_out.ensures.keepable age young fits)
    (record { each = renews.each }) (Some plan.reply.code)
    (sym (order_code c.requires.requested planned root (now_sound old c.requires.sound) c.requires.fits
    c.requires.running c.requires.object))
