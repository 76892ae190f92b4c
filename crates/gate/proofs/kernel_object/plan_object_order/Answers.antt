use Rattle.gate.proofs.Names.{true, ap, subst, sym, annex_at, is_process, objects_in, BanksState, Parts}
use Rattle.std.proofs.Common.{◌≡◌}
use Rattle.gate.proofs.Plans.{object_planned, process_there}
use Rattle.gate.proofs.Standing.{annex_there, few_objects, keepable_most, now_sound, register_kind}
use Rattle.gate.proofs.kernel_object.plan_object_order.Goals as goal

pub plan-plan-requires-clause-process : goal.plan-plan-requires-clause-process
plan-plan-requires-clause-process g c q is =
    let p = g.F.Frames.parts c.args.store.now in
    let i = c.args.invocation.now in
    let kind = register_kind p c.requires.sound i.process i.register c.args.caller.invoked c.requires.requested.invoked in
    subst (λ (r : Parts). is_process (objects_in r) q ≡ true) (sym c.in_ok-fetch_named.ensures.fetches.same)
    (process_there (objects_in p) c.args.caller.invoked kind q is)

pub plan-plan-requires-clause-annex : goal.plan-plan-requires-clause-annex
plan-plan-requires-clause-annex g c q is =
    subst (λ (p : Parts). g.F.Frames.IsFetched c.fetch_named.new.store (annex_at (objects_in p) q))
    (sym c.in_ok-fetch_named.ensures.fetches.same) (c.in_ok-fetch_named.ensures.annex q is)

pub fetch_named-requires : goal.fetch_named-requires
fetch_named-requires g c =
    let p = g.F.Frames.parts c.args.store.now in
    let i = c.args.invocation.now in
    let kind = register_kind p c.requires.sound i.process i.register c.args.caller.invoked c.requires.requested.invoked in
    record {
      may = record { usable = c.requires.usable; keepable = keepable_most p c.requires.sound };
      counted = c.requires.counted;
      kind = kind;
      annex = λ q is. annex_there p c.requires.sound q (process_there (objects_in p) c.args.caller.invoked kind q is);
    }

pub returns-clause-planned : goal.returns-clause-planned
returns-clause-planned g c =
    let old = g.F.Frames.parts c.args.store.now in
    let now = g.F.Frames.parts c.fetch_named.new.store in
    object_planned old.geometry (objects_in old) (objects_in now) c.args.invocation.now c.args.caller c.plan-plan.result
    c.needed_arguments-arguments.result
    c.args.banks.now.listed c.list_target.new.banks.listed
    (ap (λ (p : Parts). objects_in p) c.in_ok-fetch_named.ensures.fetches.same) (now_sound old c.requires.sound)
    (few_objects old c.requires.sound c.requires.few) c.requires.fits c.requires.requested
    c.needed_arguments-arguments.ensures c.requires.listed (ap (λ (s : BanksState). s.listed) c.list_target.ensures)
    c.plan-plan.ensures.only (c.plan-plan.ensures.outcome old.geometry) (c.plan-plan.ensures.change old.geometry)
