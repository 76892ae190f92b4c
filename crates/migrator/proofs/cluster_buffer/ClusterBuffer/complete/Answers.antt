use Rattle.migrator.proofs.Names.{Image, IfOk-weaker, Option, Unwritten, AreComplete, agrees_is, counted_ok, counts_on, mended, subst, sym, [], root_of}
use Rattle.migrator.proofs.Names.{units_in, IsNextRoot}
use Rattle.std.proofs.Common.{◌≡◌}
use Rattle.migrator.proofs.CompleteSlots.{home_stays_root, keeps_read}
use Rattle.migrator.proofs.Publishing.{on_ok}
use Rattle.migrator.proofs.cluster_buffer.ClusterBuffer.complete.Goals as goal

pub next_root-requires-clause-root : goal.next_root-requires-clause-root
next_root-requires-clause-root g c =
    λ sealed. subst (λ (o : Option Unwritten). c.args.root
    ≡ root_of (units_in (mended (g.D.Device.disk c.complete_slots.new.device).seen o) c.args.plan.now c.args.generation []))
    c.in_ok-complete_slots.ensures.none (home_stays_root c.requires.plan c.complete_slots.ensures.keeps (c.requires.root sealed))

pub returns-clause-complete : goal.returns-clause-complete
returns-clause-complete g c =
    let mid = (g.D.Device.disk c.complete_slots.new.device).seen in
    let seen = agrees_is (g.D.Device.disk c.next_root.new.device).seen mid c.next_root.ensures.reads.seen in
    on_ok c.next_root.result (subst (λ (i : Image). AreComplete i c.args.plan.now c.args.generation c.args.entries.now) (sym seen)
    c.in_ok-complete_slots.ensures.complete)

pub returns-clause-keeps : goal.returns-clause-keeps
returns-clause-keeps g c =
    keeps_read c.in_ok-complete_slots.ensures.none c.complete_slots.ensures.keeps c.next_root.ensures.reads

pub returns-clause-root : goal.returns-clause-root
returns-clause-root g c =
    let mid = (g.D.Device.disk c.complete_slots.new.device).seen in
    let seen = agrees_is (g.D.Device.disk c.next_root.new.device).seen mid c.next_root.ensures.reads.seen in
    IfOk-weaker c.next_root.result _ _ (λ new. subst (λ (i : Image). IsNextRoot i c.args.plan.now c.args.generation c.args.entries.now
    c.args.root new) (sym seen)) c.next_root.ensures.root

pub returns-clause-cause : goal.returns-clause-cause
returns-clause-cause g c = counts_on (counted_ok c.in_ok-complete_slots.ensures.cause) c.next_root.ensures.cause
