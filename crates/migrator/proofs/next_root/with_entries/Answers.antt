use Rattle.migrator.proofs.Names.{refl, rules, subst, sym, arith, take, Image, agrees_is, length, root_of, units_in}
use Rattle.std.proofs.Common.{◌≡◌, ◌∙◌, ◌+◌}
use Rattle.migrator.proofs.NextUnits.{root_all}
use Rattle.migrator.proofs.Opening.{reads_more, reads_none}
use Rattle.migrator.proofs.next_root.with_entries.Goals as goal

pub loop-index-init : goal.loop-index-init
loop-index-init g c = (reads_none (g.met.D.Device.only_now c.args.device.now), refl, c.requires.root)

pub with_entry-requires-clause-root : goal.with_entry-requires-clause-root
with_entry-requires-clause-root g c =
    let seen = agrees_is (g.D.Device.disk c.loop-index.device).seen (g.D.Device.disk c.args.device.now).seen c.loop-index.invariant.0.seen
    in
    subst (λ (i : Image). c.loop-index.root
    ≡ root_of (units_in i c.args.plan.now c.args.generation (take c.loop-index.index c.args.entries.now))) (sym seen)
    c.loop-index.invariant.2

pub loop-index-preserved : goal.loop-index-preserved
loop-index-preserved g c =
    let seen = agrees_is (g.D.Device.disk c.loop-index.device).seen (g.D.Device.disk c.args.device.now).seen c.loop-index.invariant.0.seen
    in
    let same : (g.D.Device.disk c.with_entry.new.device).failures ≡ (g.D.Device.disk c.loop-index.device).failures = search rules in (
      reads_more c.loop-index.invariant.0 c.with_entry.ensures.reads,
      same ∙ c.loop-index.invariant.1,
      subst (λ (i : Image). c.in_ok-more.more
          ≡ root_of (units_in i c.args.plan.now c.args.generation (take (c.loop-index.index + 1) c.args.entries.now))) seen
          c.in_ok-more.ensures.root,
    )

pub returns-in_err-more-clause-reads : goal.returns-in_err-more-clause-reads
returns-in_err-more-clause-reads g c = reads_more c.loop-index.invariant.0 c.with_entry.ensures.reads

pub returns-clause-root : goal.returns-clause-root
returns-clause-root g c =
    let end : c.loop-index.index ≡ length c.args.entries.now = search rules in
    root_all (g.D.Device.disk c.args.device.now).seen c.args.plan.now c.args.generation c.args.entries.now c.loop-index.index
    c.loop-index.root (omega (arith, end)) c.loop-index.invariant.2
