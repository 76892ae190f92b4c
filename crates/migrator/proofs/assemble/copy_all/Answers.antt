use Rattle.migrator.proofs.Names.{ℕ, length, refl, sym, ap, subst, arith, rules, inr, Image, agrees_is, shape_of, shape_bytes, shape_end, Plan, new_bytes}
use Rattle.migrator.proofs.Names.{one_length, length-zeros, zeros, all_blank, all_ended, all_in, ended_more, none_ended, one_frame_more}
use Rattle.std.proofs.Common.{◌≡◌, ◌∙◌, ◌+◌, ◌-◌, ◌*◌, ◌≤◌}
use Rattle.migrator.proofs.Opening.{reads_more, reads_none}
use Rattle.migrator.proofs.assemble.copy_all.Goals as goal

pub loop-k-init : goal.loop-k-init
unfolding zeros
loop-k-init g c = (
  reads_none (g.met.D.Device.only_now c.args.device.now),
  refl,
  (λ k lt. absurd (omega (arith, lt))),
  none_ended c.args.plan.now c.first-first.result c.blank.new.bytes (all_blank (length c.args.block.now) c.blank.ensures),
  ap length c.blank.ensures ∙ length-zeros (length c.args.block.now),
)

pub copy_new-requires-clause-object : goal.copy_new-requires-clause-object
copy_new-requires-clause-object g c = (rw (c.new-home.ensures) at c.sharers-k-end.ensures.all).object c.loop-k.k c.loop-k-test.true

pub copy_new-requires-clause-block : goal.copy_new-requires-clause-block
copy_new-requires-clause-block g c =
    let have = rw (c.new-home.ensures) at c.sharers-k-end.ensures.all in
    let start = rw (c.new-home.ensures) at c.first-first.ensures.first in
    let k : ℕ = c.loop-k.k in
    let one = one_length c.args.plan.now (c.first-first.result + k) c.args.number (rw (c.new-home.ensures) at c.sharers-k-end.ensures.plan)
    (have.object k c.loop-k-test.true) c.requires.object (have.same k c.loop-k-test.true ∙ start.home) in
    c.loop-k.invariant.4 ∙ c.requires.block ∙ ap (λ (n : ℕ). 512 * n) (sym one)

pub loop-k-preserved : goal.loop-k-preserved
loop-k-preserved g c =
    let p : Plan = c.args.plan.now in
    let first : ℕ = c.first-first.result in
    let plan = rw (c.new-home.ensures) at c.sharers-k-end.ensures.plan in
    let have = rw (c.new-home.ensures) at c.sharers-k-end.ensures.all in
    let k : ℕ = c.loop-k.k in
    let end : ℕ = shape_end (shape_of p (first + k)) in
    let image = (g.D.Device.disk c.args.device.now).seen in
    let old = c.loop-k.block in
    let new = c.copy_new.new.block in
    let same : (g.D.Device.disk c.copy_new.new.device).failures ≡ (g.D.Device.disk c.loop-k.device).failures = search rules in
    let here = subst (λ (i : Image). shape_bytes (shape_of p (first + k)) new
    ≡ new_bytes i p c.args.generation c.args.entries.now (first + k))
    (agrees_is (g.D.Device.disk c.loop-k.device).seen image c.loop-k.invariant.0.seen) c.in_ok-copy_new.ensures.copied in (
      reads_more c.loop-k.invariant.0 c.copy_new.ensures.reads,
      same ∙ c.loop-k.invariant.1,
      one_frame_more first k old new plan have c.loop-k-test.true (new_bytes image p c.args.generation c.args.entries.now)
          c.loop-k.invariant.2 here
          (λ s le. c.copy_new.ensures.others s (inr le)),
      ended_more first k old new plan have c.loop-k-test.true c.loop-k.invariant.3
          (λ blank. c.copy_new.ensures.behind ∙ blank ∙ ap (λ (n : ℕ). zeros (n - end)) (sym c.copy_new.ensures.size)),
      c.copy_new.ensures.size ∙ c.loop-k.invariant.4,
    )

pub returns-clause-filled : goal.returns-clause-filled
returns-clause-filled g c =
    all_in c.loop-k.block (rw (c.new-home.ensures) at c.first-first.ensures.first) (rw (c.new-home.ensures) at c.sharers-k-end.ensures.all)
    c.loop-k.k
    (omega (arith, c.loop-k-test.false)) (new_bytes (g.D.Device.disk c.args.device.now).seen c.args.plan.now c.args.generation
    c.args.entries.now)
    c.loop-k.invariant.2

pub returns-clause-zeros : goal.returns-clause-zeros
returns-clause-zeros g c =
    let most : c.loop-k.k ≤ c.sharers-k-end.result = search rules in
    all_ended c.loop-k.block (rw (c.new-home.ensures) at c.first-first.ensures.first)
    (rw (c.new-home.ensures) at c.sharers-k-end.ensures.all) c.loop-k.k
    (omega (arith, c.loop-k-test.false)) most c.loop-k.invariant.3
