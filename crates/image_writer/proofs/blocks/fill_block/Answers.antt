use Rattle.image_writer.proofs.Names.{nat_tests, ℕ, List, Frame, arith, rules, frame_at, frame_bytes, frames_in, shape_bytes, shape_of, all_ended, all_in, ap}
use Rattle.image_writer.proofs.Names.{ended_more, front_shape, none_ended, one_frame_more, sym}
use Rattle.std.proofs.Common.{◌≡◌, ◌∙◌, ◌+◌, ◌≤◌}
use Rattle.image_writer.proofs.HomeFrames.{frame_there}
use Rattle.image_writer.proofs.blocks.fill_block.Goals as goal

pub loop-k-init : goal.loop-k-init
loop-k-init c = (
  (λ k lt. absurd (omega (arith, lt))),
  none_ended c.args.home.now c.first-first.result c.args.block.now c.requires.blank,
  c.requires.block,
)

pub bounds-contents-n : goal.bounds-contents-n
bounds-contents-n c =
    let object = c.sharers-k-end.ensures.all.object c.loop-k.k c.loop-k-test.true in omega (arith, object, c.requires.contents)

pub bounds-headers-n : goal.bounds-headers-n
bounds-headers-n c =
    let object = c.sharers-k-end.ensures.all.object c.loop-k.k c.loop-k-test.true in omega (arith, object, c.requires.headers)

pub loop-k-preserved : goal.loop-k-preserved
loop-k-preserved c =
    let p = c.args.home.now in
    let first : ℕ = c.first-first.result in
    let frames : List Frame = frames_in c.args.headers.now c.args.contents.now in
    let k : ℕ = c.loop-k.k in
    let plan = c.sharers-k-end.ensures.plan in
    let have = c.sharers-k-end.ensures.all in
    let object = have.object k c.loop-k-test.true in
    let old = c.loop-k.block in
    let new = c.put_frame.new.block in
    let at : ℕ = (shape_of p (first + k)).offset in
    let before = rw (c.shape.ensures.value) at c.put_frame.ensures.before in
    let put = rw (c.shape.ensures.value, c.geometry-geometry.ensures.value) at c.put_frame.ensures.put in
    let here : shape_bytes (shape_of p (first + k)) new ≡ frame_bytes p.geometry (first + k) (frame_at frames (first + k)) =
    grind (arith, nat_tests, frame_there) in (
      one_frame_more first k old new plan have c.loop-k-test.true (λ (a : ℕ). frame_bytes p.geometry a (frame_at frames a))
          c.loop-k.invariant.0 here
          (λ s le. sym (front_shape s at new le) ∙ ap (shape_bytes s) before ∙ front_shape s at old le),
      ended_more first k old new plan have c.loop-k-test.true c.loop-k.invariant.1
          (rw c.shape.ensures.value at c.put_frame.ensures.behind),
      c.put_frame.ensures.size,
    )

pub returns-clause-frames : goal.returns-clause-frames
returns-clause-frames c =
    let frames : List Frame = frames_in c.args.headers.now c.args.contents.now in
    all_in c.loop-k.block c.first-first.ensures.first c.sharers-k-end.ensures.all c.loop-k.k (omega (arith, c.loop-k-test.false))
    (λ (a : ℕ). frame_bytes c.args.home.now.geometry a (frame_at frames a)) c.loop-k.invariant.0

pub returns-clause-zeros : goal.returns-clause-zeros
returns-clause-zeros c =
    let most : c.loop-k.k ≤ c.sharers-k-end.result = search rules in
    all_ended c.loop-k.block c.first-first.ensures.first c.sharers-k-end.ensures.all c.loop-k.k (omega (arith, c.loop-k-test.false)) most
    c.loop-k.invariant.1
