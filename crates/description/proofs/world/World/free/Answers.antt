use Rattle.description.proofs.Names.{ap, arith, length, length-replicate}
use Rattle.std.proofs.Common.{◌≡◌, ◌∙◌}
use Rattle.model.specs.declared.object.Content.TheVariants as content
use Rattle.description.proofs.Worlds.{free_frames}
use Rattle.description.proofs.world.World.free.Goals as goal

pub returns-clause-frames : goal.returns-clause-frames
returns-clause-frames c =
    let all : c.loop.counter ≡ c.args.count = omega arith in
    free_frames c.in_ok-headers.headers.items c.loop.contents.items c.args.count
    (c.in_ok-headers.ensures.items_if_clones_equal (λ y is. is))
    (rw all at c.loop.invariant)

pub returns-clause-count : goal.returns-clause-count
returns-clause-count c =
    let all : c.loop.counter ≡ c.args.count = omega arith in
    record {
      headers = c.in_ok-headers.ensures.len;
      contents = c.loop.contents.ok.0 ∙ ap length (rw all at c.loop.invariant) ∙ length-replicate c.args.count content.Free;
    }
