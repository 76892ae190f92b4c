use Rattle.std.proofs.Common.{Err, refl}
use Rattle.queries.proofs.DrawnImages.{draws_image, few}
use Rattle.queries.proofs.ReachedImages.{objects_sound}
use Rattle.jobs.specs.declared.fault.Fault.TheVariants as fault
use Rattle.queries.proofs.drawing.draw_image.Goals as goal

pub draw_part-outcome-requires : goal.draw_part-outcome-requires
draw_part-outcome-requires g c =
    let read = c.in-Ok.ensures.read in
    record { few = few read.1 _ _ read.2; numbers = read.2.0.describes.numbers; sound = objects_sound read.1 _ read.2.1 }

pub returns-in-Ok : goal.returns-in-Ok
returns-in-Ok g c =
    let r = c.report.ensures in
    let read = c.in-Ok.ensures.read in (
      c.draw_part-outcome.result,
      (r.status, r.fault),
      r.reported,
      rw r.device (draws_image read.1 _ _ read.2 c.args.focus (g.W.Output.written c.args.writer.now)
          (g.W.Output.written c.draw_part-outcome.new.writer) c.draw_part-outcome.result c.draw_part-outcome.ensures),
    )

pub returns-in-Err : goal.returns-in-Err
returns-in-Err g c =
    let r = c.unopened.ensures in (
      Err (fault.Open c.in-Err.refused.fault),
      (r.status, r.fault),
      r.reported,
      rw r.device (c.in-Err.ensures.refused, refl {a = g.W.Output.written c.args.writer.now}),
    )
