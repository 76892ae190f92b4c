use Rattle.std.proofs.Common.{Err, refl}
use Rattle.queries.proofs.ReachedImages.{objects_sound, reaches_image}
use Rattle.jobs.specs.declared.fault.Fault.TheVariants as fault
use Rattle.queries.proofs.reaching.reach_image.Goals as goal

pub tell_reach-outcome-requires : goal.tell_reach-outcome-requires
tell_reach-outcome-requires g c = let read = c.in-Ok.ensures.read in rw c.deref.ensures.value (objects_sound read.1 _ read.2)

pub returns-in-Ok : goal.returns-in-Ok
returns-in-Ok g c =
    let r = c.report.ensures in
    let read = c.in-Ok.ensures.read in (
      c.tell_reach-outcome.result,
      (r.status, r.fault),
      r.reported,
      rw r.device (reaches_image read.1 _ read.2 c.args.format c.args.named.now c.args.trusted.now c.args.question
          (g.W.Output.written c.args.writer.now)
          (g.W.Output.written c.tell_reach-outcome.new.writer) c.tell_reach-outcome.result
          (rw c.deref.ensures.value at c.tell_reach-outcome.ensures)),
    )

pub returns-in-Err : goal.returns-in-Err
returns-in-Err g c =
    let r = c.unopened.ensures in (
      Err (fault.Open c.in-Err.refused.fault),
      (r.status, r.fault),
      r.reported,
      rw r.device (c.in-Err.ensures.refused, refl {a = g.W.Output.written c.args.writer.now}),
    )
