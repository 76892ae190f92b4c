use Rattle.std.proofs.Common.{Err, refl}
use Rattle.queries.proofs.GrownImages.{describes_named, has_text, laid}
use Rattle.jobs.specs.declared.fault.Fault.TheVariants as fault
use Rattle.queries.proofs.naming.describe_named.Goals as goal

pub tell_named-outcome-requires : goal.tell_named-outcome-requires
tell_named-outcome-requires g c =
    let read = c.in-Ok.ensures.read in
    record { laid = laid read.1 _ read.2 c.args.sizes; fields = read.2.describes.fields; spelled = has_text read.1 _ read.2 c.args.sizes }

pub returns-in-Ok : goal.returns-in-Ok
returns-in-Ok g c =
    let r = c.report.ensures in
    let read = c.in-Ok.ensures.read in (
      c.tell_named-outcome.result,
      (r.status, r.fault),
      r.reported,
      rw r.device (describes_named read.1 _ read.2 c.args.sizes c.args.names.now (g.W.Output.written c.args.writer.now)
          (g.W.Output.written c.tell_named-outcome.new.writer) c.tell_named-outcome.result c.tell_named-outcome.ensures),
    )

pub returns-in-Err : goal.returns-in-Err
returns-in-Err g c =
    let r = c.unopened.ensures in (
      Err (fault.Open c.in-Err.refused.fault),
      (r.status, r.fault),
      r.reported,
      rw r.device (c.in-Err.ensures.refused, refl {a = g.W.Output.written c.args.writer.now}),
    )
