use Rattle.queries.proofs.Names.{Err, refl, InspectsImage, info_text, text_written}
use Rattle.jobs.specs.declared.fault.Fault.TheVariants as fault
use Rattle.queries.proofs.inspecting.info_image.Goals as goal

pub returns-in-Ok : goal.returns-in-Ok
returns-in-Ok g c =
    let r = c.report.ensures in
    let read = c.in-Ok.ensures.read in
    let old = g.W.Output.written c.args.writer.now in
    let new = g.W.Output.written c.print_lines.new.writer in (
      c.of_write-outcome.result,
      (r.status, r.fault),
      r.reported,
      rw r.device (rw c.of_write-outcome.ensures (text_written old new (info_text c.args.format c.in-Ok.lines.items)
          (λ o. InspectsImage c.args.format g.D.Device.disk c.args.device c.in-Ok.device old new o)
          (λ a wrote. (read.0, read.1, rw read.2 at wrote))
          (λ front. (read.0, read.1, rw read.2 at front)) c.print_lines.result (rw c.deref.ensures.value at c.print_lines.ensures))),
    )

pub returns-in-Err : goal.returns-in-Err
returns-in-Err g c =
    let r = c.unopened.ensures in (
      Err (fault.Open c.in-Err.refused.fault),
      (r.status, r.fault),
      r.reported,
      rw r.device (c.in-Err.ensures.refused, refl {a = g.W.Output.written c.args.writer.now}),
    )
