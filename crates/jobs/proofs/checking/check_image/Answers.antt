use Rattle.jobs.proofs.Names.{Err, refl, Wrote, WroteFront, ChecksImage}
use Rattle.jobs.proofs.WrittenTexts.{text_written}
use Rattle.jobs.proofs.RunImages.{checked}
use Rattle.jobs.specs.declared.fault.Fault.TheVariants as fault
use Rattle.jobs.proofs.checking.check_image.Goals as goal

pub returns : goal.returns
returns g c =
    let r = c.report.ensures in
    let is = c.saved.ensures in
    let old = g.W.Output.written c.args.writer.now in
    let new = g.W.Output.written c.write_to.new.writer in
    let checks = checked c.args.format c.in-Ok.ensures.opened _ c.into_device-device.ensures _ (is.generation, is.age, is.entries) in (
      c.of_write-outcome.result,
      (r.status, r.fault),
      r.reported,
      rw r.device (rw c.of_write-outcome.ensures (text_written old new _ (λ o. ChecksImage c.args.format g.D.Device.disk c.args.device
          c.into_device-device.result old new o)
          (λ a wrote. checks (Wrote old new) wrote) (λ front. checks (WroteFront old new) front) c.write_to.result
          (rw c.line_of_saved-line.ensures.text at c.write_to.ensures))),
    )

pub returns-in-Err : goal.returns-in-Err
returns-in-Err g c =
    let r = c.unopened.ensures in (
      Err (fault.Open c.in-Err.refused.fault),
      (r.status, r.fault),
      r.reported,
      rw r.device (c.in-Err.ensures.refused, refl {a = g.W.Output.written c.args.writer.now}),
    )
