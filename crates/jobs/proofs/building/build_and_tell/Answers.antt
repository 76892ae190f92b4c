use Rattle.jobs.proofs.Names.{refl, Wrote, WroteFront, line_of, BuildsImage, built_text}
use Rattle.jobs.proofs.BuiltImages.{built_told, refused_cause}
use Rattle.jobs.proofs.WrittenTexts.{text_written}
use Rattle.jobs.proofs.building.build_and_tell.Goals as goal

pub returns-in-Err-clause-built : goal.returns-in-Err-clause-built
returns-in-Err-clause-built g c table is = (
  c.in-Err.ensures.refused table is,
  c.in-Err.ensures.untouched,
  refused_cause c.in-Err.fault _ c.in-Err.ensures.cause,
  refl,
)

pub returns-clause-built : goal.returns-clause-built
returns-clause-built g c table is =
    let old = g.W.Output.written c.args.writer.now in
    let new = g.W.Output.written c.write_to.new.writer in
    let told = built_told g.D.Device.disk table c.args.device.now c.build.new.device _
    (c.args.blueprint.now, is, c.sectors.ensures.within, c.sectors.ensures.value) (c.in-Ok.ensures.built table is) in
    rw c.of_write.ensures (text_written old new (line_of (built_text c.sectors.result))
    (BuildsImage g.D.Device.disk table c.args.device.now c.build.new.device
    old new) (λ a wrote. told (Wrote old new) wrote) (λ front. told (WroteFront old new) front) c.write_to.result
    (rw (c.word.ensures, c.numbered-line.ensures.text) at c.write_to.ensures))

pub returns-in-Err-clause-any_moment : goal.returns-in-Err-clause-any_moment
returns-in-Err-clause-any_moment g c table is = c.in-Err.ensures.any_moment table is

pub returns-clause-any_moment : goal.returns-clause-any_moment
returns-clause-any_moment g c table is = c.in-Ok.ensures.any_moment table is
