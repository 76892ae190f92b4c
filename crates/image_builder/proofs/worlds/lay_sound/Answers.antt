use Rattle.image_builder.proofs.Names.{err_from_is_err_and, AreLaid, world_laid}
use Rattle.image_builder.proofs.Refusals.{world_refused}
use Rattle.image_builder.proofs.worlds.lay_sound.Goals as goal

pub returns-in_err-headers-clause-refused : goal.returns-in_err-headers-clause-refused
returns-in_err-headers-clause-refused c =
    let p = err_from_is_err_and c.from_residual.result c.from_residual.ensures.1 in
    rw (p.1, p.2) (world_refused c.args.description.now c.requires _ c.in_err-headers.ensures.fault)

pub check_frames-requires-clause-laid : goal.check_frames-requires-clause-laid
check_frames-requires-clause-laid c =
    let known = c.in_ok-headers.ensures in
    let laid = world_laid c.args.description.now c.in_ok-headers.field-0 known.named known.described known.keepable known.headers
    known.contents in
    rw c.new-frames.ensures laid

pub returns-clause-laid : goal.returns-clause-laid
returns-clause-laid c =
    let known = c.in_ok-headers.ensures in
    let laid = world_laid c.args.description.now c.in_ok-headers.field-0 known.named known.described known.keepable known.headers
    known.contents in
    let checked : AreLaid c.args.description.now c.new-frames.result.headers c.new-frames.result.contents = rw c.new-frames.ensures laid in
    rw (
      c.into_parts-headers.ensures.headers,
      c.into_parts-headers.ensures.contents,
      c.in_ok-check_frames.ensures.headers,
      c.in_ok-check_frames.ensures.contents,
    ) checked
