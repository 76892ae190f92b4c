use Rattle.image_builder.proofs.Names.{refl, frames_in}
use Rattle.image_builder.proofs.Refusals.{reason_refused}
use Rattle.image_builder.proofs.worlds.check_frames.Goals as goal

pub returns-in-Err-Bad-clause-refused : goal.returns-in-Err-Bad-clause-refused
returns-in-Err-Bad-clause-refused c =
    let d = c.args.description.now in
    let laid = c.requires.laid in
    let hs = c.args.frames.now.headers in
    let cs = c.args.frames.now.contents in
    let whole = c.described_is_whole.ensures d (frames_in hs cs) laid.numbers laid.fields laid.described in
    let why = c.in-Err-Bad.why in
    reason_refused d c.requires.limits hs cs laid whole why c.fault_for.result
    (c.in-Err-Bad.ensures.inconsistent why (rw c.in-Err-Bad.field-0-is refl))
    c.fault_for.ensures.target c.fault_for.ensures.owner
