use Rattle.image_writer.proofs.OldGates.{none_named_by, version_found}
use Rattle.std.proofs.Common.{◌∙◌, sym}
use Rattle.image_writer.proofs.closing.version_of.Goals as goal

pub returns-in-Ok : goal.returns-in-Ok
returns-in-Ok c = λ p fits spelt.
    version_found p c.in-Ok.superblock c.args.bytes.now fits c.in-Ok.ensures.fits c.in-Ok.ensures.found spelt
    ∙ sym c.version.ensures.value

pub returns-in-Err : goal.returns-in-Err
returns-in-Err c = λ p fits spelt. absurd (none_named_by c.args.bytes.now c.in-Err.field-0 p c.in-Err.ensures.refused fits spelt)
