use Rattle.std.specs.Prelude.{string_bytes}
use Rattle.vezhnake_images.proofs.Texts.{text_for}
use Rattle.vezhnake_images.proofs.describing.text_for.Goals as goal

pub returns-in-Ok-text_of-clause-ok : goal.returns-in-Ok-text_of-clause-ok
returns-in-Ok-text_of-clause-ok c = text_for c.args.image.now (string_bytes c.in-Ok-text_of.text) c.in-Ok.device c.in-Ok-read_saved._device
    c.in-Ok-read_saved.description c.in-Ok.ensures.ok c.in-Ok-read_saved.ensures.read c.in-Ok-text_of.ensures.text
    c.in-Ok-text_of.ensures.read
