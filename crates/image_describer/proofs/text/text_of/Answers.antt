use Rattle.image_describer.proofs.Names.{rules, string_bytes, description_text}
use Rattle.std.proofs.Common.{◌≡◌}
use Rattle.image_describer.proofs.ReadBack.{read_again}
use Rattle.image_describer.proofs.text.text_of.Goals as goal

pub returns-clause-read : goal.returns-clause-read
returns-clause-read c may =
    let is : string_bytes c.put_description.new.text ≡ description_text c.args.description.now = search rules in
    read_again c.args.description.now c.requires may (string_bytes c.put_description.new.text) is
