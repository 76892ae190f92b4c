use Rattle.std.proofs.Common.{◌∙◌}
use Rattle.description.proofs.Keys.{among}
use Rattle.description.proofs.member.is_among.Goals as goal

pub returns : goal.returns
returns c = c.contains.ensures.value ∙ among c.args.known.now c.args.key.now
