use Rattle.image_writer.proofs.Names.{ap, length, rules, sums_of, front_body}
use Rattle.std.proofs.Common.{◌≡◌, ◌∙◌}
use Rattle.image_writer.proofs.blocks.seal_page.Goals as goal

pub returns-clause-seal : goal.returns-clause-seal
returns-clause-seal c =
    let long : length c.put_sums.new.block ≡ 4608 = search rules in
    c.sums_of.ensures.sums ∙ ap sums_of (front_body c.put_sums.new.block long)
