use Rattle.image_describer.proofs.Names.{List, ap, map, HomeRange, numbers_of}
use Rattle.std.proofs.Common.{◌∙◌}
use Rattle.image_describer.proofs.Covers.{may_be_laid}
use Rattle.image_describer.proofs.ranges.ranges_of.Goals as goal

pub returns-clause-laid : goal.returns-clause-laid
returns-clause-laid c =
    may_be_laid c.args.superblock.now c.in_ok-ranges.ranges.items c.ranges-2.ensures.fits
    (c.in_ok-ranges.ensures ∙ ap (λ (rs : List HomeRange). map numbers_of rs) c.ranges-2.ensures.value)
