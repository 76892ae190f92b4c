use Rattle.home_ranges.proofs.Names.{List, map, subst, sym, ap, Geometry, HomeRange, NumberRange, MayBeLaid, numbers_of}
use Rattle.std.proofs.Common.{◌∙◌}
use Rattle.home_ranges.proofs.LaidAgain.{may_be_laid}
use Rattle.home_ranges.proofs.plan.lay_out_again.Goals as goal

pub unreachable-requires : goal.unreachable-requires
unreachable-requires c =
    c.in-None.ensures.refused (
    subst (λ (g : Geometry). MayBeLaid g c.put_numbers.new.into) (sym c.geometry.ensures.value)
    (subst (λ (rs : List NumberRange). MayBeLaid c.args.superblock.now.geometry rs)
    (sym (c.put_numbers.ensures ∙ ap (λ (rs : List HomeRange). map numbers_of rs) c.ranges-ranges.ensures.value))
    (may_be_laid c.args.superblock.now c.geometry.ensures.fits)))
