-- The home ranges of an image may be laid out again.
use Rattle.image_describer.proofs.Names.{List, map, sym, subst, IsPlan, Plan, NumberRange, MayBeLaid, numbers_of}
use Rattle.std.proofs.Common.{◌≡◌}
use Rattle.home_ranges.proofs.LaidAgain as again

pub may_be_laid : (p : Plan) (rs : List NumberRange) → IsPlan p → rs ≡ map numbers_of p.ranges → MayBeLaid p.geometry rs
may_be_laid p rs plan is = subst (λ (qs : List NumberRange). MayBeLaid p.geometry qs) (sym is) (again.may_be_laid p plan)
