use Rattle.vezhnake_images.proofs.Infos.{ArePut, all_put, put_next}
use Rattle.vezhnake_images.proofs.raw_info.raw_ranges.Goals as goal
use Rattle.std.proofs.Common.{rules, refl, subst, ◌≡◌, ◌<◌, ℕ, length}

pub loop-index-init : goal.loop-index-init
loop-index-init c = record { put = refl; rest = refl; size = refl }

pub loop-index-preserved : goal.loop-index-preserved
loop-index-preserved c =
    let inside : c.loop-index.index < length c.args.ranges.now = search rules in
    put_next c.loop-index.index c.args.ranges.now c.loop-index.raw _ inside c.requires c.loop-index.invariant

pub returns : goal.returns
returns c =
    let done : c.loop-index.index ≡ length c.args.ranges.now = search rules in
    all_put c.args.ranges.now c.loop-index.raw (subst (λ (n : ℕ). ArePut n c.args.ranges.now c.loop-index.raw) done c.loop-index.invariant)
