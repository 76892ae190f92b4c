use Rattle.object_cache.proofs.Names.{[], Some, ap, sym, length-append}
use Rattle.std.proofs.Common.{◌∷◌, ◌+◌, ◌∙◌}
use Rattle.object_cache.proofs.Objects.{one_copied}
use Rattle.object_cache.proofs.all_objects.copy_bodies.Goals as goal

pub loop-number-preserved : goal.loop-number-preserved
loop-number-preserved c =
    let k = c.loop-number.number in
    let bodies = c.loop-number.bodies.items in
    let i = c.loop-number.invariant in
    let body = c.in_ok-body.body in
    rw c.in_ok-push.ensures.items (
      length-append bodies (body ∷ []) ∙ ap (λ n. n + 1) i.0,
      one_copied c.args.entries.now.at bodies k body i.0 i.1 (c.present.ensures ∙ ap Some (sym c.in_ok-body.ensures)),
    )
