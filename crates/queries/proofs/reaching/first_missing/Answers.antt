use Rattle.queries.proofs.Names.{refl}
use Rattle.queries.proofs.ReachedImages.{missing_trusted}
use Rattle.queries.proofs.reaching.first_missing.Goals as goal

pub returns-clause-some : goal.returns-clause-some
returns-clause-some c = missing_trusted c.args.objects.now c.args.named.now c.args.trusted.now c.missing_process-2.result
    c.missing_process-2.ensures.first
    (c.in_default.ensures.none refl)
