use Rattle.object_cache.proofs.Names.{ok_counts}
use Rattle.object_cache.proofs.frozen.put_body.Goals as goal

pub returns-in-Ok-clause-goes_on : goal.returns-in-Ok-clause-goes_on
returns-in-Ok-clause-goes_on g c = c.put_frozen.ensures.goes_on

pub returns-in-Ok-clause-cause : goal.returns-in-Ok-clause-cause
returns-in-Ok-clause-cause g c = ok_counts c.in-Ok.ensures.answer.0

pub returns-in-Err-clause-goes_on : goal.returns-in-Err-clause-goes_on
returns-in-Err-clause-goes_on g c = c.put_frozen.ensures.goes_on

pub returns-in-Err-clause-broken : goal.returns-in-Err-clause-broken
returns-in-Err-clause-broken g c = c.in-Err.ensures.broken
