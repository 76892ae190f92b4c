use Rattle.object_cache.proofs.Names.{arith, refl}
use Rattle.object_cache.proofs.Exits.{puts_same}
use Rattle.object_cache.proofs.store.durable.StoreObjectStore.stabilize.Goals as goal

pub returns-in_err-put_some-clause-same : goal.returns-in_err-put_some-clause-same
returns-in_err-put_some-clause-same g c = λ stayed. absurd (omega (arith, stayed, c.in_err-put_some.ensures.cause.cause.0 refl))

pub returns-in_err-put_some-clause-any_moment : goal.returns-in_err-put_some-clause-any_moment
returns-in_err-put_some-clause-any_moment g c = c.put_some.ensures.goes_on.any_moment c.requires.usable

pub returns-clause-same : goal.returns-clause-same
returns-clause-same g c = puts_same g.D.Device.disk c.args.self.now c.put_some.new.self c.in_ok-put_some.ensures.put

pub returns-clause-any_moment : goal.returns-clause-any_moment
returns-clause-any_moment g c = c.put_some.ensures.goes_on.any_moment c.requires.usable
