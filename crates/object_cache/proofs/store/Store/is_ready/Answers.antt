use Rattle.object_cache.proofs.Names.{length, All-contains}
use Rattle.std.proofs.Common.{◌<◌}
use Rattle.object_cache.proofs.Marks.{ready_announced, ready_touched}
use Rattle.object_cache.proofs.store.Store.is_ready.Goals as goal

pub returns-clause-touched : goal.returns-clause-touched
returns-clause-touched g c =
    λ ready. ready_touched g.D.Device.disk c.self.view_is c.self.invariant c.args.written.now
    (λ n has. All-contains (λ k. k < length c.args.self.now.headers) c.args.written.now n c.requires has) (c.contains_all.ensures ready)

pub returns-clause-announced : goal.returns-clause-announced
returns-clause-announced g c =
    λ ready. ready_announced g.D.Device.disk c.self.view_is c.self.invariant c.args.written.now
    (λ n has. All-contains (λ k. k < length c.args.self.now.headers) c.args.written.now n c.requires has) (c.contains_all.ensures ready)
