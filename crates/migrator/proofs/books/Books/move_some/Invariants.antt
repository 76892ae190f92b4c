use Rattle.migrator.proofs.Names.{IsDurable, MovedBy}
use Rattle.std.proofs.Common.{◌≡◌}
use Rattle.migrator.proofs.books.Books.move_some.Given as goal

abbrev pub invariant-loop : goal.invariant-loop
invariant-loop g l =
    IsDurable (g.D.Device.disk l.device) l.self × MovedBy (g.D.Device.disk l.fn.device) (g.D.Device.disk l.device) l.fn.self l.self
    l.counter
    × ((g.D.Device.disk l.device).failures ≡ (g.D.Device.disk l.fn.device).failures)
    × (l.counter ≡ 0 → (l.self ≡ l.fn.self) × (l.device ≡ l.fn.device))
