use Rattle.object_cache.proofs.Names.{None, Failed, Moves, Ok, take, used_in_turn, on_device_with}
use Rattle.std.proofs.Common.{◌≡◌}
use Rattle.object_cache.proofs.store.Store.read_all_in.Given as goal

abbrev pub invariant-loop-number : goal.invariant-loop-number
invariant-loop-number g l =
    Moves {T = Unit {0}} {E = Failed} g.D.Device.disk on_device_with l.fn.self l.self (Ok tt)
    × (l.self.staging ≡ None)
    × (l.self.order ≡ take l.fn.self.capacity (used_in_turn (take l.number-index l.fetched) l.fn.self.order))
