use Rattle.cache_entries.proofs.Stored.{kept_put}
use Rattle.cache_entries.proofs.entries.Entries.keep_apart.Goals as goal

pub returns : goal.returns
returns c =
    rw c.put.ensures (kept_put c.self.inside.order c.self.invariant c.self.view_is c.args.number c.place-place.ensures.place
    c.place-place.ensures.spread
    _ c.get.ensures)
