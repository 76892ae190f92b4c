use Rattle.object_cache.proofs.Opening.{just_opened, opens_store}
use Rattle.object_cache.proofs.store.durable.StoreObjectStore.open.Goals as goal

pub over-requires-clause-opened : goal.over-requires-clause-opened
over-requires-clause-opened g c =
    just_opened g.D.Device.disk c.args.device c.in-Ok.opened.store c.in-Ok.opened.taken.headers c.in-Ok.ensures.opened
    c.in-Ok.ensures.took.headers_are

pub returns-in-Ok-over-clause-opened : goal.returns-in-Ok-over-clause-opened
returns-in-Ok-over-clause-opened g c =
    opens_store g.D.Device.disk c.args.device c.in-Ok.opened.store c.in-Ok.opened.taken.headers c.in-Ok.ensures.opened
    c.in-Ok.ensures.took.headers_are _
    c.in-Ok-over.store c.in-Ok-over.ensures.made
