use Rattle.object_cache.proofs.Names.{ap, refl}
use Rattle.std.proofs.Common.{◌∙◌}
use Rattle.object_cache.proofs.Exits.{moves_next, no_ok}
use Rattle.object_cache.proofs.Caching.{no_entry}
use Rattle.object_cache.proofs.Outcomes.{counts_err, counts_ok}
use Rattle.object_cache.proofs.Fetched.{kept_next, read_next}
use Rattle.object_cache.proofs.store.Store.read.Goals as goal

pub insert_read-requires-clause-absent : goal.insert_read-requires-clause-absent
insert_read-requires-clause-absent g c = no_entry g.D.Device.disk c.self.view_is c.self.invariant c.args.number c.requires.uncached

pub invariant_of-self : goal.invariant_of-self
invariant_of-self g c = (read_next g.D.Device.disk c.self.view_is c.self.invariant c.fetch.ensures.reads
    c.fetch.ensures.cause.never_falls).is

pub returns-in_err-read : goal.returns-in_err-read
returns-in_err-read g c =
    let r = c.from_residual.result in
    let failed = c.from_residual.ensures.1 in
    let next = read_next g.D.Device.disk c.self.view_is c.self.invariant c.fetch.ensures.reads c.fetch.ensures.cause.never_falls in
    record {
      cached = no_ok r _ _ failed;
      empty = ap (λ t. t.staging) next.view ∙ c.requires.empty;
      moves = moves_next next refl r (counts_err g.D.Device.disk r _ c.self.view_is failed c.in_err-read.ensures.cause);
    }

pub invariant_of-self-2 : goal.invariant_of-self-2
invariant_of-self-2 g c =
    (kept_next g.D.Device.disk c.self.view_is c.self.invariant c.args.number c.requires.known c.requires.uncached c.requires.empty
    c.fetch.ensures.reads c.fetch.ensures.cause.never_falls c.in_ok-read.ensures.found c.header-header.ensures c.insert_read.ensures).is

pub returns : goal.returns
returns g c =
    let next = kept_next g.D.Device.disk c.self.view_is c.self.invariant c.args.number c.requires.known c.requires.uncached c.requires.empty
    c.fetch.ensures.reads c.fetch.ensures.cause.never_falls c.in_ok-read.ensures.found c.header-header.ensures c.insert_read.ensures in
    record {
      cached = next.view;
      empty = ap (λ t. t.staging) next.view ∙ c.requires.empty;
      moves = moves_next next refl _ (counts_ok g.D.Device.disk c.self.view_is c.in_ok-read.ensures.cause);
    }
