use Rattle.object_cache.proofs.Names.{on_ok, ap, length, All, continues_twice, err_from_is_err_and, refl, subst, sym}
use Rattle.std.proofs.Common.{◌∙◌, ◌<◌}
use Rattle.object_cache.proofs.Exits.{no_ok, prepares_after, unfetched}
use Rattle.object_cache.proofs.Objects.{within_log}
use Rattle.object_cache.proofs.store.present.StorePresentFrames.prepare.Goals as goal

pub returns-in_err-fetch : goal.returns-in_err-fetch
returns-in_err-fetch g c =
    let r = c.from_residual.result in
    let failed = c.from_residual.ensures.1 in
    record {
      fetched = no_ok r _ _ failed;
      announced = no_ok r _ _ failed;
      order = λ some. no_ok r _ _ failed;
      all = λ all. ap (λ t. t.order) (c.fetch.ensures.all all);
      prepares = unfetched (err_from_is_err_and r failed) (within_log g.D.Device.disk c.self.view_is c.self.invariant)
          c.fetch.ensures.snapshots
          (c.in_err-fetch.ensures.cause.0 refl);
    }

pub make_writable-requires : goal.make_writable-requires
make_writable-requires g c = subst (λ p. All (λ n. n < length p.headers) c.args.written.now) (sym c.in_ok-fetch.ensures.same)
    c.requires.announced

pub returns : goal.returns
returns g c =
    let r = c.make_writable.result in
    let said = c.make_writable.ensures in
    record {
      fetched = on_ok r (λ n has. said.fetched n (c.in_ok-fetch.ensures.fetched n has));
      announced = said.announced;
      order = λ some. on_ok r (said.order ∙ c.in_ok-fetch.ensures.order some);
      all = λ all. said.order ∙ ap (λ t. t.order) (c.fetch.ensures.all all);
      prepares = prepares_after c.in_ok-fetch.ensures.same
          (continues_twice g.D.Device.disk g.P.Policy.KEEPS_ALL g.met.D.Device.counts_now c.args.self.now c.fetch.new.self
          c.make_writable.new.self
          c.fetch.ensures.snapshots.continues said.prepares.continues) said.prepares;
    }
