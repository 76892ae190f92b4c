use Rattle.object_cache.proofs.Names.{goes_on_same, ap, sym, subst, on_err_weaker, on_ok_weaker, refl, touching, IsFetchedIn, Ok, arith}
use Rattle.std.proofs.Common.{◌∙◌}
use Rattle.object_cache.proofs.Outcomes.{continues_past}
use Rattle.object_cache.proofs.Exits.{prepares_by, readied_by}
use Rattle.object_cache.proofs.store.Store.make_writable.Goals as goal

pub returns : goal.returns
returns g c =
    let ns = c.args.written.now in
    let r = c.announce.result in
    let said = c.announce.ensures in
    let apart = c.keep_all_apart.ensures.rest in
    let rest = readied_by r c.args.self.now c.keep_all_apart.new.self c.announce.new.self _ _ apart said.marked said.unchanged in
    record {
      announced = said.announced;
      fetched = λ n there. said.fetched n (subst (λ t. IsFetchedIn t n) (sym apart)
          (record { header = there.header; content = there.content; cached = there.cached }));
      order = ap (λ t. t.order) rest;
      unfailed = said.cause;
      prepares = prepares_by rest (continues_past g.D.Device.disk _ apart said.continues) r
          (on_ok_weaker r (λ is. ap (λ t. t.touched) is ∙ ap (λ t. touching t.touched ns) apart) said.marked)
          (on_err_weaker r (λ is. ap (λ t. t.touched) (is ∙ apart)) said.unchanged) c.is_ready.ensures.within said.within said.refusals
          (rw apart at said.full).0 said.cause;
    }

pub announce-requires-clause-apart : goal.announce-requires-clause-apart
announce-requires-clause-apart g c = c.keep_all_apart.ensures.apart

pub returns-then-is_ready-clause-announced : goal.returns-then-is_ready-clause-announced
returns-then-is_ready-clause-announced g c = c.is_ready.ensures.announced c.if-is_ready.true

pub returns-then-is_ready-clause-prepares : goal.returns-then-is_ready-clause-prepares
returns-then-is_ready-clause-prepares g c =
    let ready = c.is_ready.ensures in
    prepares_by refl (goes_on_same g.D.Device.disk g.met.D.Device.only_now c.args.self.now) (Ok tt) (sym (ready.touched c.if-is_ready.true))
    tt
    ready.within ready.within tt (search arith) (search arith)
