use Rattle.cache_entries.proofs.Names.{ap, arith, LogState, ltb-true}
use Rattle.cache_entries.proofs.Logs.{number_known, used_behind}
use Rattle.cache_entries.proofs.use_log.UseLog.is_outdated.Goals as goal

pub index-requires : goal.index-requires
index-requires c =
    omega (
      arith,
      number_known c.self.invariant (ap (λ (l : LogState). l.uses) c.self.view_is) c.args.index c.index-number.result.now c.requires
          c.index-number.ensures,
      c.self.inside.stamps.ok.0,
    )

pub returns : goal.returns
returns c = λ after. used_behind c.self.invariant (ap (λ (l : LogState). l.uses) c.self.view_is) c.args.index c.index-number.result.now
    c.requires
    c.index-number.ensures c.index.result.now c.index.ensures (ltb-true c.args.index c.index.result.now after)
