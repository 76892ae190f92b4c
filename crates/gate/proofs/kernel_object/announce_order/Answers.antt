use Rattle.std.proofs.Common.{arith}
use Rattle.gate.proofs.Effects.{contained, on_ok}
use Rattle.gate.proofs.kernel_object.announce_order.Goals as goal

pub returns-clause-fetched : goal.returns-clause-fetched
returns-clause-fetched g c =
    let f = c.fetched_by-fetched in
    on_ok c.prepare.result (λ replying. (
      replying c.args.caller.process (contained f.result 0 c.args.caller.process (omega (arith, f.ensures.count)) f.ensures.process),
      replying c.args.caller.annex (contained f.result 1 c.args.caller.annex (omega (arith, f.ensures.count)) f.ensures.annex),
      λ k d inside. replying _ (f.ensures.new k d inside),
    )) c.prepare.ensures.fetched
