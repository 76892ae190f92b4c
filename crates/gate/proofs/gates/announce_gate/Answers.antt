use Rattle.gate.proofs.Names.{ℕ, List, sym, subst, Contains}
use Rattle.gate.proofs.Effects.{announced_through, on_ok}
use Rattle.gate.proofs.gates.announce_gate.Goals as goal

pub returns-clause-announced : goal.returns-clause-announced
returns-clause-announced g c =
    let i = c.args.invocation.now in
    let written = c.written_count.ensures.written i.process c.args.receiver c.args.annex in
    on_ok c.prepare.result (λ replying. announced_through (g.F.PresentFrames.IsAnnounced c.prepare.new.self) i.operation i.process
    c.args.receiver c.args.annex
    (λ n inside. replying n (subst (λ (ns : List ℕ). Contains ns n) (sym written) inside))) c.prepare.ensures.announced
