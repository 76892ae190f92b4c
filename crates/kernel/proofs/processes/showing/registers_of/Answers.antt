use Rattle.kernel.proofs.Names.{ℕ, length, annex_known, one_all}
use Rattle.std.proofs.Common.{◌<◌}
use Rattle.kernel.proofs.processes.showing.registers_of.Goals as goal

pub fetch-requires-clause-known : goal.fetch-requires-clause-known
fetch-requires-clause-known g c =
    let p = g.F.Frames.parts c.args.store.now in
    one_all (λ (n : ℕ). n < length p.headers) c.args.annex (annex_known p c.args.annex c.requires.annex)
