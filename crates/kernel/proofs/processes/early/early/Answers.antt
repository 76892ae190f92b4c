use Rattle.kernel.proofs.Names.{ℕ, length, sym, process_known, one_all}
use Rattle.std.proofs.Common.{◌<◌}
use Rattle.kernel.proofs.processes.early.early.Goals as goal

pub fetch-requires-clause-known : goal.fetch-requires-clause-known
fetch-requires-clause-known g c =
    let p = g.F.Frames.parts c.args.store.now in
    one_all (λ (n : ℕ). n < length p.headers) c.args.process (process_known p c.args.process (sym c.if-not-is_process.ensures))
