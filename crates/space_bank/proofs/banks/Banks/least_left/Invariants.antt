use Rattle.space_bank.proofs.Names.{map, chain_within, least, left_of, remaining, objects_in, MayServe}
use Rattle.std.proofs.Common.{◌≡◌, ◌-◌}
use Rattle.space_bank.proofs.banks.Banks.least_left.Given as goal

abbrev pub invariant-loop-step : goal.invariant-loop-step
invariant-loop-step g l =
    let p = g.F.Frames.parts l.store in
    let os = objects_in p in
    record {
      same : remaining os l.bank ≡ least l.least (map (left_of os) (chain_within (16 - l._step) os l.current));
      there : MayServe p l.self l.current;
    }
