use Rattle.space_bank.proofs.Names.{nat_eq, list_any, chain, chain_within, objects_in}
use Rattle.std.proofs.Common.{◌≡◌, ◌-◌}
use Rattle.space_bank.proofs.walking.is_in_chain.Given as goal

abbrev pub invariant-loop-step : goal.invariant-loop-step
invariant-loop-step g l =
    let os = objects_in (g.F.Frames.parts l.store) in
    list_any (nat_eq l.bank) (chain os l.first) ≡ list_any (nat_eq l.bank) (chain_within (16 - l._step) os l.link)
