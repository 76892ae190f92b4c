use Rattle.space_bank.proofs.Names.{length, chain, chain_within, objects_in}
use Rattle.std.proofs.Common.{◌≡◌, ◌+◌, ◌-◌}
use Rattle.space_bank.proofs.walking.chain_length.Given as goal

abbrev pub invariant-loop-passed : goal.invariant-loop-passed
invariant-loop-passed g l =
    let os = objects_in (g.F.Frames.parts l.store) in
    length (chain os l.bank) ≡ l.passed + length (chain_within (16 - l.passed) os l.current)
