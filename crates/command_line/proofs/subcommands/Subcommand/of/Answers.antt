use Rattle.command_line.proofs.Names.{arith, nat_tests, rules, false, subst, take_all, All, All-more, Text, Subcommand, bytes_eq, bytes_eq-Decides}
use Rattle.command_line.proofs.Names.{subcommand_name, subcommands}
use Rattle.std.proofs.Common.{◌≡◌, ◌≢◌}
use Rattle.command_line.proofs.subcommands.Subcommand.of.Goals as goal

differs : (name other : Text) (s : Subcommand) → other ≡ subcommand_name s → bytes_eq name other ≡ false → name ≢ subcommand_name s
differs name other s is apart = grind (arith, nat_tests, bytes_eq-Decides)

pub loop-candidate-preserved : goal.loop-candidate-preserved
loop-candidate-preserved c = All-more (λ (s : Subcommand). c.args.name.now ≢ subcommand_name s) subcommands c.loop-candidate.candidate-index
    _
    c.loop-candidate-test.true c.loop-candidate.invariant (differs c.args.name.now c.name.result.now _ c.name.ensures (search rules))

pub returns : goal.returns
returns c = subst (All (λ (s : Subcommand). c.args.name.now ≢ subcommand_name s))
    (take_all c.loop-candidate.candidate-index subcommands c.loop-candidate-test.false) c.loop-candidate.invariant
