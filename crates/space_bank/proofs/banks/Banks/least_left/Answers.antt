use Rattle.space_bank.proofs.Names.{rules, arith, objects_in}
use Rattle.std.proofs.Common.{◌^◌, ◌-◌}
use Rattle.space_bank.proofs.Tallies.{limit_few}
use Rattle.space_bank.proofs.Plans.{chain_past, least_begun, least_last, least_next, least_on, left_counted, owner_is_bank}
use Rattle.space_bank.proofs.banks.Banks.least_left.Goals as goal

pub loop-step-init : goal.loop-step-init
loop-step-init g c =
    let os = objects_in (g.F.Frames.parts c.args.store.now) in
    record { same = least_begun os c.args.bank (2 ^ 64 - 1) (omega (arith, limit_few c.requires c.args.bank)); there = c.requires }

pub returns-then-current-eq0 : goal.returns-then-current-eq0
returns-then-current-eq0 g c = search (rules, least_last, left_counted)

pub loop-step-preserved : goal.loop-step-preserved
loop-step-preserved g c = search (rules, least_next, left_counted, owner_is_bank)

pub returns : goal.returns
returns g c = search (rules, chain_past, least_on)
