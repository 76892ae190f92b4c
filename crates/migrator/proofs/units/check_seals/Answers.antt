use Rattle.migrator.proofs.Names.{false, rules, row, sym, on_ok_weaker, false≢true}
use Rattle.std.proofs.Common.{◌≡◌, ◌∙◌}
use Rattle.migrator.proofs.Opening.{reads_none}
use Rattle.migrator.proofs.units.check_seals.Goals as goal

pub returns-then-sealed-clause-found : goal.returns-then-sealed-clause-found
returns-then-sealed-clause-found g c = on_ok_weaker c.check_units.result (λ units sealed. units) c.check_units.ensures.found

pub returns-else-sealed-clause-found : goal.returns-else-sealed-clause-found
returns-else-sealed-clause-found g c =
    let unsealed : (row c.args.plan.now.version).sealed ≡ false = search rules in
    λ sealed. absurd (false≢true (sym unsealed ∙ sealed))

pub returns-else-sealed-clause-reads : goal.returns-else-sealed-clause-reads
returns-else-sealed-clause-reads g c = reads_none (g.met.D.Device.only_now c.args.device.now)
