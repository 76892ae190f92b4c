use Rattle.migrator.proofs.Names.{rules}
use Rattle.std.proofs.Common.{◌≡◌}
use Rattle.migrator.proofs.Gathering.{only_one}
use Rattle.migrator.proofs.gather.is_alone.Goals as goal

pub returns-clause-alone : goal.returns-clause-alone
returns-clause-alone c = λ yes.
    let first : c.first-first.result ≡ c.args.number = search rules in
    let one : c.sharers-count.result ≡ 1 = search rules in
    only_one (rw c.new-home.ensures at c.first-first.ensures.first) first (rw c.new-home.ensures at c.sharers-count.ensures.all) one
