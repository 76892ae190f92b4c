use Rattle.seal.proofs.SealedRows.{sealed_now}
use Rattle.seal.proofs.sealing.seal.Goals as goal

pub returns-clause-sealed : goal.returns-clause-sealed
returns-clause-sealed c =
    (sealed_now c.args.row.now c.put_sums.new.bytes c.sums_of-sums.result c.requires.room c.sums_of-sums.ensures.sums c.put_sums.ensures).0

pub returns-clause-body : goal.returns-clause-body
returns-clause-body c =
    (sealed_now c.args.row.now c.put_sums.new.bytes c.sums_of-sums.result c.requires.room c.sums_of-sums.ensures.sums c.put_sums.ensures).1
