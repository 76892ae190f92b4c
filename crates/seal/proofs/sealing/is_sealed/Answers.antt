use Rattle.std.proofs.Common.{arith, rules}
use Rattle.seal.proofs.SealedRows.{seal_decides}
use Rattle.seal.proofs.Spelled.{AreWords}
use Rattle.seal.proofs.sealing.is_sealed.Goals as goal

pub returns : goal.returns
returns c =
    let words : AreWords c.sums_at.result = record { a = omega arith; b = omega arith; c = omega arith } in
    seal_decides c.args.row.now c.sums_at.result c.sums_of.result c.eq.result (search rules) c.requires.whole c.requires.room
    c.requires.size words
    c.sums_at.ensures c.sums_of.ensures.sums c.eq.ensures
