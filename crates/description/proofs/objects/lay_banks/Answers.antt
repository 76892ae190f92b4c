use Rattle.description.proofs.Names.{rules, slice_index_or, drop_more}
use Rattle.std.proofs.Common.{◌<◌, ◌^◌}
use Rattle.description.proofs.LaidFrames.{more_laid, put_same, still_within}
use Rattle.description.proofs.objects.lay_banks.Goals as goal

pub loop-bank-preserved : goal.loop-bank-preserved
loop-bank-preserved c = more_laid _ _ _ _ _ _ _ (drop_more _ _ _ c.loop-bank-test.true)
    (let owner : (slice_index_or c.args.banks.now c.loop-bank.bank-index (record { number = 0; owner = 0; limit = 0 })).owner < 2 ^ 64 =
    search rules in
    (owner, c.bank_of.ensures.fits)) (put_same _ _ _ _ _ _ c.bank_of.ensures.bank c.put.ensures) c.loop-bank.invariant

pub put-requires-clause-within : goal.put-requires-clause-within
put-requires-clause-within c = still_within _ _ _ (c.requires.within c.loop-bank.bank-index (record { number = 0; owner = 0; limit = 0 })
    c.loop-bank-test.true)
    c.loop-bank.invariant.headers
