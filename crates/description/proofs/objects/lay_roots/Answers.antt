use Rattle.description.proofs.Names.{rules, OfRoot}
use Rattle.std.proofs.Common.{◌<◌, ◌^◌}
use Rattle.description.proofs.LaidFrames.{all_laid, more_laid, put_same, split_at}
use Rattle.description.proofs.objects.lay_roots.Goals as goal

pub loop-process-preserved : goal.loop-process-preserved
loop-process-preserved c = more_laid OfRoot _ _ _ _ _ _ (split_at _ _ _ c.loop-process-test.true c.process-item.is)
    (let owner : c.process-item.result.owner < 2 ^ 64 = search rules in (owner, c.root_of.ensures.fits))
    (put_same _ _ _ _ _ _ c.root_of.ensures.root c.put.ensures) c.loop-process.invariant

pub returns : goal.returns
returns c = all_laid OfRoot _ _ _ _ c.loop-process-test.false c.loop-process.invariant
