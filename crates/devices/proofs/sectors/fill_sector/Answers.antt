use Rattle.devices.proofs.Names.{replicate, length-replicate}
use Rattle.devices.proofs.Patches.{wrote_here, patches_one, filled_is}
use Rattle.devices.proofs.sectors.fill_sector.Goals as goal

pub put-requires-clause-inside : goal.put-requires-clause-inside
put-requires-clause-inside c = c.requires.inside c.in-Wrote.sector (wrote_here c.args.action.now c.in-Wrote.sector _ c.in-Wrote.is)

pub returns-in-Wrote-clause-patched : goal.returns-in-Wrote-clause-patched
returns-in-Wrote-clause-patched c =
    patches_one c.args.action.now c.in-Wrote.sector _ (replicate 512 c.args.byte) (λ _. replicate 512 c.args.byte) _ _ c.in-Wrote.is
    (length-replicate 512 c.args.byte) (filled_is c.args.byte) c.put.ensures.written c.put.ensures.elsewhere
