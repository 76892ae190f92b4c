use Rattle.migrator.proofs.Names.{on_ok_weaker}
use Rattle.std.proofs.Common.{◌∙◌}
use Rattle.migrator.proofs.Gathering.{alone_ended, alone_gathered}
use Rattle.migrator.proofs.gather.gather_whole.Goals as goal

pub returns-clause-gathered : goal.returns-clause-gathered
returns-clause-gathered g c =
    alone_gathered c.gather_one.result (g.D.Device.disk c.args.device.now).seen c.args.plan.now c.args.generation c.args.directory.now
    c.args.number c.gather_one.new.block c.requires.alone c.gather_one.ensures.gathered

pub returns-clause-zeros : goal.returns-clause-zeros
returns-clause-zeros g c =
    let ended = alone_ended c.args.plan.now c.args.number c.gather_one.new.block c.requires.object
    (c.gather_one.ensures.size ∙ c.requires.block) c.requires.whole in
    on_ok_weaker c.gather_one.result (λ is. ended) c.gather_one.ensures.gathered
