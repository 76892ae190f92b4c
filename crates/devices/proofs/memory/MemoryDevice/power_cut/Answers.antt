use Rattle.devices.proofs.Mirrors.{mirror_cut_left, mirror_cut_durable, mirror_cut_time}
use Rattle.devices.proofs.memory.MemoryDevice.power_cut.Goals as goal

pub returns-clause-left : goal.returns-clause-left
returns-clause-left c =
    mirror_cut_left c.args.self.now.mirror c.power_cut.new.self c.power_cut.ensures.first c.power_cut.ensures.sectors 0 0
    c.args.self.now.outcome
    c.power_cut.ensures.past c.power_cut.ensures.left

pub returns-clause-durable : goal.returns-clause-durable
returns-clause-durable c =
    mirror_cut_durable c.args.self.now.mirror c.power_cut.new.self c.power_cut.ensures.first c.power_cut.ensures.sectors 0 0
    c.args.self.now.outcome
    c.power_cut.ensures.past

pub returns-clause-time : goal.returns-clause-time
returns-clause-time c =
    mirror_cut_time c.args.self.now.mirror c.power_cut.new.self c.power_cut.ensures.first c.power_cut.ensures.sectors _ _
    c.args.self.now.outcome
    c.power_cut.ensures.past
