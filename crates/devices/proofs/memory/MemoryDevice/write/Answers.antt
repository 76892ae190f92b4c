use Rattle.devices.proofs.Mirrors.{mirror_written, mirror_elsewhere, mirror_tears, mirror_write_time}
use Rattle.devices.proofs.memory.MemoryDevice.write.Goals as goal

pub returns-clause-written : goal.returns-clause-written
returns-clause-written c =
    let past = rw c.check_capacity.ensures.mirror at c.write.ensures.past in
    let first = rw c.check_capacity.ensures.mirror at c.write.ensures.first in
    let sectors = rw c.check_capacity.ensures.mirror at c.write.ensures.sectors in
    mirror_written c.args.self.now.mirror c.write.new.self first sectors 0 0 c.args.at c.args.from.now past

pub returns-clause-elsewhere : goal.returns-clause-elsewhere
returns-clause-elsewhere c =
    let past = rw c.check_capacity.ensures.mirror at c.write.ensures.past in
    let first = rw c.check_capacity.ensures.mirror at c.write.ensures.first in
    let sectors = rw c.check_capacity.ensures.mirror at c.write.ensures.sectors in
    mirror_elsewhere c.args.self.now.mirror c.write.new.self first sectors 0 0 c.args.at c.args.from.now past

pub returns-clause-crash : goal.returns-clause-crash
returns-clause-crash c =
    let past = rw c.check_capacity.ensures.mirror at c.write.ensures.past in
    let first = rw c.check_capacity.ensures.mirror at c.write.ensures.first in
    let sectors = rw c.check_capacity.ensures.mirror at c.write.ensures.sectors in
    mirror_tears c.args.self.now.mirror c.write.new.self first sectors 0 0 c.args.at c.args.from.now past

pub returns-clause-time : goal.returns-clause-time
returns-clause-time c =
    let past = rw c.check_capacity.ensures.mirror at c.write.ensures.past in
    let first = rw c.check_capacity.ensures.mirror at c.write.ensures.first in
    let sectors = rw c.check_capacity.ensures.mirror at c.write.ensures.sectors in
    mirror_write_time c.args.self.now.mirror c.write.new.self first sectors _ _ c.args.at c.args.from.now past
