use Rattle.devices.proofs.Mirrors.{mirror_sync_durable, mirror_sync_seen, mirror_sync_narrows, mirror_sync_time}
use Rattle.devices.proofs.memory.MemoryDevice.sync.Goals as goal

pub returns-clause-durable : goal.returns-clause-durable
returns-clause-durable c =
    let past = rw c.check_capacity.ensures.mirror at c.sync.ensures.past in
    let first = rw c.check_capacity.ensures.mirror at c.sync.ensures.first in
    let sectors = rw c.check_capacity.ensures.mirror at c.sync.ensures.sectors in
    mirror_sync_durable c.args.self.now.mirror c.sync.new.self first sectors 0 0 past

pub returns-clause-seen : goal.returns-clause-seen
returns-clause-seen c =
    let past = rw c.check_capacity.ensures.mirror at c.sync.ensures.past in
    let first = rw c.check_capacity.ensures.mirror at c.sync.ensures.first in
    let sectors = rw c.check_capacity.ensures.mirror at c.sync.ensures.sectors in
    mirror_sync_seen c.args.self.now.mirror c.sync.new.self first sectors 0 0 past

pub returns-clause-crash : goal.returns-clause-crash
returns-clause-crash c =
    let past = rw c.check_capacity.ensures.mirror at c.sync.ensures.past in
    let first = rw c.check_capacity.ensures.mirror at c.sync.ensures.first in
    let sectors = rw c.check_capacity.ensures.mirror at c.sync.ensures.sectors in
    mirror_sync_narrows c.args.self.now.mirror c.sync.new.self first sectors 0 0 past

pub returns-clause-time : goal.returns-clause-time
returns-clause-time c =
    let past = rw c.check_capacity.ensures.mirror at c.sync.ensures.past in
    let first = rw c.check_capacity.ensures.mirror at c.sync.ensures.first in
    let sectors = rw c.check_capacity.ensures.mirror at c.sync.ensures.sectors in
    mirror_sync_time c.args.self.now.mirror c.sync.new.self first sectors _ _ past
