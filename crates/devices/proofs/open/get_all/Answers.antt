use Rattle.devices.proofs.Names.{ap, arith, length, length-replicate}
use Rattle.std.proofs.Common.{◌≡◌, ◌*◌, ◌∙◌}
use Rattle.devices.proofs.open.get_all.Goals as goal

pub get_sectors-requires-clause-buffer : goal.get_sectors-requires-clause-buffer
get_sectors-requires-clause-buffer g c = omega (arith, c.deref_mut.ensures.len, c.in_ok-buffer.ensures.len)

pub get_sectors-requires-clause-few : goal.get_sectors-requires-clause-few
get_sectors-requires-clause-few g c =
    let size : length c.in_ok-copy.copy ≡ 512 * c.args.sectors = ap length c.in_ok-copy.ensures
    ∙ length-replicate (512 * c.args.sectors) 0 in
    omega (arith, size, c.requires)

pub returns-in_err-get_sectors-clause-length : goal.returns-in_err-get_sectors-clause-length
returns-in_err-get_sectors-clause-length g c = c.get_sectors.ensures.length

pub returns-clause-bytes : goal.returns-clause-bytes
returns-clause-bytes g c = c.in_ok-get_sectors.ensures.bytes

pub returns-clause-size : goal.returns-clause-size
returns-clause-size g c = c.get_sectors.ensures.size ∙ ap length c.in_ok-copy.ensures ∙ length-replicate (512 * c.args.sectors) 0

pub returns-clause-length : goal.returns-clause-length
returns-clause-length g c = c.get_sectors.ensures.length
