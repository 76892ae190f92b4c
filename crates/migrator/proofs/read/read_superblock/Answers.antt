use Rattle.migrator.proofs.Names.{rules, arith, err_from_is_err_and}
use Rattle.std.proofs.Common.{◌<◌, ◌≤◌}
use Rattle.migrator.proofs.Opening.{sector_is, total_small, plan_refused, plan_read}
use Rattle.migrator.proofs.read.read_superblock.Goals as goal

pub returns-then-total_in-sectors-clause-refused : goal.returns-then-total_in-sectors-clause-refused
returns-then-total_in-sectors-clause-refused g c =
    let is = sector_is c.read_sectors.ensures.reads.seen c.in_ok-read_sectors.ensures.bytes in
    let lt : c.sectors-sectors.result < c.total_in.result = search rules in
    total_small (g.D.Device.disk c.args.device.now).seen is (omega (arith, lt, c.sectors-sectors.ensures.count, c.total_in.ensures))

pub returns-clause-found : goal.returns-clause-found
returns-clause-found g c =
    let is = sector_is c.read_sectors.ensures.reads.seen c.in_ok-read_sectors.ensures.bytes in
    let le : c.total_in.result ≤ c.sectors-sectors.result = search rules in
    let least : 5 ≤ c.sectors-sectors.result = search rules in
    plan_read is
    (omega (arith, least, c.sectors-sectors.ensures.count)) (omega (arith, le, c.sectors-sectors.ensures.count, c.total_in.ensures))
    c.in_ok-decode_superblock.ensures.found c.in_ok-decode_superblock.ensures.fits

pub returns-in_err-decode_superblock-clause-refused : goal.returns-in_err-decode_superblock-clause-refused
returns-in_err-decode_superblock-clause-refused g c =
    let is = sector_is c.read_sectors.ensures.reads.seen c.in_ok-read_sectors.ensures.bytes in
    let le : c.total_in.result ≤ c.sectors-sectors.result = search rules in
    let least : 5 ≤ c.sectors-sectors.result = search rules in
    let p = err_from_is_err_and c.from_residual-in_err-decode_superblock.result c.from_residual-in_err-decode_superblock.ensures.1 in
    rw (p.1, p.2) (plan_refused (g.D.Device.disk c.args.device.now).seen _ is (omega (arith, least, c.sectors-sectors.ensures.count))
    (omega (arith, le, c.sectors-sectors.ensures.count, c.total_in.ensures)) c.in_err-decode_superblock.ensures.refused)
