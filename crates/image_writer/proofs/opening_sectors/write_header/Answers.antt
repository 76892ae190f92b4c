use Rattle.image_writer.proofs.Names.{ap, arith, header_place, row, Row}
use Rattle.std.proofs.Common.{◌≡◌, ◌+◌, ◌*◌, ◌∙◌}
use Rattle.image_writer.proofs.ClosedGates.{header_beside, headers_low, shut_run}
use Rattle.image_writer.proofs.opening_sectors.write_header.Goals as goal

pub overflow_mul-at-2 : goal.overflow_mul-at-2
overflow_mul-at-2 g c =
    let v = c.args.superblock.now.version in
    let is : c.row.result.opening_step * (1 + 2 * c.args.slot) ≡ header_place v c.args.slot =
    ap (λ (r : Row). r.opening_step * (1 + 2 * c.args.slot)) (c.row.ensures.value ∙ ap row c.version.ensures.value) in
    let low = headers_low v c.args.slot c.requires.slot in
    omega (arith, is, low.2)

pub write_sectors-requires-clause-inside : goal.write_sectors-requires-clause-inside
write_sectors-requires-clause-inside g c =
    let v = c.args.superblock.now.version in
    let is : c.row.result.opening_step * (1 + 2 * c.args.slot) ≡ header_place v c.args.slot =
    ap (λ (r : Row). r.opening_step * (1 + 2 * c.args.slot)) (c.row.ensures.value ∙ ap row c.version.ensures.value) in
    let low = headers_low v c.args.slot c.requires.slot in
    omega (arith, is, low.2, c.requires.inside)

pub returns-clause-any_moment : goal.returns-clause-any_moment
returns-clause-any_moment g c =
    let p = c.args.superblock.now in
    let writes = rw (c.row.ensures.value, c.version.ensures.value) at c.write_sectors.ensures.writes in
    shut_run p (header_place p.version c.args.slot) 1 {old = g.D.Device.disk c.args.device.now}
    {new = g.D.Device.disk c.write_sectors.new.device} (header_beside p.version c.args.slot) c.requires.shut writes.any_moment
