use Rattle.image_writer.proofs.Names.{on_ok_weaker}
use Rattle.image_writer.proofs.ClosedGates.{both_written, some_slots}
use Rattle.image_writer.proofs.opening_sectors.write_sealed_headers.Goals as goal

pub write_header-requires-clause-slot : goal.write_header-requires-clause-slot
write_header-requires-clause-slot g c = some_slots c.args.superblock.now.version

pub returns-clause-written : goal.returns-clause-written
returns-clause-written g c =
    let first = rw c.header_before.ensures at c.in_ok-write_sealed_header.ensures.written in
    on_ok_weaker c.write_sealed_header-2.result
    (λ second. both_written c.args.superblock.now.version (g.D.Device.disk c.write_sealed_header.new.device).seen
    (g.D.Device.disk c.write_sealed_header-2.new.device).seen c.args.header c.requires.sealed first
    c.write_sealed_header-2.ensures.elsewhere second)
    c.write_sealed_header-2.ensures.written
