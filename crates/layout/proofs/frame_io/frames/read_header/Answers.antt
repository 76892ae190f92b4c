use Rattle.layout.proofs.Names.{arith, length-replicate, length-take-le, List, replicate, ℕ}
use Rattle.std.proofs.Common.{◌*◌}
use Rattle.layout.proofs.Blocks.{header_there}
use Rattle.layout.proofs.frame_io.frames.read_header.Goals as goal

pub returns-clause-found : goal.returns-clause-found
returns-clause-found g c =
    let zeros : List ℕ = replicate 4608 0 in
    let size = length-take-le (512 * c.args.shape.sectors) zeros (omega (arith, c.requires.few, length-replicate {A = ℕ} 4608 0)) in
    header_there (g.D.Device.disk c.read_sectors.new.device).seen c.args.at c.args.shape
    (omega (arith, c.requires, c.read_sectors.ensures.length, size))
    c.requires.least c.in_ok-read_sectors.ensures.bytes c.header_in.ensures
