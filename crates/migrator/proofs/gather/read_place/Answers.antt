use Rattle.migrator.proofs.Names.{length, rules}
use Rattle.std.proofs.Common.{◌≡◌, ◌*◌}
use Rattle.migrator.proofs.Gathering.{place_behind, place_there, places_beside}
use Rattle.migrator.proofs.gather.read_place.Goals as goal

pub returns-clause-copied : goal.returns-clause-copied
returns-clause-copied g c =
    let long : length c.read_sectors.new.into ≡ 512 * c.args.shape.sectors = search rules in
    place_there c.read_sectors.result c.args.shape (g.D.Device.disk c.read_sectors.new.device).seen c.args.at c.read_sectors.new.into
    c.args.block.now (512 * c.args.shape.sectors) long c.requires.shape c.read_sectors.ensures.bytes

pub returns-clause-others : goal.returns-clause-others
returns-clause-others g c =
    let long : length c.read_sectors.new.into ≡ 512 * c.args.shape.sectors = search rules in
    places_beside c.args.shape c.read_sectors.new.into c.args.block.now (512 * c.args.shape.sectors) long c.requires.shape c.requires.whole

pub returns-clause-behind : goal.returns-clause-behind
returns-clause-behind g c =
    let long : length c.read_sectors.new.into ≡ 512 * c.args.shape.sectors = search rules in
    place_behind c.args.shape c.read_sectors.new.into c.args.block.now (512 * c.args.shape.sectors) long c.requires.shape c.requires.whole
