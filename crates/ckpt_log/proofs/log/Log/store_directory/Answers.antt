use Rattle.std.proofs.Common.{◌≡◌, true, length, sym, ◌∙◌}
use Rattle.layout.specs.Image.{directory_sector}
use Rattle.layout.specs.Version.{row}
use Rattle.ckpt_log.proofs.AnyVersions.{inside_by, touches_from}
use Rattle.ckpt_log.proofs.log.Log.store_directory.Goals as goal

pub write_directory-requires : goal.write_directory-requires
write_directory-requires g c =
    let is : (row c.args.self.now.version).sealed ≡ true = sym c.is_sealed.ensures.value ∙ c.if-is_sealed.true in
    record {
      inside =
          inside_by c.args.self.now.version is c.directory_sector-at.result (length c.args.entries.now) c.args.self.now.geometry.log
          c.args.self.now.total (g.D.Device.disk c.args.device.now).sectors c.requires.few c.directory_sector-at.ensures.inside
          c.requires.inside;
    }

pub returns-then-is_sealed-clause-touches : goal.returns-then-is_sealed-clause-touches
returns-then-is_sealed-clause-touches g c =
    let is : (row c.args.self.now.version).sealed ≡ true = sym c.is_sealed.ensures.value ∙ c.if-is_sealed.true in
    touches_from c.args.self.now.version is c.directory_sector-at.result (directory_sector c.args.self.now c.args.generation)
    (length c.args.entries.now) (g.D.Device.disk c.args.device.now) (g.D.Device.disk c.write_directory.new.device)
    c.directory_sector-at.ensures.value c.write_directory.ensures.touches
