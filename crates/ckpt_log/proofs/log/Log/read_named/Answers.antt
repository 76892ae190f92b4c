use Rattle.std.proofs.Common.{◌≡◌, true, false, length, sym, subst, ◌∙◌, arith}
use Rattle.std.proofs.lemmas.Result.{IfErr-weaker, on_ok_weaker}
use Rattle.device.specs.Disk.{Image}
use Rattle.device.proofs.Images.{agrees_is}
use Rattle.layout.specs.Directory.{IsDirectory, directory_bytes}
use Rattle.layout.specs.Image.{directory_in}
use Rattle.layout.specs.Version.{row}
use Rattle.layout.specs.declared.open_fault.OpenFault.{OpenFault}
use Rattle.ckpt_log.specs.AnyVersion.{HasNoDirectory}
use Rattle.ckpt_log.specs.Slot.{IsBadDirectory}
use Rattle.ckpt_log.proofs.AnyVersions.{inside_by}
use Rattle.ckpt_log.proofs.CommittedHeaders.{plain_directory, plain_no_directory, sealed_directory, sealed_no_directory}
use Rattle.ckpt_log.proofs.log.Log.read_named.Goals as goal

pub read_directory-requires-clause-inside : goal.read_directory-requires-clause-inside
read_directory-requires-clause-inside g c =
    let is : (row c.args.self.now.version).sealed ≡ true = sym c.is_sealed.ensures.value ∙ c.if-is_sealed.true in
    inside_by c.args.self.now.version is c.directory_sector-at.result (length c.args.into.now)
    c.args.self.now.geometry.log c.args.self.now.total (g.D.Device.disk c.args.device.now).sectors
    (omega (arith, c.requires.count, c.requires.header.fits.entries))
    c.directory_sector-at.ensures.inside c.requires.inside

pub returns-clause-found : goal.returns-clause-found
returns-clause-found g c =
    let is : (row c.args.self.now.version).sealed ≡ false = sym c.is_sealed.ensures.value ∙ c.if-is_sealed.false in
    let old = (g.D.Device.disk c.args.device.now).seen in
    let es = c.read_directory-2.new.into in
    let size : length es ≡ length c.args.into.now = c.read_directory-2.auto.into in
    let seen = agrees_is (g.D.Device.disk c.read_directory-2.new.device).seen old c.read_directory-2.ensures.reads.seen in
    on_ok_weaker c.read_directory-2.result
    (λ found. plain_directory old c.args.self.now is c.args.header es (length c.args.into.now) c.requires.header
    (size ∙ c.requires.count) (sym size) found.0
    (subst (λ (i : Image). directory_in i c.args.self.now c.args.header.header.generation (length c.args.into.now) ≡ directory_bytes es)
    seen found.1))
    c.read_directory-2.ensures.found

pub returns-clause-refused : goal.returns-clause-refused
returns-clause-refused g c =
    let is : (row c.args.self.now.version).sealed ≡ false = sym c.is_sealed.ensures.value ∙ c.if-is_sealed.false in
    let old = (g.D.Device.disk c.args.device.now).seen in
    let p = c.args.self.now in
    let n = length c.args.into.now in
    let generation = c.args.header.header.generation in
    let seen = agrees_is (g.D.Device.disk c.read_directory-2.new.device).seen old c.read_directory-2.ensures.reads.seen in
    IfErr-weaker c.read_directory-2.result
    (λ (e : OpenFault). IsBadDirectory p.geometry (directory_in (g.D.Device.disk c.read_directory-2.new.device).seen p generation n) e)
    (λ (e : OpenFault). HasNoDirectory old p c.args.header e)
    (λ e bad. plain_no_directory old p is c.args.header n e c.requires.count
    (subst (λ (i : Image). IsBadDirectory p.geometry (directory_in i p generation n) e) seen bad))
    c.read_directory-2.ensures.refused
