use Rattle.std.proofs.Common.{◌≡◌, true, false, sym, ◌∙◌}
use Rattle.std.proofs.lemmas.Bool.{false≢true}
use Rattle.std.proofs.lemmas.Result.{on_ok_weaker}
use Rattle.layout.specs.Version.{row}
use Rattle.ckpt_log.proofs.AnyVersions.{either_from, gate_from, one_to, plain_either, plain_gate, plain_one, plain_precedes}
use Rattle.ckpt_log.proofs.log.Log.commit.Goals as goal

pub publish-requires-clause-one : goal.publish-requires-clause-one
publish-requires-clause-one g c =
    let is : (row c.args.self.now.version).sealed ≡ true = sym c.is_sealed.ensures.value ∙ c.if-is_sealed.true in
    one_to c.args.self.now.version is (g.D.Device.disk c.args.device.now) c.requires.one

pub returns-then-is_sealed-clause-any_moment : goal.returns-then-is_sealed-clause-any_moment
returns-then-is_sealed-clause-any_moment g c =
    let is : (row c.args.self.now.version).sealed ≡ true = sym c.is_sealed.ensures.value ∙ c.if-is_sealed.true in
    either_from c.args.self.now.version is c.args.header (g.D.Device.disk c.args.device.now) (g.D.Device.disk c.publish.new.device)
    c.publish.ensures.any_moment

pub publish-requires-2-clause-one : goal.publish-requires-2-clause-one
publish-requires-2-clause-one g c =
    let is : (row c.args.self.now.version).sealed ≡ false = sym c.is_sealed.ensures.value ∙ c.if-is_sealed.false in
    plain_one c.args.self.now.version is (g.D.Device.disk c.args.device.now) c.args.header c.requires.next c.requires.one

pub publish-requires-2-clause-next : goal.publish-requires-2-clause-next
publish-requires-2-clause-next g c =
    let is : (row c.args.self.now.version).sealed ≡ false = sym c.is_sealed.ensures.value ∙ c.if-is_sealed.false in
    plain_precedes c.args.self.now.version is (g.D.Device.disk c.args.device.now).seen c.args.header c.requires.next

pub returns-clause-any_moment : goal.returns-clause-any_moment
returns-clause-any_moment g c =
    let is : (row c.args.self.now.version).sealed ≡ false = sym c.is_sealed.ensures.value ∙ c.if-is_sealed.false in
    plain_either c.args.self.now.version is c.args.header (g.D.Device.disk c.args.device.now) (g.D.Device.disk c.publish-2.new.device)
    (c.requires.fits.unsealed is) c.header_fits.ensures c.publish-2.ensures.any_moment

pub returns-then-is_sealed-clause-opened : goal.returns-then-is_sealed-clause-opened
returns-then-is_sealed-clause-opened g c =
    let is : (row c.args.self.now.version).sealed ≡ true = sym c.is_sealed.ensures.value ∙ c.if-is_sealed.true in
    on_ok_weaker c.publish.result
    (λ opened. gate_from c.args.self.now.version is c.args.header (g.D.Device.disk c.publish.new.device).seen opened)
    c.publish.ensures.opened

pub returns-clause-opened : goal.returns-clause-opened
returns-clause-opened g c =
    let is : (row c.args.self.now.version).sealed ≡ false = sym c.is_sealed.ensures.value ∙ c.if-is_sealed.false in
    on_ok_weaker c.publish-2.result
    (λ opened. plain_gate c.args.self.now.version is c.args.header (g.D.Device.disk c.publish-2.new.device).seen opened)
    c.publish-2.ensures.opened
