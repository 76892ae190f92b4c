use Rattle.std.proofs.Common.{◌≡◌, ℕ, true, sym, subst, ◌∙◌}
use Rattle.std.specs.Prelude.{IfErr}
use Rattle.std.proofs.lemmas.Result.{IfErr-weaker}
use Rattle.layout.specs.Version.{row}
use Rattle.layout.specs.declared.open_fault.OpenFault.{OpenFault}
use Rattle.model.specs.declared.geometry.Geometry.{Geometry}
use Rattle.ckpt_log.specs.AnyVersion.{HasNoCommitted}
use Rattle.ckpt_log.specs.sealed.Committed.{HasNone}
use Rattle.ckpt_log.proofs.CommittedHeaders.{sealed_none}
use Rattle.ckpt_log.proofs.log.Log.read_header.Goals as goal

pub returns-then-is_sealed-clause-refused : goal.returns-then-is_sealed-clause-refused
returns-then-is_sealed-clause-refused g c =
    let is : (row c.args.self.now.version).sealed ≡ true = sym c.is_sealed.ensures.value ∙ c.if-is_sealed.true in
    let old = (g.D.Device.disk c.args.device.now).seen in
    let p = c.args.self.now in
    IfErr-weaker c.read_committed.result (λ (e : OpenFault). HasNone old p.geometry.log e) (λ (e : OpenFault). HasNoCommitted old p e)
    (λ e why. sealed_none old p is e why)
    (subst (λ (x : Geometry). IfErr c.read_committed.result (λ (e : OpenFault). HasNone old x.log e)) c.geometry.ensures.value
    c.read_committed.ensures.refused)
