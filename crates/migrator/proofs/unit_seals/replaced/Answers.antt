use Rattle.migrator.proofs.Names.{ℕ, Image, agrees_is, ap, seal_in, unit_at}
use Rattle.std.proofs.Common.{◌≡◌, ◌∙◌}
use Rattle.migrator.specs.Names.{home_place}
use Rattle.migrator.proofs.ReadSeals.{same_step}
use Rattle.migrator.proofs.unit_seals.replaced.Goals as goal

pub returns-clause-root : goal.returns-clause-root
returns-clause-root g c =
    let p = c.args.plan.now in
    let n = c.args.number in
    let seen : Image = (g.D.Device.disk c.args.device.now).seen in
    let mid : Image = (g.D.Device.disk c.read_seal.new.device).seen in
    let first : c.in_ok-old.old ≡ seal_in (unit_at seen p n (home_place p n)) =
    c.in_ok-old.ensures.seal ∙ ap (λ (k : ℕ). seal_in (unit_at seen p n k)) (rw c.new.ensures at c.place-home.ensures.value) in
    let second : c.in_ok-new.new ≡ seal_in (unit_at seen p n c.args.at) =
    c.in_ok-new.ensures.seal ∙ ap (λ (i : Image). seal_in (unit_at i p n c.args.at)) (agrees_is mid seen c.read_seal.ensures.reads.seen) in
    same_step n c.in_ok-old.old c.in_ok-new.new (seal_in (unit_at seen p n (home_place p n))) (seal_in (unit_at seen p n c.args.at))
    c.args.root c.replace_seal.result first second c.replace_seal.ensures
