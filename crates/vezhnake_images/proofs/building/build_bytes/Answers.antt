use Rattle.std.proofs.Common.{rules, ◌≡◌, ◌∙◌, ◌<◌, ◌≤◌, ◌*◌, ◌++◌, ℕ, true, drop, length, refl, subst, sym}
use Rattle.vezhnake_images.proofs.Built.{image_put, in_bytes}
use Rattle.vezhnake_images.specs.BuiltBytes.{PutsImage}
use Rattle.vezhnake_images.proofs.building.build_bytes.Goals as goal

pub returns-then-image-length : goal.returns-then-image-length
returns-then-image-length c =
    let longer : length c.args.image.now < c.sectors.result * 512 = search rules in
    ((c.in-Ok.blueprint, c.in-Ok.ensures.ok, c.sectors.ensures.within, in_bytes c.sectors.result _ c.sectors.ensures.value), longer, refl)

pub returns-in-Ok-build_device : goal.returns-in-Ok-build_device
returns-in-Ok-build_device c =
    let within : c.sectors.result * 512 ≤ length c.args.image.now = search rules in
    let part = c.read_all.new.bytes in
    let same : length part ≡ c.sectors.result * 512 = search rules in
    subst (λ (n : ℕ). PutsImage c.args.text.now c.args.image.now (part ++ drop n c.args.image.now) n true) same
    (image_put c.args.text.now c.args.image.now part c.in-Ok.blueprint c.in-Ok-build_device.device c.in-Ok.ensures.ok
    c.in-Ok-build_device.ensures.ok
    (same ∙ in_bytes c.sectors.result _ c.sectors.ensures.value) c.read_all.ensures.bytes
    (subst (λ (n : ℕ). n ≤ length c.args.image.now) (sym same) within))
