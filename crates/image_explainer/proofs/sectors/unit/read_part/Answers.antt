use Rattle.image_explainer.proofs.Names.{ℕ, Image, List, ap, sym, subst, Geometry, agrees_is, Plan, sectors_from, nat_lt, lt-ltb, le-ltb, BreaksUnit}
use Rattle.std.proofs.Common.{◌≡◌, ◌∙◌}
use Rattle.std.specs.Prelude.{if◌then◌else◌}
use Rattle.image_explainer.proofs.Units.{unit_read}
use Rattle.image_explainer.proofs.sectors.unit.read_part.Goals.{then-is_node, else-is_node}
use Rattle.image_explainer.proofs.sectors.unit.read_part.Goals as goal

pub returns-clause-found : goal.returns-clause-found
returns-clause-found g c =
    let old = (g.D.Device.disk c.args.device.now).seen in
    let new = (g.D.Device.disk c.read_sectors.new.device).seen in
    let p : Plan = c.args.plan.now in
    let size : c.if-is_node.sectors ≡ (if nat_lt c.args.number c.geometry.result.nodes then 8 else 1) = elim c.if-is_node.branch [
      | then-is_node w ↦ w.sectors-is ∙ ap (λ b. if b then 8 else 1) (sym (lt-ltb c.args.number c.geometry.result.nodes w.if-is_node.true))
      | else-is_node w ↦ w.sectors-is ∙ ap (λ b. if b then 8 else 1) (sym (le-ltb c.args.number c.geometry.result.nodes w.if-is_node.false))
    ] in
    subst (λ (b : List ℕ). BreaksUnit b c.part_in.result)
    (sym c.in_ok-read_sectors.ensures.bytes
    ∙ ap (λ (i : Image). sectors_from i c.frame_sector-at.result c.if-is_node.sectors) (agrees_is new old c.read_sectors.ensures.reads.seen)
    ∙ unit_read old p c.requires.sealed c.args.generation c.args.directory.now c.args.number c.frame_sector-at.result c.if-is_node.sectors
    c.frame_sector-at.ensures.value
    (subst (λ (x : Geometry). c.if-is_node.sectors ≡ (if nat_lt c.args.number x.nodes then 8 else 1)) c.geometry.ensures.value size))
    c.part_in.ensures
