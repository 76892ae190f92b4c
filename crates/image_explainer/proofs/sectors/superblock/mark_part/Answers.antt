use Rattle.image_explainer.proofs.Names.{ap, row, sym, codes, take, Bool, rules, false≢true, Row}
use Rattle.std.proofs.Common.{◌≡◌, ◌∙◌}
use Rattle.std.specs.Prelude.{if◌then◌else◌}
use Rattle.image_explainer.proofs.Superblocks.{seal_breaks, tail_breaks}
use Rattle.image_explainer.proofs.sectors.superblock.mark_part.Goals.{then-row, else-row}
use Rattle.image_explainer.proofs.sectors.superblock.mark_part.Goals as goal

pub returns-then-are_zeros : goal.returns-then-are_zeros
returns-then-are_zeros c =
    let magic : take 8 c.args.bytes.now ≡ codes "EROSCKPT" = search rules in
    let sealed = ap (λ (r : Row). r.sealed) c.row.ensures.value in
    let end : c.if-row.end ≡ (if (row c.in-Some.version).sealed then 488 else 512) = elim c.if-row.branch [
      | then-row w ↦ w.end-is ∙ ap (λ (b : Bool). if b then 488 else 512) (sym w.if-row.true ∙ sealed)
      | else-row w ↦ w.end-is ∙ ap (λ (b : Bool). if b then 488 else 512) (sym w.if-row.false ∙ sealed)
    ] in
    seal_breaks c.args.bytes.now c.requires.size magic c.in-Some.version c.in-Some.ensures.some c.if-row.end end
    (c.are_zeros.ensures.0 c.if-are_zeros.true) c.requires.refused

pub returns-else-are_zeros : goal.returns-else-are_zeros
returns-else-are_zeros c =
    let magic : take 8 c.args.bytes.now ≡ codes "EROSCKPT" = search rules in
    let sealed = ap (λ (r : Row). r.sealed) c.row.ensures.value in
    let end : c.if-row.end ≡ (if (row c.in-Some.version).sealed then 488 else 512) = elim c.if-row.branch [
      | then-row w ↦ w.end-is ∙ ap (λ (b : Bool). if b then 488 else 512) (sym w.if-row.true ∙ sealed)
      | else-row w ↦ w.end-is ∙ ap (λ (b : Bool). if b then 488 else 512) (sym w.if-row.false ∙ sealed)
    ] in
    tail_breaks c.args.bytes.now c.requires.size magic c.in-Some.version c.in-Some.ensures.some c.if-row.end end
    (λ zeros. false≢true (sym c.if-are_zeros.false ∙ c.are_zeros.ensures.1 zeros))
