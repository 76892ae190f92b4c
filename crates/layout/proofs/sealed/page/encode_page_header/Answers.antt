use Rattle.layout.proofs.Names.{[], ap, ℕ, page_header_bytes, sector_bytes}
use Rattle.std.proofs.Common.{◌∷◌, ◌∙◌}
use Rattle.layout.proofs.sealed.page.encode_page_header.Goals as goal

pub returns : goal.returns
unfolding page_header_bytes
returns c =
    let h = c.args.header in
    c.encode_sector.ensures
    ∙ ap (λ (n : ℕ). sector_bytes (n ∷ h.object.allocations ∷ h.object.calls ∷ h.object.owner ∷ h.words.a ∷ h.words.b ∷ h.words.c ∷ []))
    c.number.ensures
