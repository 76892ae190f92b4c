-- Units and their sectors.
use Rattle.image_explainer.proofs.Names.{ℕ, Bool, true, List, sym, ap, append-nil, Image, Entry, Plan, sectors_from, frame_sector, row, inl, inr, cases_lt}
use Rattle.image_explainer.proofs.Names.{nat_lt, lt-ltb, le-ltb, place_length, block_in, unit_bytes, cluster_length}
use Rattle.std.proofs.Common.{◌≡◌, ◌∙◌}
use Rattle.std.specs.Prelude.{if◌then◌else◌}

-- a run of one sector is that sector
pub one_sector : (image : Image) (at : ℕ) → sectors_from image at 1 ≡ image at
unfolding sectors_from
one_sector image at = append-nil (image at)

module _ (image : Image) (p : Plan) (sealed : (row p.version).sealed ≡ true) (generation : ℕ) (es : List Entry) where
  -- the sectors of a unit, as they are read
  pub unit_read : (n at sectors : ℕ) → at ≡ frame_sector p generation es n → sectors ≡ (if nat_lt n p.geometry.nodes then 8 else 1) →
      sectors_from image at sectors ≡ unit_bytes image p generation es n
  unit_read n at sectors place size = elim (cases_lt n p.geometry.nodes) [
    | inl less ↦
        let node = lt-ltb n p.geometry.nodes less in
        let eight : sectors ≡ 8 = size ∙ ap (λ (b : Bool). if b then 8 else 1) node in
        ap (λ (k : ℕ). sectors_from image at k) (eight ∙ sym (cluster_length p n sealed less))
        ∙ ap (λ (k : ℕ). sectors_from image k (place_length p n)) place
        ∙ ap (λ (b : Bool). if b then block_in image p generation es n else image (frame_sector p generation es n)) (sym node)
    | inr le ↦
        let page = le-ltb n p.geometry.nodes le in
        let one : sectors ≡ 1 = size ∙ ap (λ (b : Bool). if b then 8 else 1) page in
        ap (λ (k : ℕ). sectors_from image at k) one ∙ one_sector image at ∙ ap image place
        ∙ ap (λ (b : Bool). if b then block_in image p generation es n else image (frame_sector p generation es n)) (sym page)
  ]
