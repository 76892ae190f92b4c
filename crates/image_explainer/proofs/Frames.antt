-- The bytes of slots and frames.
use Rattle.image_explainer.proofs.Names.{nat_tests, ℕ, List, take, drop, ap, sym, arith, Cap, Geometry, IsKeptCap, capability_bytes, HoldsCap, Image, Plan}
use Rattle.image_explainer.proofs.Names.{Entry, Shape, shape_bytes, shape_of, shaped_at, frame_in, frame_sector, sectors_from}
use Rattle.std.proofs.Common.{◌≡◌, ◌+◌, ◌-◌, ◌*◌, ◌∙◌}

-- the bytes of slot k of a frame, cut out as the code does it
pub slot_read : (g : Geometry) (age : ℕ) (bytes : List ℕ) (k at : ℕ) (c : Cap) → at ≡ 32 + 24 * k → IsKeptCap g age c →
    take (at + 24 - at) (drop at bytes) ≡ capability_bytes c → HoldsCap g age bytes k
slot_read g age bytes k at c place kept is = grind (arith, nat_tests)

-- the bytes of a frame in the sectors that were read
pub frame_read : (image new : Image) (p : Plan) (generation : ℕ) (es : List Entry) (n at : ℕ) (form : Shape) (run : List ℕ) → new ≡ image →
    at ≡ frame_sector p generation es n → form ≡ shape_of p n → sectors_from new at form.sectors ≡ run →
    shape_bytes form run ≡ frame_in image p generation es n
frame_read image new p generation es n at form run same there as_is read =
    ap (shape_bytes form) (sym read ∙ ap (λ (i : Image). sectors_from i at form.sectors) same)
    ∙ ap (λ (s : ℕ). shaped_at image s form) there
    ∙ ap (λ (s : Shape). shaped_at image (frame_sector p generation es n) s) as_is
