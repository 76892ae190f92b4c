-- Bytes that are sectors of an image.
use Rattle.layout.proofs.Names.{[], ℕ, zero, suc, List, length, take, drop, refl, sym, ap, subst, arith, take-append-drop, drop-drop, Image, sectors_from}
use Rattle.layout.proofs.Names.{append-nil}
use Rattle.std.proofs.Common.{◌≡◌, ◌+◌, ◌*◌, ◌/◌, ◌%◌, ◌<◌, ◌∷◌, ◌++◌, ◌∙◌, length-drop}

no_bytes : (bytes : List ℕ) → length bytes ≡ 0 → [] ≡ bytes
no_bytes [] e = refl
no_bytes (b ∷ bs) e = absurd (omega (arith, e))

-- if each piece of 512 bytes is a sector, all bytes are those of the n sectors
sectors_are : (image : Image) (at n : ℕ) (bytes : List ℕ) → length bytes ≡ 512 * n →
    ((i : ℕ) → i < n → take 512 (drop (512 * i) bytes) ≡ image (at + i)) → sectors_from image at n ≡ bytes
unfolding sectors_from
sectors_are image at zero bytes size same = no_bytes bytes (omega (arith, size))
sectors_are image at (suc n) bytes size same =
    let rest = sectors_are image (at + 1) n (drop 512 bytes) (omega (arith, size, length-drop 512 bytes)) (λ i lt.
    let one = same (suc i) (omega arith) in
    let place : at + suc i ≡ at + 1 + i = omega arith in
    let size : 512 + 512 * i ≡ 512 * suc i = omega arith in
    ap (take 512) (drop-drop (512 * i) 512 bytes ∙ ap (λ (m : ℕ). drop m bytes) size) ∙ one ∙ ap image place) in
    let first = same 0 (omega arith) in
    let here : at + 0 ≡ at = omega arith in
    ap (λ (front : List ℕ). front ++ sectors_from image (at + 1) n) (sym (first ∙ ap image here))
    ∙ ap (λ (back : List ℕ). take 512 bytes ++ back) rest ∙ take-append-drop 512 bytes

pub whole_sectors : (image : Image) (at : ℕ) (bytes : List ℕ) → length bytes % 512 ≡ 0 →
    ((i : ℕ) → i < length bytes / 512 → take 512 (drop (512 * i) bytes) ≡ image (at + i)) →
    sectors_from image at (length bytes / 512) ≡ bytes
whole_sectors image at bytes whole same = sectors_are image at (length bytes / 512) bytes (omega arith) same

-- the bytes of one sector are the sector
pub one_from : (image : Image) (at : ℕ) → sectors_from image at 1 ≡ image at
unfolding sectors_from
one_from image at = append-nil (image at)

same_rest : (at n : ℕ) (old new : Image) → ((i : ℕ) → i < suc n → new (at + i) ≡ old (at + i)) → (i : ℕ) → i < n →
    new (at + 1 + i) ≡ old (at + 1 + i)
same_rest at n old new same i lt =
    let place : at + (i + 1) ≡ at + 1 + i = omega arith in
    subst (λ (k : ℕ). new k ≡ old k) place (same (i + 1) (omega (arith, lt)))

-- equal sectors have equal bytes
pub same_sectors : (at n : ℕ) (old new : Image) → ((i : ℕ) → i < n → new (at + i) ≡ old (at + i)) →
    sectors_from new at n ≡ sectors_from old at n
unfolding sectors_from
same_sectors at zero old new same = refl
same_sectors at (suc n) old new same =
    let place : at + 0 ≡ at = omega arith in
    let first : new at ≡ old at = subst (λ (k : ℕ). new k ≡ old k) place (same 0 (omega arith)) in
    ap (λ (b : List ℕ). b ++ sectors_from new (at + 1) n) first
    ∙ ap (λ (b : List ℕ). old at ++ b) (same_sectors (at + 1) n old new (same_rest at n old new same))
