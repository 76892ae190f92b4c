-- Headers as numbers.
use Rattle.layout.proofs.Names.{ℕ, List, [], length, get_or, take, drop, ap, sym, arith, nat_tests, All-cons, All-nil, drop_at, length-take-le, take_at}
use Rattle.layout.proofs.Names.{role_number, Role, ObjectHeader, sums_of, Sums, SealedHeader, PageHeader, sealed_header_from, header_numbers, IsPageHeader}
use Rattle.layout.proofs.Names.{page_header_bytes, page_header_from, page_header_numbers, AreWords}
use Rattle.std.proofs.Common.{◌≡◌, ◌^◌, ◌<◌, ◌⊎◌, ◌∷◌, ◌++◌, ◌∙◌}
use Rattle.std.specs.Prelude.{◌==◌, if◌then◌else◌}
use Rattle.model.specs.declared.object.Role.TheVariants as role
use Rattle.layout.proofs.SealedSectors.{listed, listing}

-- if eleven numbers begin with the magic, the header that they decode to has these numbers
pub header_read : (ns : List ℕ) → length ns ≡ 11 → get_or ns 0 0 ≡ 0x4441_4548_534f_5245 → ns ≡ header_numbers (sealed_header_from ns)
header_read ns len magic = listing 11 0 ns len ∙ ap (λ (m : ℕ). m ∷ listed 1 10 ns) magic

pub header_magic : (h : SealedHeader) (ns : List ℕ) → ns ≡ header_numbers h → get_or ns 0 0 ≡ 0x4441_4548_534f_5245
header_magic h ns e = ap (λ (xs : List ℕ). get_or xs 0 0) e

-- if the first of seven numbers is that of the role in the page header that they decode to, the header has these numbers
pub page_read : (ns : List ℕ) → length ns ≡ 7 → role_number (page_header_from ns).object.role ≡ get_or ns 0 0 →
    ns ≡ page_header_numbers (page_header_from ns)
page_read ns len is = listing 7 0 ns len ∙ ap (λ (m : ℕ). m ∷ listed 1 6 ns) (sym is)

role_back : (r : Role) (owner : ℕ) → (r ≡ role.Page) ⊎ ((r ≡ role.Free) × (owner ≡ 0)) →
    (if role_number r == 1 then role.Page else role.Free) ≡ r
role_back r owner is = grind (arith, nat_tests)

pub page_back : (age : ℕ) (h : PageHeader) → IsPageHeader age h → page_header_from (page_header_numbers h) ≡ h
page_back age h is =
    ap (λ (r : Role). record {
      object = record { role = r; allocations = h.object.allocations; calls = h.object.calls; owner = h.object.owner };
      words = h.words;
    }) (role_back h.object.role h.object.owner is.role)

-- a page header is read back from its numbers
pub page_found : (age : ℕ) (h : PageHeader) (ns : List ℕ) → IsPageHeader age h → ns ≡ page_header_numbers h →
    (page_header_from ns ≡ h) × (role_number (page_header_from ns).object.role ≡ get_or ns 0 0)
page_found age h ns is e =
    let same : page_header_from ns ≡ h = ap page_header_from e ∙ page_back age h is in
    (same, ap (λ (g : PageHeader). role_number g.object.role) same ∙ sym (ap (λ (xs : List ℕ). get_or xs 0 0) e))

role_small : (r : Role) → role_number r < 2 ^ 64
role_small r = grind (arith, nat_tests)

-- the numbers of a page's header fit if its fields do
pub page_fits : (h : PageHeader) → h.object.allocations < 2 ^ 64 → h.object.calls < 2 ^ 64 → h.object.owner < 2 ^ 64 → h.words.a < 2 ^ 64 →
    h.words.b < 2 ^ 64 → h.words.c < 2 ^ 64 → AreWords (page_header_numbers h)
page_fits h allocations calls owner a b c =
    let Fits : ℕ → Type 0 = λ n. n < 2 ^ 64 in
    All-cons Fits (role_number h.object.role) (h.object.allocations ∷ h.object.calls ∷ h.object.owner ∷ h.words.a ∷ h.words.b ∷ h.words.c ∷
    [])
    (role_small h.object.role) (
    All-cons Fits h.object.allocations (h.object.calls ∷ h.object.owner ∷ h.words.a ∷ h.words.b ∷ h.words.c ∷ []) allocations (
    All-cons Fits h.object.calls (h.object.owner ∷ h.words.a ∷ h.words.b ∷ h.words.c ∷ []) calls (
    All-cons Fits h.object.owner (h.words.a ∷ h.words.b ∷ h.words.c ∷ []) owner (
    All-cons Fits h.words.a (h.words.b ∷ h.words.c ∷ []) a (
    All-cons Fits h.words.b (h.words.c ∷ []) b (
    All-cons Fits h.words.c [] c (
    All-nil Fits)))))))

-- ---- a page's frame

pub front_long : (frame : List ℕ) → length frame ≡ 4608 → length (take 512 frame) ≡ 512
front_long frame size = length-take-le 512 frame (omega (arith, size))

pub page_sealed : (frame first : List ℕ) (object : ObjectHeader) (words : Sums) → length first ≡ 512 → words ≡ sums_of (drop 512 frame) →
    first ≡ page_header_bytes (record { object = object; words = words })
    → take 512 (first ++ drop 512 frame) ≡ page_header_bytes (record { object = object; words = sums_of (drop 512 frame) })
page_sealed frame first object words size are is =
    take_at first (drop 512 frame) 512 size ∙ is ∙ ap (λ (w : Sums). page_header_bytes (record { object = object; words = w })) are

pub words_stay : (frame first : List ℕ) → length first ≡ 512 → drop 512 (first ++ drop 512 frame) ≡ drop 512 frame
words_stay frame first size = drop_at first (drop 512 frame) 512 size
