-- The header sector of a page's block, whatever header it has.
use Rattle.layout.proofs.Names.{ℕ, zero, suc, List, [], length, get_or, ap, refl, sym, subst, arith, nat_tests, little_number, role_in, role_number, ObjectHeader}
use Rattle.layout.proofs.Names.{PageHeader, Sums, AreWords, IsSummed, page_header_bytes, page_header_from, page_header_numbers, sector_bytes}
use Rattle.layout.proofs.Names.{words_bytes, number, zeros, with_seal, front_bytes, sums_of, take, drop}
use Rattle.layout.proofs.Names.{Option, Some, true, take_rest, front_numbers, Role, header_from, take-append-drop}
use Rattle.std.proofs.Common.{◌≡◌, ◌-◌, ◌*◌, ◌^◌, ◌<◌, ◌≤◌, ◌%◌, ◌∷◌, ◌++◌, ◌∙◌}
use Rattle.std.specs.Prelude.{◌==◌, ◌&&◌}
use Rattle.std.proofs.lemmas.Bool.{eq-eqb}
use Rattle.seal.specs.Sums.{Fit}
use Rattle.layout.specs.sealed.Summed.{HasSums}
use Rattle.layout.proofs.Numbers.{AllFit, IsBytes, length-number, number_back}
use Rattle.layout.proofs.SealedHeaders.{page_fits}
use Rattle.layout.proofs.SealedSectors.{listed, listing}
use Rattle.layout.proofs.FrameReaders.{front_tells}
use Rattle.layout.proofs.Frames.{front_bytes_are}
use Rattle.layout.proofs.Summed.{sealed_front}

role_back : (n : ℕ) → n ≤ 5 → role_number (role_in n) ≡ n
role_back n le = grind (arith, nat_tests)

role_low : (h : PageHeader) → role_number h.object.role ≤ 5
role_low h = grind (arith, nat_tests)

-- the header that these numbers decode to, with any role
abbrev any_header : List ℕ → PageHeader
any_header ns = record {
  object = record {
    role = role_in (get_or ns 0 0);
    allocations = get_or ns 1 0;
    calls = get_or ns 2 0;
    owner = get_or ns 3 0;
  };
  words = (page_header_from ns).words;
}

-- if the first of seven numbers is that of a role, they are the numbers of a header
any_read : (ns : List ℕ) → length ns ≡ 7 → get_or ns 0 0 ≤ 5 → ns ≡ page_header_numbers (any_header ns)
any_read ns len le = listing 7 0 ns len ∙ ap (λ (m : ℕ). m ∷ listed 1 6 ns) (sym (role_back (get_or ns 0 0) le))

pub sums_named : (bytes ns : List ℕ) (words : Sums) → length ns ≡ 7 → get_or ns 0 0 ≤ 5 → bytes ≡ sector_bytes ns →
    words ≡ (page_header_from ns).words → HasSums bytes words
unfolding page_header_bytes
sums_named bytes ns words len le is same =
    subst (HasSums bytes) (sym same) ((any_header ns).object, is ∙ ap sector_bytes (any_read ns len le))

-- ---- numbers of more than 8 bytes

byte_small : (n : ℕ) → n % 256 < 256
byte_small n = omega arith

small_bytes : (n : ℕ) → IsBytes (number n)
unfolding number
small_bytes n zero = byte_small _
small_bytes n (suc zero) = byte_small _
small_bytes n (suc (suc zero)) = byte_small _
small_bytes n (suc (suc (suc zero))) = byte_small _
small_bytes n (suc (suc (suc (suc zero)))) = byte_small _
small_bytes n (suc (suc (suc (suc (suc zero))))) = byte_small _
small_bytes n (suc (suc (suc (suc (suc (suc zero)))))) = byte_small _
small_bytes n (suc (suc (suc (suc (suc (suc (suc zero))))))) = byte_small _
small_bytes n (suc (suc (suc (suc (suc (suc (suc (suc i)))))))) = omega arith

-- the number that the 8 bytes of a number encode
abbrev capped : ℕ → ℕ
capped n = little_number 8 (number n)

capped_same : (n : ℕ) → number (capped n) ≡ number n
capped_same n = number_back (number n) (length-number n) (small_bytes n)

capped_fits : (n : ℕ) → capped n < 2 ^ 64
unfolding number
capped_fits n = omega arith

-- a header with counts and an owner that fit
abbrev capped_header : PageHeader → PageHeader
capped_header h = record {
  object = record {
    role = h.object.role;
    allocations = capped h.object.allocations;
    calls = capped h.object.calls;
    owner = capped h.object.owner;
  };
  words = h.words;
}

capped_words : (h : PageHeader) → words_bytes (page_header_numbers (capped_header h)) ≡ words_bytes (page_header_numbers h)
unfolding words_bytes
capped_words h = rw (capped_same h.object.allocations, capped_same h.object.calls, capped_same h.object.owner) refl

capped_bytes : (h : PageHeader) → page_header_bytes (capped_header h) ≡ page_header_bytes h
unfolding page_header_bytes sector_bytes
capped_bytes h = ap (λ (b : List ℕ). with_seal (b ++ zeros 432)) (capped_words h)

words_fit : (h : PageHeader) → Fit h.words → AreWords (page_header_numbers (capped_header h))
words_fit h fit =
    page_fits (capped_header h) (capped_fits h.object.allocations) (capped_fits h.object.calls) (capped_fits h.object.owner)
    (omega (arith, fit.a)) (omega (arith, fit.b)) (omega (arith, fit.c))

-- a header sector is read as seven numbers: the first is that of a role, and the last three are the sums of the words
pub record IsHeaderRead (h : PageHeader) (ns : List ℕ) : Type 0 where
  pub role : get_or ns 0 0 ≤ 5
  pub words : (page_header_from ns).words ≡ h.words

-- what a reader of sectors says of seven numbers holds of those of a header, if its sums fit
pub header_sector : (P : List ℕ → Type 0) (bytes : List ℕ) (h : PageHeader) → Fit h.words → bytes ≡ page_header_bytes h →
    ((ns : List ℕ) → length ns ≡ 7 → AreWords ns → bytes ≡ sector_bytes ns → P ns) → P (page_header_numbers (capped_header h))
unfolding page_header_bytes
header_sector P bytes h fit is only =
    only (page_header_numbers (capped_header h)) refl (words_fit h fit) (is ∙ sym (capped_bytes h))

pub header_read : (h : PageHeader) (ns : List ℕ) → ns ≡ page_header_numbers (capped_header h) → IsHeaderRead h ns
header_read h ns e = record {
  role = subst (λ (xs : List ℕ). get_or xs 0 0 ≤ 5) (sym e) (role_low h);
  words = ap (λ (xs : List ℕ). (page_header_from xs).words) e;
}

-- ---- a whole block

same_number : (n : ℕ) → (n == n) ≡ true
same_number n = eq-eqb n n refl

-- equal sums are found equal
pub sums_equal : (s t : Sums) → s ≡ t → ((s.a == t.a) && ((s.b == t.b) && (s.c == t.c))) ≡ true
sums_equal s t e = rw (e, same_number t.a, same_number t.b, same_number t.c) refl

module _ (block : List ℕ) (words : Sums) (found : Option Sums) (are : words ≡ sums_of (take (length block - 512) (drop 512 block)))
    (fit : Fit words) (only : (h : PageHeader) → Fit h.words → take 512 block ≡ page_header_bytes h → found ≡ Some h.words) where
  words_are : words ≡ sums_of (drop 512 block)
  words_are = are ∙ ap sums_of (take_rest block 512)

  pub summed_found : IsSummed block → found ≡ Some words
  summed_found is =
      let same : is.header.words ≡ words = is.words ∙ sym words_are in
      only is.header (subst Fit (sym same) fit) is.first ∙ ap Some same

  pub found_summed : {named : Sums} → HasSums (take 512 block) named → named ≡ words → IsSummed block
  found_summed {named} has same =
      record { header = record { object = has.0; words = named }; first = has.1; words = same ∙ words_are }

-- ---- the frame's header

role_again : (r : Role) → role_in (role_number r) ≡ r
role_again r = grind (arith, nat_tests)

role_small : (r : Role) → role_number r < 2 ^ 64
role_small r = grind (arith, nat_tests)

-- the first 32 bytes of a block with this header sector decode to the header
front_tells_it : (bytes : List ℕ) (h : PageHeader) → take 512 bytes ≡ page_header_bytes (capped_header h) →
    header_from bytes ≡ (capped_header h).object
front_tells_it bytes h first =
    let object : ObjectHeader = (capped_header h).object in
    let whole : bytes ≡ front_numbers (role_number object.role) object ++ drop 32 bytes =
    sym (take-append-drop 32 bytes) ∙ ap (λ (b : List ℕ). b ++ drop 32 bytes)
    (sealed_front bytes (capped_header h) first ∙ front_bytes_are object) in
    let fits : AllFit (role_number object.role ∷ object.allocations ∷ object.calls ∷ object.owner ∷ []) =
    (role_small object.role, (capped_fits h.object.allocations, (capped_fits h.object.calls, (capped_fits h.object.owner, tt)))) in
    (front_tells (role_number object.role) object bytes (drop 32 bytes) fits (role_again object.role) whole).header_is

-- a block is summed exactly with the header that its first 32 bytes decode to
pub summed_object : (bytes : List ℕ) → IsSummed bytes → take 512 bytes
    ≡ page_header_bytes (record { object = header_from bytes; words = sums_of (drop 512 bytes) })
summed_object bytes is =
    let first : take 512 bytes ≡ page_header_bytes (capped_header is.header) = is.first ∙ sym (capped_bytes is.header) in
    first
    ∙ ap (λ (o : ObjectHeader). page_header_bytes (record { object = o; words = is.header.words }))
    (sym (front_tells_it bytes is.header first))
    ∙ ap (λ (w : Sums). page_header_bytes (record { object = header_from bytes; words = w })) is.words
