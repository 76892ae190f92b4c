-- Sectors that replace others, one list of entries after another.
use Rattle.devices.proofs.Names.{nat_tests, ℕ, Bool, true, false, zero, suc, List, [], length, get_or, take, drop, replicate, refl, sym, ap, arith, ⊎_elim}
use Rattle.devices.proofs.Names.{length-drop, eq-eqb, eqb-true, eqb-false, cases_order, take_more, take-take, take-replicate, or_assoc, Image, Agrees, image_of}
use Rattle.devices.proofs.Names.{sectors_of, AreSectors, Elsewhere, Patches, State, left_by, Outcome, Fill, names, Action, Wrote, RecordEntry, or-false}
use Rattle.devices.proofs.Names.{or_parts}
use Rattle.std.proofs.lemmas.List.{length-take-le}
use Rattle.devices.specs.Record.{writes}
use Rattle.std.proofs.Common.{◌≡◌, ◌<◌, ◌≤◌, ◌+◌, ◌*◌, ◌||◌, ◌==◌, ◌∷◌, ◌++◌, ◌∙◌}

-- patching the sectors of p, then those of q, patches the sectors of both
pub patches_on : (p q r : ℕ → Bool) (from old mid new : Image) → Patches p from old mid → Patches q from mid new →
    ((i : ℕ) → r i ≡ (p i || q i)) → Patches r from old new
patches_on p q r from old mid new first second either = record {
  named = grind (arith, nat_tests);
  others = λ i no. let none = or_parts (p i) (q i) (sym (either i) ∙ no) in second.others i none.1 ∙ first.others i none.0;
}

pub names-append : (xs ys : List RecordEntry) (i : ℕ) → names (xs ++ ys) i ≡ (names xs i || names ys i)
names-append [] ys i = refl
names-append (x ∷ xs) ys i = ap (λ (b : Bool). writes x.action i || b) (names-append xs ys i)
    ∙ sym (or_assoc (writes x.action i) (names xs i) (names ys i))

-- a sector is named by j + 1 entries exactly if the first j or the last one name it
pub names_more : (es : List RecordEntry) (j : ℕ) (d : RecordEntry) → j < length es → (i : ℕ) →
    names (take (j + 1) es) i ≡ (names (take j es) i || writes (get_or es j d).action i)
names_more es j d lt i =
    ap (λ (xs : List RecordEntry). names xs i) (take_more es j d lt)
    ∙ names-append (take j es) (get_or es j d ∷ []) i
    ∙ ap (λ (b : Bool). names (take j es) i || b) (or-false (writes (get_or es j d).action i))

-- if one entry wrote a sector, the list of all entries names it
pub names_at : (es : List RecordEntry) (j : ℕ) (d : RecordEntry) → j < length es → (i : ℕ) → writes (get_or es j d).action i ≡ true →
    names es i ≡ true
names_at [] j d lt i hit = absurd (omega arith)
names_at (e ∷ es) zero d lt i hit = ap (λ (b : Bool). b || names es i) hit
names_at (e ∷ es) (suc j) d lt i hit =
    let there : names es i ≡ true = names_at es j d (omega arith) i hit in
    elim (writes e.action i) as (λ b. (b || names es i) ≡ true) [ true ↦ refl | false ↦ there ]

-- an action that wrote a sector names this sector
pub wrote_here : (action : Action) (sector : ℕ) (bytes : List ℕ) → action ≡ Wrote sector bytes → writes action sector ≡ true
wrote_here action sector bytes is = ap (λ (a : Action). writes a sector) is ∙ eq-eqb sector sector refl

-- if the sector that an action wrote is replaced by that of `from`, `Patches` holds
pub patches_one : (action : Action) (sector : ℕ) (bytes part : List ℕ) (from old new : Image) → action ≡ Wrote sector bytes →
    length part ≡ 512 → image_of part 0 ≡ from sector
    → AreSectors new sector part → Elsewhere sector (sectors_of part) old new → Patches (writes action) from old new
patches_one action sector bytes part from old new is size same put elsewhere =
    let test : (i : ℕ) → writes action i ≡ (i == sector) = λ i. ap (λ (a : Action). writes a i) is in
    let one : sectors_of part ≡ 1 = omega (arith, size) in
    record {
      named = λ i yes.
          let here : i ≡ sector = eqb-true i sector (sym (test i) ∙ yes) in
          let place : sector + 0 ≡ i = omega (arith, here) in
          ap new (sym place) ∙ sym (put 0 (omega (arith, one))) ∙ same ∙ ap from (sym here);
      others = λ i no.
          let apart : i ≡ sector → ⊥ = eqb-false i sector (sym (test i) ∙ no) in
          ⊎_elim
          (λ e. absurd (apart e))
          (⊎_elim (elsewhere.before i) (λ gt. elsewhere.after i (omega (arith, one, gt))))
          (cases_order i sector);
    }

-- bytes 512 n to 512 n + 511 of a list are its sector n
pub part_is : (bytes : List ℕ) (sector a k : ℕ) → a ≡ 512 * sector → k ≡ 512 → image_of (take k (drop a bytes)) 0 ≡ image_of bytes sector
part_is bytes sector a k a_is k_is =
    rw (a_is, k_is, take-take 512 512 (drop (512 * sector) bytes) (omega arith)) refl

pub part_size : (bytes : List ℕ) (sector a k : ℕ) → a ≡ 512 * sector → k ≡ 512 → 512 * (sector + 1) ≤ length bytes →
    length (take k (drop a bytes)) ≡ 512
part_size bytes sector a k a_is k_is inside = grind (arith, nat_tests, length-take-le, length-drop)

-- 512 times one byte is a sector filled with it
pub filled_is : (byte : ℕ) → image_of (replicate 512 byte) 0 ≡ replicate 512 byte
filled_is byte = take-replicate 512 512 byte (omega arith)

-- two images that agree outside some sectors agree everywhere once these are patched in both
pub patches_both : (test : ℕ → Bool) (from first second new other : Image) → Patches test from first new → Patches test from second other →
    ((i : ℕ) → test i ≡ false → first i ≡ second i) → Agrees other new
patches_both test from first second new other patched also same i = grind (arith, nat_tests)

-- filling the unsynced sectors with a byte leaves what the outcome `Fill` leaves
pub filled_left : (byte : ℕ) (outcome : Outcome) (s : State) (new : Image) → outcome ≡ Fill byte →
    Patches s.unsynced (λ _. replicate 512 byte) s.present new → ((i : ℕ) → s.unsynced i ≡ false → s.present i ≡ s.durable i) →
    Agrees new (left_by outcome s)
filled_left byte outcome s new is patched same i = grind (arith, nat_tests)
