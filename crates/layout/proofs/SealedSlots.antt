-- The header slots of an image exist, and its sectors determine them.
use Rattle.std.proofs.Common.{◌≡◌, ℕ, ◌%◌, ◌⊎◌, ◌↔◌, List, Option, None, Some, ap, refl, subst, sym, ◌∙◌, inl, inr}
use Rattle.std.proofs.Math.Path.{fun_ext}
use Rattle.std.proofs.lemmas.Option.{same_Some}
use Rattle.device.specs.Disk.{Image}
use Rattle.header_slots.specs.Slots.{Opens, Slot, Slots}
use Rattle.header_slots.proofs.Counting.{one_committed}
use Rattle.layout.specs.declared.sealed.header.SealedHeader.{SealedHeader}
use Rattle.layout.specs.sealed.Gate.{HasNumber}
use Rattle.layout.specs.sealed.Header.{sealed_header_bytes, sealed_header_from}
use Rattle.layout.proofs.NumberedGates.{one_number as one_gate_number}
use Rattle.layout.specs.sealed.Opening.{AreSlots, Commits, IsSound, gate_sector, header_sector}
use Rattle.layout.proofs.SealedDeciding.{eleven, header_known, number_or_not, one_number, sound_or_not}

-- ---- numbers that are unique, if they exist

-- `Some n` if n is the only number with property P; `None` if no number has it
abbrev pub IsThe : (ℕ → Type 0) → Option ℕ → Type 0
IsThe P it = (s : ℕ) → (it ≡ Some s) ↔ P s

pub the_one : (P : ℕ → Type 0) → ((s t : ℕ) → P s → P t → s ≡ t) → ((s : ℕ) × P s) ⊎ ((s : ℕ) → P s → ⊥) → (it : Option ℕ) × IsThe P it
the_one P one (inl found) = (
  Some found.0,
  λ s. (
    λ e. subst P (same_Some found.0 s e) found.1,
    λ has. ap (λ (n : ℕ). Some n) (one found.0 s found.1 has),
  ),
)
the_one P one (inr none) = (None, λ s. (λ e. cc, λ has. absurd (none s has)))

pub same_option : (a b : Option ℕ) → ((s : ℕ) → a ≡ Some s → b ≡ Some s) → ((s : ℕ) → b ≡ Some s → a ≡ Some s) → a ≡ b
same_option None None there back = refl
same_option None (Some n) there back = back n refl
same_option (Some m) b there back = sym (there m refl)

-- ---- slots

abbrev pub sound_in : (bytes : List ℕ) → (it : Option ℕ) × IsThe (IsSound bytes) it
sound_in bytes = the_one (IsSound bytes) (one_number bytes) (sound_or_not bytes)

abbrev pub number_in : (bytes : List ℕ) → (it : Option ℕ) × IsThe (HasNumber bytes) it
number_in bytes = the_one (HasNumber bytes) (one_gate_number bytes) (number_or_not bytes)

abbrev pub slots_in : Image → Slots
slots_in image = λ k. record {
  header = (sound_in (image (header_sector k))).0;
  gate = (number_in (image (gate_sector k))).0;
  bytes = image (header_sector k);
}

pub are_slots : (image : Image) → AreSlots image (slots_in image)
are_slots image = record {
  header = λ k s. (sound_in (image (header_sector k))).1 s;
  gate = λ k n. (number_in (image (gate_sector k))).1 n;
  bytes = λ k. refl;
}

-- equal header sectors contain the same header
pub same_header : (c d : Image) (a b : Slots) (k : ℕ) → AreSlots c a → AreSlots d b → c (header_sector k) ≡ d (header_sector k) →
    (a k).header ≡ (b k).header
same_header c d a b k ia ib e =
    same_option (a k).header (b k).header
    (λ s is. (ib.header k s).1 (subst (λ (bytes : List ℕ). IsSound bytes s) e ((ia.header k s).0 is)))
    (λ s is. (ia.header k s).1 (subst (λ (bytes : List ℕ). IsSound bytes s) (sym e) ((ib.header k s).0 is)))

-- equal gate sectors contain the same gate
pub same_gate : (c d : Image) (a b : Slots) (k : ℕ) → AreSlots c a → AreSlots d b → c (gate_sector k) ≡ d (gate_sector k) →
    (a k).gate ≡ (b k).gate
same_gate c d a b k ia ib e =
    same_option (a k).gate (b k).gate
    (λ s is. (ib.gate k s).1 (subst (λ (bytes : List ℕ). HasNumber bytes s) e ((ia.gate k s).0 is)))
    (λ s is. (ia.gate k s).1 (subst (λ (bytes : List ℕ). HasNumber bytes s) (sym e) ((ib.gate k s).0 is)))

pub same_bytes : (c d : Image) (a b : Slots) (k : ℕ) → AreSlots c a → AreSlots d b → c (header_sector k) ≡ d (header_sector k) →
    (a k).bytes ≡ (b k).bytes
same_bytes c d a b k ia ib e = ia.bytes k ∙ e ∙ sym (ib.bytes k)

abbrev slot_with : Option ℕ → Option ℕ → List ℕ → Slot
slot_with header gate bytes = record { header = header; gate = gate; bytes = bytes }

slot_is : (a b : Slot) → a.header ≡ b.header → a.gate ≡ b.gate → a.bytes ≡ b.bytes → a ≡ b
slot_is a b header gate bytes =
    ap (λ (it : Option ℕ). slot_with it a.gate a.bytes) header ∙ ap (λ (it : Option ℕ). slot_with b.header it a.bytes) gate
    ∙ ap (λ (it : List ℕ). slot_with b.header b.gate it) bytes

pub same_slot : (c d : Image) (a b : Slots) (k : ℕ) → AreSlots c a → AreSlots d b → c (header_sector k) ≡ d (header_sector k)
    → c (gate_sector k) ≡ d (gate_sector k) → a k ≡ b k
same_slot c d a b k ia ib header gate =
    slot_is (a k) (b k) (same_header c d a b k ia ib header) (same_gate c d a b k ia ib gate) (same_bytes c d a b k ia ib header)

pub one_slots : (c : Image) (a b : Slots) → AreSlots c a → AreSlots c b → a ≡ b
one_slots c a b ia ib = fun_ext (λ k. same_slot c c a b k ia ib refl refl)

-- ---- which header is committed

pub opens_in : (image : Image) (h : SealedHeader) → Commits image h → Opens (slots_in image) h.header.sequence (sealed_header_bytes h)
opens_in image h is =
    subst (λ (s : Slots). Opens s h.header.sequence (sealed_header_bytes h))
    (one_slots image is.slots (slots_in image) is.are (are_slots image))
    is.opens

-- an image has at most one committed header
pub one_commits : (image : Image) (g h : SealedHeader) → Commits image g → Commits image h → g ≡ h
one_commits image g h a b =
    let first = opens_in image g a in
    let second = opens_in image h b in
    let number : g.header.sequence ≡ h.header.sequence =
    one_committed (slots_in image) g.header.sequence h.header.sequence first.committed second.committed in
    let bytes : sealed_header_bytes g ≡ sealed_header_bytes h =
    sym first.bytes ∙ ap (λ (s : ℕ). (slots_in image (s % 3)).bytes) number ∙ second.bytes in
    sym (header_known g (sealed_header_bytes g) a.fits refl) ∙ ap (λ (row : List ℕ). sealed_header_from (eleven row)) bytes
    ∙ header_known h (sealed_header_bytes h) b.fits refl
