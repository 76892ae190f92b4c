-- Which header slot is the committed one, and what a torn write leaves.
use Rattle.ckpt_log.proofs.Names.{nat_tests, ℕ, zero, suc, Bool, true, false, Option, Some, List, refl, ap, arith, and_parts, eqb-true}
use Rattle.ckpt_log.proofs.Names.{is_open, committed_of, committed_slot, committed_bytes, option_at, does_count, sequence_in, Image, Elsewhere}
use Rattle.ckpt_log.proofs.Names.{w64, from_le_bytes, from_le_bytes-to_le_bytes_8, CheckpointHeader, Closed, Open, number, number_from, gate_bytes}
use Rattle.ckpt_log.proofs.Names.{header_bytes, six, Agrees, elsewhere_on, HeaderSlot, slot_number, header_at, gate_at, header_sector, gate_sector}
use Rattle.ckpt_log.proofs.Names.{closed_gate, Precedes, KeepsHeader, HasNew, IsOldOrNew}
use Rattle.std.proofs.Common.{◌≡◌, ◌<◌, ◌≤◌, ◌+◌, ◌*◌, ◌%◌, ◌∙◌, ◌^◌, ◌++◌}
use Rattle.std.specs.Prelude.{if◌then◌else◌, ◌==◌}

-- ---- a header that counts

pub belongs : (header gate : List ℕ) {slot : ℕ} → does_count header gate slot ≡ true → sequence_in header % 2 ≡ slot
belongs header gate {slot} counts = eqb-true (sequence_in header % 2) slot (and_parts (is_open gate) (sequence_in header % 2 == slot)
    counts).1

-- whether the header in slot k counts, and its sequence number
abbrev pub counts_at : Image → ℕ → Bool
counts_at image k = does_count (image (1 + 2 * k)) (image (2 + 2 * k)) k

abbrev pub number_at : Image → ℕ → ℕ
number_at image k = sequence_in (image (1 + 2 * k))

-- ---- the committed header

-- the header in slot k counts; the other doesn't, or its number isn't greater
pub record Wins (image : Image) (k : ℕ) : Type 0 where
  pub low : k < 2
  pub counts : counts_at image k ≡ true
  pub greatest : (j : ℕ) → j + k ≡ 1 → counts_at image j ≡ true → number_at image j ≤ number_at image k

first_of : (first second : Bool) {m n : ℕ} → first ≡ true → (second ≡ true → n ≤ m) → committed_of first m second n ≡ Some 0
first_of first second {m} {n} c g = grind (arith, nat_tests)

second_of : (first second : Bool) {m n : ℕ} → second ≡ true → (first ≡ true → m < n) → committed_of first m second n ≡ Some 1
second_of first second {m} {n} c g = grind (arith, nat_tests)

slot_is : {image : Image} (k : ℕ) → Wins image k → committed_slot image ≡ Some k
slot_is {image} zero wins = first_of (counts_at image 0) (counts_at image 1) wins.counts (wins.greatest 1 refl)
slot_is {image} (suc zero) wins = second_of (counts_at image 0) (counts_at image 1) wins.counts (λ even. omega
    (arith, wins.greatest 0 refl even, belongs (image 1) (image 2) even, belongs (image 3) (image 4) wins.counts))
slot_is (suc (suc k)) wins = absurd (omega (arith, wins.low))

pub committed : {image : Image} {k : ℕ} {b : List ℕ} → Wins image k → image (1 + 2 * k) ≡ b → committed_bytes image ≡ Some b
committed {image} {k} wins bytes = ap (option_at image) (slot_is k wins) ∙ ap (λ (x : List ℕ). Some x) bytes

found : {image : Image} {b : List ℕ} (slot : Option ℕ) → committed_slot image ≡ slot → option_at image slot ≡ Some b →
    (k : ℕ) × Wins image k × (image (1 + 2 * k) ≡ b)
found {image} {b} slot e is = grind (arith, nat_tests)

-- ---- only the next header's slot changes

module _ {n : ℕ} {old new : Image} {b : List ℕ} (is : committed_bytes old ≡ Some b) (next : sequence_in b + 1 ≡ n)
    (touched : Elsewhere (1 + 2 * (n % 2)) 2 old new) where
  there : (k : ℕ) × Wins old k × (old (1 + 2 * k) ≡ b)
  there = found (committed_slot old) refl is

  abbrev k : ℕ
  k = there.0

  -- the committed header isn't in the next header's slot
  other : k + n % 2 ≡ 1
  other = grind (arith, nat_tests)

  beside : (i : ℕ) → 1 + 2 * k ≤ i → i ≤ 2 + 2 * k → new i ≡ old i
  beside i low high = grind (arith, nat_tests, other)

  header : new (1 + 2 * k) ≡ old (1 + 2 * k)
  header = beside (1 + 2 * k) (omega arith) (omega arith)

  gate : new (2 + 2 * k) ≡ old (2 + 2 * k)
  gate = beside (2 + 2 * k) (omega arith) (omega arith)

  -- if the next header counts, it is committed
  pub new_at : {h : List ℕ} → new (1 + 2 * (n % 2)) ≡ h → sequence_in h ≡ n → is_open (new (2 + 2 * (n % 2))) ≡ true →
      committed_bytes new ≡ Some h
  new_at {h} written number open' = grind (arith, nat_tests)

-- ---- what is committed after a torn write of a gate or a header

as_le : (xs : List ℕ) → number_from xs ≡ from_le_bytes w64 xs
unfolding number_from
as_le xs = omega arith

-- a number is read back from bytes that begin with it
number_back : {n : ℕ} (rest : List ℕ) → n < 2 ^ 64 → number_from (number n ++ rest) ≡ n
unfolding number
number_back {n} rest fits = as_le (number n ++ rest) ∙ from_le_bytes-to_le_bytes_8 n fits

-- the sequence number is read back from a header's bytes
pub sequence_of : (h : CheckpointHeader) → h.sequence < 2 ^ 64 → sequence_in (header_bytes h) ≡ h.sequence
unfolding header_bytes
sequence_of h fits = search (arith, six, number_back)

-- a header belongs in the slot of its sequence number mod 2
pub header_is : (h : CheckpointHeader) (slot : HeaderSlot) {at : ℕ} → slot_number slot ≡ h.sequence % 2 → at ≡ header_at slot →
    at ≡ header_sector h
header_is h slot number place = place ∙ ap (λ (n : ℕ). 1 + 2 * n) number

pub gate_is : (h : CheckpointHeader) (slot : HeaderSlot) {at : ℕ} → slot_number slot ≡ h.sequence % 2 → at ≡ gate_at slot →
    at ≡ gate_sector h
gate_is h slot number place = place ∙ ap (λ (n : ℕ). 2 + 2 * n) number

-- the sector of a slot's gate belongs to the slot
gate_within : (r : ℕ) {old new : Image} → Elsewhere (2 + 2 * r) 1 old new → Elsewhere (1 + 2 * r) 2 old new
gate_within r e = record { before = λ i lt. e.before i (omega (arith, lt)); after = λ i le. e.after i (omega (arith, le)) }

closing_by : (b : Bool) {h : CheckpointHeader} {old new : Image} → is_open (old (gate_sector h)) ≡ b → Precedes old h →
    Elsewhere (gate_sector h) 1 old new → (is_open (old (gate_sector h)) ≡ false → Agrees new old) → KeepsHeader h old new
closing_by b {h} {old} {new} is next e same = grind (arith, nat_tests)

-- closing the gate of the next header's slot keeps the committed header
pub closing_keeps : {h : CheckpointHeader} {old new : Image} → Precedes old h → Elsewhere (gate_sector h) 1 old new
    → (is_open (old (gate_sector h)) ≡ false → Agrees new old) → KeepsHeader h old new
closing_keeps {h} {old} {new} next e same = closing_by (is_open (old (gate_sector h))) refl next e same

shut_by : (b : Bool) (bytes : List ℕ) → is_open bytes ≡ b → is_open (if b then gate_bytes Closed else bytes) ≡ false
shut_by b bytes is = grind (arith, nat_tests)

-- a gate is closed after `closed_gate`
pub shut : (bytes : List ℕ) → is_open (closed_gate bytes) ≡ false
shut bytes = shut_by (is_open bytes) bytes refl

pub shut_gate : (old new : Image) (h : CheckpointHeader) → new (gate_sector h) ≡ closed_gate (old (gate_sector h)) →
    is_open (new (gate_sector h)) ≡ false
shut_gate old new h closed = ap is_open closed ∙ shut (old (gate_sector h))

-- writing the next header while its gate is closed keeps the committed header
pub header_keeps : {h : CheckpointHeader} {old new : Image} → Precedes old h → is_open (old (gate_sector h)) ≡ false →
    Elsewhere (header_sector h) 1 old new → KeepsHeader h old new
header_keeps {h} {old} {new} next closed e = grind (arith, nat_tests)

open_new : {h : CheckpointHeader} {old new : Image} → h.sequence < 2 ^ 64 → Precedes old h → old (header_sector h) ≡ header_bytes h
    → Elsewhere (gate_sector h) 1 old new → is_open (new (gate_sector h)) ≡ true → HasNew h old new
open_new {h} {old} {new} fits next written e gate = grind (arith, nat_tests, gate, gate_within, header, new_at, sequence_of)

opening_by : (b : Bool) {h : CheckpointHeader} {old new : Image} → is_open (new (gate_sector h)) ≡ b → h.sequence < 2 ^ 64 →
    Precedes old h → old (header_sector h) ≡ header_bytes h → Elsewhere (gate_sector h) 1 old new → IsOldOrNew h old new
opening_by b {h} {old} {new} is fits next written e = grind (arith, nat_tests)

-- while the next header's gate is being opened, the old or the new header is committed
pub opening : {h : CheckpointHeader} {old new : Image} → h.sequence < 2 ^ 64 → Precedes old h → old (header_sector h) ≡ header_bytes h →
    Elsewhere (gate_sector h) 1 old new → IsOldOrNew h old new
opening {h} {old} {new} fits next written e = opening_by (is_open (new (gate_sector h))) refl fits next written e

-- whether the old or the new header is committed, only the slot of h changed
pub either_elsewhere : {h : CheckpointHeader} {old new : Image} → IsOldOrNew h old new → Elsewhere (header_sector h) 2 old new
either_elsewhere {h} {old} {new} h0 = grind (arith, nat_tests)

-- after the next header's gate was written open, this header is committed
pub opened_new : {h : CheckpointHeader} {old new : Image} → h.sequence < 2 ^ 64 → Precedes old h → old (header_sector h) ≡ header_bytes h
    → Elsewhere (gate_sector h) 1 old new → new (gate_sector h) ≡ gate_bytes Open → HasNew h old new
opened_new {h} {old} {new} fits next written e gate = open_new fits next written e (ap is_open gate)

-- ---- one change after another

pub precedes_on : {h : CheckpointHeader} {old new : Image} → Precedes old h → KeepsHeader h old new → Precedes new h
precedes_on next kept = (next.0, kept.committed ∙ next.1, next.2)

pub keeps_on : {h : CheckpointHeader} {old mid new : Image} → KeepsHeader h old mid → KeepsHeader h mid new → KeepsHeader h old new
keeps_on {h} {old} {mid} {new} first second = grind (arith, nat_tests)

pub new_on : {h : CheckpointHeader} {old mid new : Image} → KeepsHeader h old mid → HasNew h mid new → HasNew h old new
new_on {h} {old} {mid} {new} kept next = search (elsewhere_on (header_sector h) 2 old mid new kept.elsewhere next.elsewhere)

pub either_on : {h : CheckpointHeader} {old mid new : Image} → KeepsHeader h old mid → IsOldOrNew h mid new → IsOldOrNew h old new
either_on {h} {old} {mid} {new} first h1 = grind (arith, nat_tests)
