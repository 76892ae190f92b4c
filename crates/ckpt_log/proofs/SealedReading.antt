-- Reading the header slots.
use Rattle.std.proofs.Common.{◌≡◌, ℕ, ◌+◌, ◌-◌, ◌%◌, ◌<◌, ◌↔◌, ◌∷◌, List, [], length, map, get_or, Option, None, Some, ap, refl, subst, sym, ◌∙◌}
use Rattle.std.proofs.Common.{inl, inr, arith, Bool, false}
use Rattle.std.specs.Prelude.{IsTrue}
use Rattle.std.proofs.lemmas.Bool.{false≢true}
use Rattle.std.proofs.lemmas.List.{get_or-map}
use Rattle.std.proofs.lemmas.Option.{same_Some}
use Rattle.device.specs.Disk.{Image}
use Rattle.header_slots.specs.Committed.{IsRefused}
use Rattle.header_slots.specs.Slots.{Counts, IsCommitted, IsGreatestPair, Slots}
use Rattle.header_slots.specs.declared.deciding.NotCommitted.{NotCommitted}
use Rattle.header_slots.specs.declared.deciding.NotCommitted.TheVariants.{NextGate, NoPair}
use Rattle.header_slots.specs.declared.deciding.SlotNumbers.{SlotNumbers}
use Rattle.layout.specs.declared.bad_image.BadImage.{BadImage}
use Rattle.layout.specs.declared.bad_image.BadImage.TheVariants as bad
use Rattle.layout.specs.declared.open_fault.OpenFault.TheVariants as fault
use Rattle.layout.specs.declared.sealed.header.SealedHeader.{SealedHeader}
use Rattle.layout.specs.sealed.Gate.{HasNumber}
use Rattle.layout.specs.Header.{IsHeader}
use Rattle.layout.proofs.NumberedGates.{one_number as one_gate_number}
use Rattle.ckpt_log.specs.declared.sealed.opening.HeaderSlot.{HeaderSlot}
use Rattle.ckpt_log.specs.sealed.Closing.{GoesFirst, IsOrder, IsOrderOf}
use Rattle.ckpt_log.specs.declared.sealed.closing.Order.{Order}
use Rattle.ckpt_log.specs.sealed.Committed.{HasHeader, HasNone}
use Rattle.layout.specs.sealed.Opening.{Commits, IsSound, gate_sector, header_sector}
use Rattle.ckpt_log.specs.sealed.Reading.{AreRead, HasNoneBy, IsChosen, IsGateIn, IsHeaderIn, number_of, numbered, numbers_of, reason_of}
use Rattle.layout.proofs.SealedDeciding.{one_number}
use Rattle.layout.proofs.SealedSlots.{are_slots, same_option, slots_in}

-- the numbers of a list of three slots are those of its items
pub three_numbers : (xs : List HeaderSlot) (d : HeaderSlot) → length xs ≡ 3 →
    map numbers_of xs ≡ numbers_of (get_or xs 0 d) ∷ numbers_of (get_or xs 1 d) ∷ numbers_of (get_or xs 2 d) ∷ []
three_numbers [] d e = absurd (omega (arith, e))
three_numbers (x ∷ []) d e = absurd (omega (arith, e))
three_numbers (x ∷ y ∷ []) d e = absurd (omega (arith, e))
three_numbers (x ∷ y ∷ z ∷ []) d e = refl
three_numbers (x ∷ y ∷ z ∷ w ∷ xs) d e = absurd (omega (arith, e))

-- ---- the numbers are those of the image

header_is : (bytes : List ℕ) (it : Option SealedHeader) → IsHeaderIn bytes it → (s : ℕ) → (number_of it ≡ Some s) ↔ IsSound bytes s
header_is bytes None none s = (λ e. cc, λ is. absurd (none is.0 is.1 is.2))
header_is bytes (Some h) is s = (
  λ e. (h, is.0, is.1, same_Some h.header.sequence s e),
  λ sound. ap (λ (n : ℕ). Some n) (one_number bytes h.header.sequence s (h, is.0, is.1, refl) sound),
)

gate_is : (bytes : List ℕ) (it : Option ℕ) → IsGateIn bytes it → (n : ℕ) → (it ≡ Some n) ↔ HasNumber bytes n
gate_is bytes None none n = (λ e. cc, λ has. absurd (none n has))
gate_is bytes (Some m) has n = (
  λ e. subst (HasNumber bytes) (same_Some m n e) has,
  λ other. ap (λ (k : ℕ). Some k) (one_gate_number bytes m n has other),
)

-- in both lists of slots, each of the three slots has the same numbers
pub record SameNumbers (a b : Slots) : Type 0 where
  pub header : (k : ℕ) → k < 3 → (a k).header ≡ (b k).header
  pub gate : (k : ℕ) → k < 3 → (a k).gate ≡ (b k).gate

abbrev pub no_slot : HeaderSlot
no_slot = record { header = None; gate = None }

abbrev no_numbers : SlotNumbers
no_numbers = record { header = None; gate = None }

pub read_numbers : (image : Image) (xs : List HeaderSlot) → AreRead image xs → SameNumbers (numbered xs) (slots_in image)
read_numbers image xs read = record {
  header = λ k lt.
      let there : get_or (map numbers_of xs) k no_numbers ≡ numbers_of (get_or xs k no_slot) =
      get_or-map numbers_of xs k no_slot no_numbers (omega (arith, lt, read.count)) in
      let is = header_is (image (header_sector k)) (get_or xs k no_slot).header (read.each k no_slot lt).header in
      let are = (are_slots image).header k in
      ap (λ (it : SlotNumbers). it.header) there
      ∙ same_option (number_of (get_or xs k no_slot).header) (slots_in image k).header
      (λ s e. (are s).1 ((is s).0 e)) (λ s e. (is s).1 ((are s).0 e));
  gate = λ k lt.
      let there : get_or (map numbers_of xs) k no_numbers ≡ numbers_of (get_or xs k no_slot) =
      get_or-map numbers_of xs k no_slot no_numbers (omega (arith, lt, read.count)) in
      let is = gate_is (image (gate_sector k)) (get_or xs k no_slot).gate (read.each k no_slot lt).gate in
      let are = (are_slots image).gate k in
      ap (λ (it : SlotNumbers). it.gate) there
      ∙ same_option (get_or xs k no_slot).gate (slots_in image k).gate
      (λ s e. (are s).1 ((is s).0 e)) (λ s e. (is s).1 ((are s).0 e));
}

-- ---- slots with the same numbers have the same committed header

pub turned : {a b : Slots} → SameNumbers a b → SameNumbers b a
turned same = record { header = λ k lt. sym (same.header k lt); gate = λ k lt. sym (same.gate k lt) }

pub counts_too : (a b : Slots) (s : ℕ) → SameNumbers a b → Counts a s → Counts b s
counts_too a b s same is = record {
  header = sym (same.header (s % 3) (omega arith)) ∙ is.header;
  gate = sym (same.gate (s % 3) (omega arith)) ∙ is.gate;
}

pub greatest_too : (a b : Slots) (s : ℕ) → SameNumbers a b → IsGreatestPair a s → IsGreatestPair b s
greatest_too a b s same is = record {
  positive = is.positive;
  counts = counts_too a b s same is.counts;
  neighbour = counts_too a b (s - 1) same is.neighbour;
  greatest = λ n low high. is.greatest n (counts_too b a n (turned same) low) (counts_too b a (n + 1) (turned same) high);
}

pub committed_too : (a b : Slots) (s : ℕ) → SameNumbers a b → IsCommitted a s → IsCommitted b s
committed_too a b s same is = record {
  pair = greatest_too a b s same is.pair;
  next = λ e. is.next (same.gate ((s + 1) % 3) (omega arith) ∙ e);
}

pub no_pair_too : (a b : Slots) → SameNumbers a b → IsRefused a NoPair → IsRefused b NoPair
no_pair_too a b same none = λ s pair. none s (record {
  positive = pair.positive;
  counts = counts_too b a s (turned same) pair.counts;
  neighbour = counts_too b a (s - 1) (turned same) pair.neighbour;
})

next_gate_too : (a b : Slots) → SameNumbers a b → IsRefused a NextGate → IsRefused b NextGate
next_gate_too a b same is = (is.0, greatest_too a b is.0 same is.1, sym (same.gate ((is.0 + 1) % 3) (omega arith)) ∙ is.2)

pub chosen_commits : (image : Image) (xs : List HeaderSlot) (h : SealedHeader) → AreRead image xs → IsChosen xs h → Commits image h
chosen_commits image xs h read is =
    let there : IsHeaderIn (image (header_sector (h.header.sequence % 3))) (Some h) =
    subst (IsHeaderIn (image (header_sector (h.header.sequence % 3)))) (is.there no_slot)
    (read.each (h.header.sequence % 3) no_slot (omega arith)).header in
    record {
      slots = slots_in image;
      are = are_slots image;
      opens = record {
        committed = committed_too (numbered xs) (slots_in image) h.header.sequence (read_numbers image xs read) is.committed;
        bytes = there.1;
      };
      fits = there.0;
    }

pub has_none : (image : Image) (xs : List HeaderSlot) (room : ℕ) (why : BadImage) → AreRead image xs → HasNoneBy xs room why →
    HasNone image room (fault.Bad why)
has_none image xs room bad.NoHeader read none =
    (slots_in image, are_slots image, no_pair_too (numbered xs) (slots_in image) (read_numbers image xs read) none)
has_none image xs room bad.BadHeader read (inl none) =
    inl (slots_in image, are_slots image, next_gate_too (numbered xs) (slots_in image) (read_numbers image xs read) none)
has_none image xs room bad.BadHeader read (inr none) = inr (none.0, chosen_commits image xs none.0 read none.1, none.2)
has_none image xs room bad.Small read none = absurd none
has_none image xs room bad.NotASuperblock read none = absurd none
has_none image xs room bad.BadGeometry read none = absurd none
has_none image xs room bad.BadDirectory read none = absurd none
has_none image xs room bad.BadFrame read none = absurd none
has_none image xs room bad.BadCapability read none = absurd none
has_none image xs room bad.BadProcess read none = absurd none
has_none image xs room bad.BadBank read none = absurd none

-- ---- the committed header is among those read

counted : (xs : List HeaderSlot) (s : ℕ) (d : HeaderSlot) → length xs ≡ 3 → IsCommitted (numbered xs) s →
    number_of (get_or xs (s % 3) d).header ≡ Some s
counted xs s d size is =
    ap (λ (it : SlotNumbers). it.header) (sym (get_or-map numbers_of xs (s % 3) d no_numbers (omega (arith, size)))) ∙ is.pair.counts.header

pub none_there : (xs : List HeaderSlot) (s : ℕ) (d : HeaderSlot) → length xs ≡ 3 → IsCommitted (numbered xs) s →
    (get_or xs (s % 3) d).header ≡ None → ⊥
none_there xs s d size is none =
    let lost : None ≡ Some s = ap number_of (sym none) ∙ counted xs s d size is in
    cc

pub number_there : (xs : List HeaderSlot) (s : ℕ) (d : HeaderSlot) (h : SealedHeader) → length xs ≡ 3 → IsCommitted (numbered xs) s
    → (get_or xs (s % 3) d).header ≡ Some h → h.header.sequence ≡ s
number_there xs s d h size is there = same_Some h.header.sequence s (ap number_of (sym there) ∙ counted xs s d size is)

-- ---- why no header is committed

pub refused_by : (xs : List HeaderSlot) (room : ℕ) (why : NotCommitted) → IsRefused (numbered xs) why → HasNoneBy xs room (reason_of why)
refused_by xs room NoPair is = is
refused_by xs room NextGate is = inl is

pub beyond_by : (xs : List HeaderSlot) (room : ℕ) (h : SealedHeader) (within : Bool) → IsChosen xs h →
    (IsTrue within ↔ IsHeader 2 room h.header) → within ≡ false → HasNoneBy xs room bad.BadHeader
beyond_by xs room h within chosen means no_more = inr (h, chosen, λ fits. false≢true (sym no_more ∙ means.1 fits))

pub header_by : (image : Image) (xs : List HeaderSlot) (room : ℕ) (h : SealedHeader) → AreRead image xs → IsChosen xs h →
    IsHeader 2 room h.header → HasHeader image room h
header_by image xs room h read chosen fits = record { committed = chosen_commits image xs h read chosen; fits = fits }

-- ---- the order of closing

goes_first_too : (a b : Slots) (i j : ℕ) → SameNumbers a b → GoesFirst a i j → GoesFirst b i j
goes_first_too a b i j same first = λ n slot it.
    let low = first n slot (counts_too b a n (turned same) it) in
    (low.0, low.1, counts_too a b low.0 same low.2, low.3)

pub order_read : (image : Image) (xs : List HeaderSlot) (o : Order) → AreRead image xs → IsOrder (numbered xs) o → IsOrderOf image o
order_read image xs o read is =
    let same = read_numbers image xs read in (
      slots_in image,
      are_slots image,
      record {
        first_low = is.first_low;
        second_low = is.second_low;
        third_low = is.third_low;
        apart = is.apart;
        first_apart = is.first_apart;
        second_apart = is.second_apart;
        early = goes_first_too (numbered xs) (slots_in image) o.first o.second same is.early;
        late = goes_first_too (numbered xs) (slots_in image) o.second o.third same is.late;
      },
    )
