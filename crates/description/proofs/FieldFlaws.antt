-- The search for bad fields finds the first place where the rule for fields is broken.
use Rattle.description.proofs.Names.{ℕ, zero, suc, List, [], length, map, Option, None, Some, slice_get, slice_index, slice_index_or, IsSomeAnd, refl, sym, ap}
use Rattle.description.proofs.Names.{arith, All, All-cons, All-head, All-map, All-tail, none-some, same_Some, slice_get_within, AreDistinct, AreSlots, AreWords}
use Rattle.description.proofs.Names.{HasFields, IsProcessEntry, IsSomeCapability, Description, NodeEntry, PageEntry, ProcessEntry, SlotEntry, WordEntry}
use Rattle.description.proofs.Names.{process_of, BreaksField, BreaksIndexed, BreaksProcess, BreaksSlots, IsFirst, IsTwice, Indexed, Part, SlotFlaw, inl, inr}
use Rattle.description.proofs.Names.{slice_get-get_or, take, take_more, subst, Contains, Contains-append_cases}
use Rattle.std.proofs.Common.{◌≡◌, ◌≢◌, ◌+◌, ◌<◌, ◌≤◌, ◌∷◌, ◌++◌, ◌∙◌}
use Rattle.description.specs.declared.flaw.Indexed.TheVariants as indexed
use Rattle.description.specs.declared.flaw.Part.TheVariants as part
use Rattle.description.specs.declared.flaw.SlotFlaw.TheVariants as slot
use Rattle.description.proofs.Lists.{all_got, contains_cases, contains_here, contains_none, contains_there}

-- if the first i numbers differ from n and the next one does, the first i + 1 differ from n
pub one_more_other : (ns : List ℕ) (i n : ℕ) → i < length ns → (Contains (take i ns) n → ⊥) → (slice_index ns i ≢ n) →
    Contains (take (i + 1) ns) n → ⊥
one_more_other ns i n within none other there =
    elim (Contains-append_cases (take i ns) (slice_index ns i ∷ []) n (subst (λ (ms : List ℕ). Contains ms n) (take_more ns i 0 within)
    there)) [
      | inl before ↦ none before
      | inr last ↦ elim (contains_cases n (slice_index ns i) [] last) [ inl is ↦ other is | inr nowhere ↦ contains_none n nowhere ]
    ]

-- a number above the greatest of a list isn't in the list
pub none_above : (ns : List ℕ) (n most : ℕ) → All (λ m. m ≤ most) ns → most < n → Contains ns n → ⊥
none_above ns n most all above there =
    let low : n ≤ most = subst (λ (m : ℕ). m ≤ most) there.2 (all there.0 n there.1) in
    omega (arith, low, above)

distinct_last : (ns : List ℕ) (n : ℕ) → AreDistinct ns → (Contains ns n → ⊥) → AreDistinct (ns ++ n ∷ [])
distinct_last [] n distinct none = (contains_none n, tt)
distinct_last (m ∷ ns) n distinct none = (
  λ there. elim (Contains-append_cases ns (n ∷ []) m there) [
    | inl before ↦ distinct.0 before
    | inr last ↦ elim (contains_cases m n [] last) [
      | inl is ↦ none (subst (λ (k : ℕ). Contains (m ∷ ns) k) (sym is) (contains_here m ns))
      | inr nowhere ↦ contains_none m nowhere
    ]
  ],
  distinct_last ns n distinct.1 (λ there. none (contains_there n m ns there)),
)

-- if the first j numbers are distinct and the next isn't among them, the first j + 1 are distinct
pub distinct_more : (ns : List ℕ) (j n : ℕ) → j < length ns → n ≡ slice_index ns j → (Contains (take j ns) n → ⊥) →
    AreDistinct (take j ns) → AreDistinct (take (j + 1) ns)
distinct_more ns j n within is none distinct = rw (take_more ns j 0 within)
    (distinct_last (take j ns) (slice_index ns j) distinct (rw is at none))

pub twice_at : (ns : List ℕ) (i j n : ℕ) → j < length ns → n ≡ slice_index ns j → (i < j) × (slice_index ns i ≡ n) → IsTwice ns i j
twice_at ns i j n within is at =
    (at.0, n, slice_get-get_or ns i 0 (omega (arith, at.0, within)) ∙ ap Some at.1, slice_get-get_or ns j 0 within ∙ ap Some (sym is))

-- if P holds of all of `map f xs`, it holds of f x for each item x
pub all_unmapped : {A B : Type 0} (P : B → Type 0) (f : A → B) (xs : List A) → All P (map f xs) → All (λ x. P (f x)) xs
all_unmapped P f [] all = λ k d lt. absurd (omega arith)
all_unmapped P f (x ∷ xs) all = All-cons (λ y. P (f y)) x xs (All-head P (f x) (map f xs) all)
    (all_unmapped P f xs (All-tail P (f x) (map f xs) all))

pub are_slots : (first : ℕ) (slots : List SlotEntry) → All (λ n. (first ≤ n) × (n < 32)) (map (λ s. s.index) slots)
    × AreDistinct (map (λ s. s.index) slots) → All (λ s. IsSomeCapability s.capability) slots → AreSlots first slots
are_slots first slots indexed held = record {
  places = all_unmapped (λ n. (first ≤ n) × (n < 32)) (λ s. s.index) slots indexed.0;
  distinct = indexed.1;
  held = held;
}

pub are_words : (words : List WordEntry) → All (λ n. (0 ≤ n) × (n < 512)) (map (λ w. w.index) words)
    × AreDistinct (map (λ w. w.index) words) → AreWords words
are_words words indexed = record {
  places = λ k d lt. (all_unmapped (λ n. (0 ≤ n) × (n < 512)) (λ w. w.index) words indexed.0 k d lt).1;
  distinct = indexed.1;
}

-- if an item has a property that contradicts P, P doesn't hold of all items
pub all_refuted : {A : Type 0} (P Q : A → Type 0) (xs : List A) (i : ℕ) → IsSomeAnd (slice_get xs i) Q → ((x : A) → P x → Q x → ⊥) →
    All P xs → ⊥
all_refuted {A = A} P Q xs i broken against all = go (slice_get xs i) refl broken
  where
    go : (o : Option A) → slice_get xs i ≡ o → IsSomeAnd o Q → ⊥
    go None is there = absurd there
    go (Some x) is there = against x (all_got P xs i x all is) there

pub twice_refuted : (ns : List ℕ) (i j : ℕ) → IsTwice ns i j → AreDistinct ns → ⊥
twice_refuted [] i j twice distinct = none-some twice.1 twice.2
twice_refuted (m ∷ ns) zero zero twice distinct = omega (arith, twice.0)
twice_refuted (m ∷ ns) zero (suc j) twice distinct =
    let same : m ≡ twice.1 = same_Some m twice.1 twice.2 in
    let found : slice_get ns j ≡ Some m = twice.3 ∙ ap Some (sym same) in
    distinct.0 (j, slice_get_within ns j m found, at ns j m found)
  where
    at : (xs : List ℕ) (k x : ℕ) → slice_get xs k ≡ Some x → slice_index_or xs k x ≡ x
    at [] k x is = refl
    at (y ∷ xs) zero x is = same_Some y x is
    at (y ∷ xs) (suc k) x is = at xs k x is
twice_refuted (m ∷ ns) (suc i) zero twice distinct = omega (arith, twice.0)
twice_refuted (m ∷ ns) (suc i) (suc j) twice distinct = twice_refuted ns i j (omega (arith, twice.0), twice.1, twice.2, twice.3) distinct.1

indexed_refuted : (first end : ℕ) (ns : List ℕ) (flaw : Indexed) → BreaksIndexed first end ns flaw → All (λ n. (first ≤ n) × (n < end)) ns →
    AreDistinct ns → ⊥
unfolding BreaksIndexed
indexed_refuted first end ns (indexed.OutOfRange i) broken within distinct =
    all_refuted (λ n. (first ≤ n) × (n < end)) _ ns i broken.1 (λ x is out. out is) within
indexed_refuted first end ns (indexed.Twice i j) broken within distinct = twice_refuted ns i j broken.1.1 distinct

slots_refuted : (first : ℕ) (slots : List SlotEntry) (flaw : SlotFlaw) → BreaksSlots first slots flaw → AreSlots first slots → ⊥
unfolding BreaksSlots
slots_refuted first slots (slot.Index flaw) broken are =
    indexed_refuted first 32 (map (λ s. s.index) slots) flaw broken (All-map (λ n. (first ≤ n) × (n < 32)) (λ s. s.index) slots are.places)
    are.distinct
slots_refuted first slots (slot.Text i) broken are = all_refuted (λ s. IsSomeCapability s.capability) _ slots i broken.1.1
    (λ s is out. out is) are.held

process_refuted : (p : ProcessEntry) (which : Part) → BreaksProcess p which → IsProcessEntry p → ⊥
unfolding BreaksProcess
process_refuted p (part.State k) out is = is.state out
process_refuted p (part.Key k) out is = omega (arith, is.key, out.1)
process_refuted p (part.Space k) out is = out.2 is.space
process_refuted p (part.Registers k flaw) out is = slots_refuted 1 p.registers.items flaw out.3 is.registers
process_refuted p which out is = out

process_part_refuted : (d : Description) (which : Part) → IsFirst IsProcessEntry (λ p. BreaksProcess p which) d.processes.items
    (process_of which) → HasFields d → ⊥
process_part_refuted d which broken has =
    all_refuted IsProcessEntry _ d.processes.items (process_of which) broken.1 (λ p is out. process_refuted p which out is) has.processes

pub field_refuted : (d : Description) (which : Part) → BreaksField d which → HasFields d → ⊥
field_refuted d (part.Slots k flaw) broken has =
    all_refuted (λ (n : NodeEntry). AreSlots 0 n.slots.items) _ _ k broken.1.1 (λ n is out. slots_refuted 0 n.slots.items flaw out is)
    has.nodes
field_refuted d (part.Words k flaw) broken has = all_refuted (λ (p : PageEntry). AreWords p.words.items) _ _ k broken.2.1
    (λ p is out. indexed_refuted 0 512 (map (λ w. w.index) p.words.items) flaw out
    (All-map (λ n. (0 ≤ n) × (n < 512)) (λ w. w.index) p.words.items (λ i e lt. (omega arith, is.places i e lt))) is.distinct) has.pages
field_refuted d which broken has = process_part_refuted d which broken has

never_there : {A : Type 0} (o : Option A) → IsSomeAnd o (λ x. ⊥) → ⊥
never_there None is = is
never_there (Some x) is = is

-- the first bad field of a process breaks the rule for fields of the description
pub process_broken : (d : Description) (which : Part) → IsFirst IsProcessEntry (λ p. BreaksProcess p which) d.processes.items
    (process_of which) → BreaksField d which
unfolding BreaksProcess
process_broken d (part.Slots k flaw) first = absurd (never_there _ first.1)
process_broken d (part.Words k flaw) first = absurd (never_there _ first.1)
process_broken d which first = first
