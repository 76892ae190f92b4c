-- The values in the text of a description: what TOML writes for each, and what is read from it.
use Rattle.image_describer.proofs.Names.{ℕ, suc, pos, nat_lt, get_or, Bool, true, false, List, [], length, Option, Some, None, MatchOption, inl, inr, refl, sym}
use Rattle.image_describer.proofs.Names.{ap, arith, All, list_all, cases_Bool, nat_tests, recursion_from_All, Data, string, integer, array, no_items, item}
use Rattle.image_describer.proofs.Names.{NumberRange, Capability, Void, Number, Page, Space, Geometry, State, capability_text, state_text, AreFour, AreItems}
use Rattle.image_describer.proofs.Names.{IsCapability, IsList, IsNumber, IsRange, IsSlot, IsState, IsWideNumber, IsWord, whole_ranges, SlotEntry, WordEntry}
use Rattle.image_describer.proofs.Names.{IsSomeCapability, IsSpaceEntry, IsShort, IsWide, NamesWide, SpellsRange, SpellsSlot, SpellsWord, are_whole, held_text}
use Rattle.image_describer.proofs.Names.{is_range, list_text, list_unless_empty, number_unless, range_text, slot_text, space_unless_void, state_value, unless}
use Rattle.image_describer.proofs.Names.{wide_text, word_text, words_unless_zeros, unwrap_or}
use Rattle.std.proofs.Common.{◌≡◌, ◌≢◌, ◌<◌, ◌≤◌, ◌^◌, ◌==◌, ◌&&◌, if◌then◌else◌, ◌∷◌, ◌∙◌}
use Rattle.std.specs.List.{AllByRecursion as ByRecursion}
use Rattle.image_describer.proofs.Lines.{AllSpell, Spells, SpellsOption, deeper, items, spells_list, spells_number, spells_pair, spells_text}
use Rattle.image_describer.proofs.Puts.{left, right}
use Rattle.image_describer.proofs.Quoted.{quoted_capability, quoted_state}

-- ---- numbers, capabilities and states

abbrev pub number_data : ℕ → Data
number_data n = integer (pos n)

abbrev pub wide_data : ℕ → Data
wide_data n = if nat_lt n (2 ^ 63) then integer (pos n) else string (capability_text (Number n))

below : (n m : ℕ) → nat_lt n m ≡ true → n < m
below n m is = grind (arith, nat_tests, is)

not_below : (n m : ℕ) → nat_lt n m ≡ false → m ≤ n
not_below n m is = grind (arith, nat_tests, is)

pub spells_wide : (n : ℕ) → IsWide n → Spells 0 (wide_text n) (wide_data n)
spells_wide n wide =
    elim (cases_Bool (nat_lt n (2 ^ 63))) [
      | inl holds ↦ rw holds (spells_number n (below n (2 ^ 63) holds))
      | inr none ↦ rw none (spells_text (capability_text (Number n)) (quoted_capability (Number n) wide tt))
    ]

pub says_wide : (n : ℕ) → IsWide n → IsWideNumber (wide_data n) n
unfolding IsWideNumber
says_wide n wide =
    elim (cases_Bool (nat_lt n (2 ^ 63))) [
      | inl holds ↦ rw holds (inl (below n (2 ^ 63) holds, refl))
      | inr none ↦ rw none (inr (not_below n (2 ^ 63) none, (wide, tt, refl)))
    ]

abbrev pub held_data : Option Capability → Data
held_data c = string (capability_text (unwrap_or c Void))

pub spells_held : (c : Option Capability) → IsSomeCapability c → NamesWide c → Spells 0 (held_text c) (held_data c)
spells_held None some wide = absurd some
spells_held (Some c) some wide = spells_text (capability_text c) (quoted_capability c some wide)

pub says_held : (c : Option Capability) → IsSomeCapability c → NamesWide c → IsCapability (held_data c) c
says_held None some wide = absurd some
says_held (Some c) some wide = (some, wide, refl)

abbrev pub state_data : Option State → Data
state_data None = string []
state_data (Some state) = string (state_text state)

pub spells_state : (s : Option State) → s ≢ None → Spells 0 (state_value s) (state_data s)
spells_state None some = absurd (some refl)
spells_state (Some s) some = spells_text (state_text s) (quoted_state s)

pub says_state : (s : Option State) → s ≢ None → IsState (state_data s) s
says_state None some = absurd (some refl)
says_state (Some s) some = refl

-- ---- entries of lists

abbrev pub pair_data : Data → Data → Data
pair_data a b = array (item a (item b no_items))

abbrev pub slot_data : SlotEntry → Data
slot_data s = pair_data (number_data s.index) (held_data s.capability)

abbrev pub word_data : WordEntry → Data
word_data w = pair_data (number_data w.index) (wide_data w.word)

abbrev pub range_data : NumberRange → Data
range_data r = pair_data (number_data r.first) (number_data r.count)

abbrev pub MaySlot : SlotEntry → Type 0
MaySlot s = IsSomeCapability s.capability × SpellsSlot s

spells_slot : (s : SlotEntry) → MaySlot s → Spells 1 (slot_text s) (slot_data s)
spells_slot s may = spells_pair _ _ _ _ (spells_number _ may.1.0) (spells_held _ may.0 may.1.1)

says_slot : (s : SlotEntry) → MaySlot s → IsSlot (slot_data s) s
says_slot s may = (number_data s.index, held_data s.capability, refl, (may.1.0, refl), says_held s.capability may.0 may.1.1)

spells_word : (w : WordEntry) → SpellsWord w → Spells 1 (word_text w) (word_data w)
spells_word w may = spells_pair _ _ _ _ (spells_number _ may.0) (spells_wide _ may.1)

says_word : (w : WordEntry) → SpellsWord w → IsWord (word_data w) w
says_word w may = (number_data w.index, wide_data w.word, refl, (may.0, refl), says_wide w.word may.1)

spells_range : (r : NumberRange) → SpellsRange r → Spells 1 (range_text r) (range_data r)
spells_range r may = spells_pair _ _ _ _ (spells_number _ may.0) (spells_number _ may.1)

says_range : (r : NumberRange) → SpellsRange r → IsRange (range_data r) r
says_range r may = (number_data r.first, number_data r.count, refl, (may.0, refl), (may.1, refl))

-- ---- lists

module _ {A : Type 0} (f : A → List ℕ) (g : A → Data) (levels : ℕ) (P : Data → A → Type 0) (May : A → Type 0)
    (spell : (x : A) → May x → Spells levels (f x) (g x)) (say : (x : A) → May x → P (g x) x) where
  all_spell : (xs : List A) → ByRecursion May xs → AllSpell f g levels xs
  all_spell [] may = tt
  all_spell (x ∷ xs) may = (spell x may.0, all_spell xs may.1)

  all_say : (xs : List A) → ByRecursion May xs → AreItems P (items g xs) xs
  all_say [] may = tt
  all_say (x ∷ xs) may = (say x may.0, all_say xs may.1)

  spells_all : (xs : List A) → All May xs → Spells (suc levels) (list_text f xs) (array (items g xs))
  spells_all xs may = spells_list f g levels xs (all_spell xs (recursion_from_All May xs may))

  says_all : (xs : List A) → All May xs → IsList P (array (items g xs)) xs
  says_all xs may = (items g xs, refl, all_say xs (recursion_from_All May xs may))

abbrev pub list_data : {A : Type 0} → (A → Data) → List A → Option Data
list_data g [] = None
list_data g (x ∷ xs) = Some (array (items g (x ∷ xs)))

module _ {A : Type 0} (f : A → List ℕ) (g : A → Data) (P : Data → A → Type 0) (May : A → Type 0)
    (spell : (x : A) → May x → Spells 1 (f x) (g x))
    (say : (x : A) → May x → P (g x) x) where
  spells_some : (xs : List A) → All May xs → SpellsOption (list_unless_empty f xs) (list_data g xs)
  spells_some [] may = tt
  spells_some (x ∷ xs) may = spells_all f g 1 P May spell say (x ∷ xs) may

  says_some : (xs : List A) → All May xs → MatchOption (list_data g xs) (xs ≡ []) (λ d. IsList P d xs)
  says_some [] may = refl
  says_some (x ∷ xs) may = says_all f g 1 P May spell say (x ∷ xs) may

pub both : {A : Type 0} (P Q : A → Type 0) (xs : List A) → All P xs → All Q xs → All (λ x. P x × Q x) xs
both P Q xs one other = λ k d inside. (one k d inside, other k d inside)

module _ (slots : List SlotEntry) (held : All (λ s. IsSomeCapability s.capability) slots) (short : All SpellsSlot slots) where
  may_all : All MaySlot slots
  may_all = both (λ (s : SlotEntry). IsSomeCapability s.capability) SpellsSlot slots held short

  pub spells_slots : SpellsOption (list_unless_empty slot_text slots) (list_data slot_data slots)
  spells_slots = spells_some slot_text slot_data IsSlot MaySlot spells_slot says_slot slots may_all

  pub says_slots : MatchOption (list_data slot_data slots) (slots ≡ []) (λ d. IsList IsSlot d slots)
  says_slots = says_some slot_text slot_data IsSlot MaySlot spells_slot says_slot slots may_all

module _ (words : List WordEntry) (short : All SpellsWord words) where
  pub spells_words : SpellsOption (list_unless_empty word_text words) (list_data word_data words)
  spells_words = spells_some word_text word_data IsWord SpellsWord spells_word says_word words short

  pub says_words : MatchOption (list_data word_data words) (words ≡ []) (λ d. IsList IsWord d words)
  says_words = says_some word_text word_data IsWord SpellsWord spells_word says_word words short

-- ---- values that are omitted at their defaults

abbrev pub data_unless : Bool → Data → Option Data
data_unless is_default d = if is_default then None else Some d

spells_unless : (b : Bool) (text : List ℕ) (d : Data) → Spells 2 text d → SpellsOption (unless b text) (data_unless b d)
spells_unless true text d spells = tt
spells_unless false text d spells = spells

says_unless : {A : Type 0} (b : Bool) (d : Data) (x default : A) (P : Data → A → Type 0) → (b ≡ true → x ≡ default) → P d x →
    MatchOption (data_unless b d) (x ≡ default) (λ e. P e x)
says_unless true d x default P is says = is refl
says_unless false d x default P is says = says

same_number : (m n : ℕ) → (m == n) ≡ true → m ≡ n
same_number m n is = grind (arith, nat_tests, is)

pub spells_number_unless : (default n : ℕ) → IsShort n → SpellsOption (number_unless default n) (data_unless (n == default) (number_data n))
spells_number_unless default n short = spells_unless _ _ _ (deeper 0 2 _ _ (omega arith) (spells_number n short))

pub says_number_unless : (default n : ℕ) → IsShort n → MatchOption (data_unless (n == default) (number_data n)) (n ≡ default)
    (λ d. IsNumber d n)
says_number_unless default n short = says_unless (n == default) (number_data n) n default IsNumber (same_number n default) (short, refl)

-- if four words are all 0, they are the default
four_zeros : (words : List ℕ) → length words ≡ 4 → list_all (λ w. w == 0) words ≡ true → words ≡ 0 ∷ 0 ∷ 0 ∷ 0 ∷ []
four_zeros (a ∷ b ∷ c ∷ d ∷ []) four zeros = grind (arith, nat_tests, zeros)
four_zeros words four zeros = absurd (omega (arith, four))

abbrev pub words_data : List ℕ → Option Data
words_data words = data_unless (list_all (λ w. w == 0) words) (array (items wide_data words))

module _ (words : List ℕ) (four : length words ≡ 4) (wide : All IsWide words) where
  pub spells_four : SpellsOption (words_unless_zeros words) (words_data words)
  spells_four = spells_unless _ _ _ (deeper 1 2 _ _ (omega arith) (spells_all wide_text wide_data 0 IsWideNumber IsWide spells_wide
      says_wide words wide))

  pub says_four : MatchOption (words_data words) (words ≡ 0 ∷ 0 ∷ 0 ∷ 0 ∷ []) (λ d. AreFour d words)
  says_four = says_unless (list_all (λ w. w == 0) words) (array (items wide_data words)) words (0 ∷ 0 ∷ 0 ∷ 0 ∷ []) AreFour
      (four_zeros words four)
      (four, says_all wide_text wide_data 0 IsWideNumber IsWide spells_wide says_wide words wide)

-- the value of an address space, omitted if the space is void
abbrev pub space_data : Option Capability → Option Data
space_data (Some Void) = None
space_data space = Some (held_data space)

pub spells_space : (space : Option Capability) → IsSpaceEntry space → NamesWide space →
    SpellsOption (space_unless_void space) (space_data space)
spells_space (Some Void) is wide = tt
spells_space (Some (Page o a)) is wide = deeper 0 2 (held_text (Some (Page o a))) (held_data (Some (Page o a))) (omega arith)
    (spells_held (Some (Page o a)) is.0 wide)
spells_space (Some (Space o h a)) is wide = deeper 0 2 (held_text (Some (Space o h a))) (held_data (Some (Space o h a))) (omega arith)
    (spells_held (Some (Space o h a)) is.0 wide)
spells_space space is wide = absurd (grind (arith, nat_tests))

pub says_space : (space : Option Capability) → IsSpaceEntry space → NamesWide space →
    MatchOption (space_data space) (space ≡ Some Void) (λ d. IsCapability d space)
says_space (Some Void) is wide = refl
says_space (Some (Page o a)) is wide = (is.0, wide, refl)
says_space (Some (Space o h a)) is wide = (is.0, wide, refl)
says_space space is wide = absurd (grind (arith, nat_tests))

-- if a range passes the test, it has this first number and this count
range_is : (r : NumberRange) (n count : ℕ) → (r.first == n && r.count == count) ≡ true → r ≡ record { first = n; count = count }
range_is r n count is =
    let at : r.first ≡ n = grind (arith, nat_tests, is) in
    let long : r.count ≡ count = grind (arith, nat_tests, is) in
    ap (λ (k : ℕ). let s : NumberRange = record { first = k; count = r.count } in s) at ∙
    ap (λ (k : ℕ). let s : NumberRange = record { first = n; count = k } in s) long

whole_is : (g : Geometry) (rs : List NumberRange) → are_whole g rs ≡ true → rs ≡ whole_ranges g
whole_is g rs is = grind (arith, nat_tests, range_is, left, right)

-- for two ranges the code's test is the definition's
two_ranges : (g : Geometry) (rs : List NumberRange) (x : NumberRange) → 2 ≤ length rs → length rs < 3 →
    are_whole g rs ≡ (is_range (get_or rs 0 x) 0 g.nodes && is_range (get_or rs 1 x) g.nodes g.pages)
two_ranges g (n ∷ p ∷ []) x least most = refl
two_ranges g rs x least most = absurd (grind (arith, nat_tests))

pub second_range : (g : Geometry) (rs : List NumberRange) (x : NumberRange) → 2 ≤ length rs → length rs < 3 →
    is_range (get_or rs 0 x) 0 g.nodes ≡ true → (b : Bool) → b ≡ is_range (get_or rs 1 x) g.nodes g.pages → b ≡ are_whole g rs
second_range g rs x least most whole b is = is ∙ sym (two_ranges g rs x least most
    ∙ ap (λ (a : Bool). a && is_range (get_or rs 1 x) g.nodes g.pages) whole)

abbrev pub ranges_data : Geometry → List NumberRange → Option Data
ranges_data g rs = data_unless (are_whole g rs) (array (items range_data rs))

module _ (g : Geometry) (rs : List NumberRange) (short : All SpellsRange rs) where
  pub spells_ranges : SpellsOption (unless (are_whole g rs) (list_text range_text rs)) (ranges_data g rs)
  spells_ranges = spells_unless _ _ _ (spells_all range_text range_data 1 IsRange SpellsRange spells_range says_range rs short)

  pub says_ranges : MatchOption (ranges_data g rs) (rs ≡ whole_ranges g) (λ d. IsList IsRange d rs)
  says_ranges = says_unless _ _ rs _ (IsList IsRange) (whole_is g rs) (says_all range_text range_data 1 IsRange SpellsRange spells_range
      says_range rs short)
