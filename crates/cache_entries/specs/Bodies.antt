-- The bodies of objects by place: the kind of each, and its words or slots.
use Rattle.cache_entries.specs.Names.{ℕ, Bool, true, false, List, [], Option, Some, IsSome, length, map, slice_index_or}
use Rattle.cache_entries.specs.Names.{slice_set, range_with_len, unwrap_or, void_held, Cap, Content, Root, item_at}
use Rattle.cache_entries.specs.Names.{slice_index}
use Rattle.std.specs.Prelude.{◌≡◌, ◌+◌, ◌<◌, ◌≤◌, ◌∷◌}
use Rattle.model.specs.declared.object.Content.TheVariants as content
use Rattle.cache_entries.specs.declared.bodies.Kind.{Kind}
use Rattle.cache_entries.specs.declared.bodies.Kind.TheVariants as kind

-- the content of a body of this kind, with these words or slots
abbrev pub content_in : Kind → Option (List ℕ) → Option (List Cap) → Content Cap
content_in kind.Free words slots = content.Free
content_in kind.Page words slots = content.Page (unwrap_or words [])
content_in kind.Node words slots = content.Node (unwrap_or slots [])
content_in (kind.Root root) words slots = content.Root root
content_in kind.Annex words slots = content.Annex (unwrap_or slots [])
content_in (kind.Bank limit) words slots = content.Bank limit

-- whether a body of this kind has words; whether it has slots
abbrev pub words_are_of : Kind → Bool
words_are_of kind.Page = true
words_are_of _ = false

abbrev pub slots_are_of : Kind → Bool
slots_are_of kind.Node = true
slots_are_of kind.Annex = true
slots_are_of _ = false

-- a body whose root is changed, if it has one
abbrev pub kind_with_root : (Root Cap → Root Cap) → Kind → Kind
kind_with_root change (kind.Root root) = kind.Root (change root)
kind_with_root change other = other

-- the slots, with these capabilities from index i on
abbrev pub slots_from : List Cap → ℕ → List Cap → List Cap
slots_from slots i [] = slots
slots_from slots i (c ∷ cs) = slots_from (slice_set slots i c) (i + 1) cs

-- each of 32 slots from index `end` on is void
abbrev pub AreVoidFrom : ℕ → List Cap → Type 0
AreVoidFrom end slots = (end ≤ 32) × ((i : ℕ) → end ≤ i → i < 32 → slice_index_or slots i void_held ≡ void_held)

-- the slots at a place, or no slots if it has none
abbrev pub slots_at : List (Option (List Cap)) → ℕ → List Cap
slots_at ns k = unwrap_or (item_at ns k) []

-- for each place with slots, an index from which on they are all void
pub record AreEnds (ns : List (Option (List Cap))) (ends : List ℕ) : Type 0 where
  pub count : length ends ≡ length ns
  pub void : (k : ℕ) (slots : List Cap) → item_at ns k ≡ Some slots → AreVoidFrom (slice_index ends k) slots

-- words or slots exist if a body of this kind has them
abbrev pub HasRoom : Kind → Option (List ℕ) → Option (List Cap) → Type 0
HasRoom kind.Page words slots = IsSome words
HasRoom kind.Node words slots = IsSome slots
HasRoom kind.Annex words slots = IsSome slots
HasRoom _ words slots = Unit {0}

abbrev pub kind_at : List Kind → ℕ → Kind
kind_at ks k = slice_index_or ks k kind.Free

abbrev pub content_at : List Kind → List (Option (List ℕ)) → List (Option (List Cap)) → ℕ → Content Cap
content_at ks ps ns k = content_in (kind_at ks k) (item_at ps k) (item_at ns k)

-- the contents of the bodies at all places
unfoldable pub contents_in : List Kind → List (Option (List ℕ)) → List (Option (List Cap)) → List (Content Cap)
contents_in ks ps ns = map (content_at ks ps ns) (range_with_len 0 (length ks))

pub record AreBodies (ks : List Kind) (ps : List (Option (List ℕ))) (ns : List (Option (List Cap))) : Type 0 where
  pub pages : length ps ≡ length ks
  pub nodes : length ns ≡ length ks
  pub room : (k : ℕ) → HasRoom (kind_at ks k) (item_at ps k) (item_at ns k)

-- the kind of a content; then words and slots by place, with those of this content at place k
abbrev pub kind_of : Content Cap → Kind
kind_of content.Free = kind.Free
kind_of (content.Page words) = kind.Page
kind_of (content.Node slots) = kind.Node
kind_of (content.Root root) = kind.Root root
kind_of (content.Annex registers) = kind.Annex
kind_of (content.Bank limit) = kind.Bank limit

abbrev pub with_words_of : Content Cap → ℕ → List (Option (List ℕ)) → List (Option (List ℕ))
with_words_of (content.Page words) k ps = slice_set ps k (Some words)
with_words_of _ k ps = ps

abbrev pub with_slots_of : Content Cap → ℕ → List (Option (List Cap)) → List (Option (List Cap))
with_slots_of (content.Node slots) k ns = slice_set ns k (Some slots)
with_slots_of (content.Annex registers) k ns = slice_set ns k (Some registers)
with_slots_of _ k ns = ns
