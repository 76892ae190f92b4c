-- Objects and their contents.
use Rattle.std.specs.Prelude.{ℕ, Bool, true, false, List, [], map, replicate, slice_set}
use Rattle.model.specs.declared.capability.Capability.{Capability}
use Rattle.model.specs.declared.capability.Capability.TheVariants.{Void}
use Rattle.model.specs.declared.object.Role.{Role}
use Rattle.model.specs.declared.object.Role.TheVariants as role
use Rattle.model.specs.declared.object.State.{State}
use Rattle.model.specs.declared.object.State.TheVariants.{Available, Running, Waiting}
use Rattle.model.specs.declared.object.Root.{Root}
use Rattle.model.specs.declared.object.Content.{Content}
use Rattle.model.specs.declared.object.Content.TheVariants as content
use Rattle.model.specs.declared.object.Object.{Object}

-- 32 times the same, as the slots of a new node
unfoldable pub all_slots : {C : Type 0} → C → List C
all_slots c = replicate 32 c

-- 512 words of 0, as those of a new page
unfoldable pub zero_words : List ℕ
zero_words = replicate 512 0

-- whether a content is of this kind
abbrev pub is_free : {C : Type 0} → Content C → Bool
is_free content.Free = true
is_free _ = false

abbrev pub is_page : {C : Type 0} → Content C → Bool
is_page (content.Page words) = true
is_page _ = false

abbrev pub is_node : {C : Type 0} → Content C → Bool
is_node (content.Node slots) = true
is_node _ = false

abbrev pub is_root : {C : Type 0} → Content C → Bool
is_root (content.Root root) = true
is_root _ = false

abbrev pub is_annex : {C : Type 0} → Content C → Bool
is_annex (content.Annex registers) = true
is_annex _ = false

abbrev pub is_bank : {C : Type 0} → Content C → Bool
is_bank (content.Bank limit) = true
is_bank _ = false

-- the role of an object with this content
abbrev pub role_of : {C : Type 0} → Content C → Role
role_of content.Free = role.Free
role_of (content.Page words) = role.Page
role_of (content.Node slots) = role.Node
role_of (content.Root root) = role.Root
role_of (content.Annex registers) = role.Annex
role_of (content.Bank limit) = role.Bank

-- a role as a number
abbrev pub role_number : Role → ℕ
role_number role.Free = 0
role_number role.Page = 1
role_number role.Node = 2
role_number role.Root = 3
role_number role.Annex = 4
role_number role.Bank = 5

-- a content's words, slots or limit; empty, or 0, if it has none
abbrev pub words_in : {C : Type 0} → Content C → List ℕ
words_in (content.Page words) = words
words_in _ = []

abbrev pub slots_in : {C : Type 0} → Content C → List C
slots_in (content.Node slots) = slots
slots_in (content.Annex registers) = registers
slots_in _ = []

abbrev pub limit_in : {C : Type 0} → Content C → ℕ
limit_in (content.Bank limit) = limit
limit_in _ = 0

-- the root of a process, or a blank one
abbrev pub root_in : Content Capability → Root Capability
root_in (content.Root root) = root
root_in _ = record { state = Available; words = []; key = 0; annex = 0; space = Void }

-- a content with another word or slot at index i, if it has that index
abbrev pub with_word_in : {C : Type 0} → Content C → ℕ → ℕ → Content C
with_word_in (content.Page words) i word = content.Page (slice_set words i word)
with_word_in other i word = other

abbrev pub with_slot_in : {C : Type 0} → Content C → ℕ → C → Content C
with_slot_in (content.Node slots) i c = content.Node (slice_set slots i c)
with_slot_in (content.Annex registers) i c = content.Annex (slice_set registers i c)
with_slot_in other i c = other

-- a content with each capability in it changed
abbrev pub map_content : {B C : Type 0} → (B → C) → Content B → Content C
map_content f content.Free = content.Free
map_content f (content.Page words) = content.Page words
map_content f (content.Node slots) = content.Node (map f slots)
map_content f (content.Root r) =
    content.Root (record { state = r.state; words = r.words; key = r.key; annex = r.annex; space = f r.space })
map_content f (content.Annex registers) = content.Annex (map f registers)
map_content f (content.Bank limit) = content.Bank limit

-- an object that is free
abbrev pub free : Object
free = record { owner = 0; content = content.Free }

-- a state as a number
abbrev pub state_number : State → ℕ
state_number Available = 0
state_number Running = 1
state_number Waiting = 2

abbrev pub is_available : State → Bool
is_available Available = true
is_available _ = false

abbrev pub is_running : State → Bool
is_running Running = true
is_running _ = false

abbrev pub is_waiting : State → Bool
is_waiting Waiting = true
is_waiting _ = false
