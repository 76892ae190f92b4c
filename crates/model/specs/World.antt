-- Worlds: all objects, and the age.
use Rattle.std.specs.Prelude.{ℕ, ◌+◌, Bool, ◌&&◌, List, [], ◌∷◌, slice_set, slice_index, slice_index_or}
use Rattle.model.specs.declared.capability.Capability.{Capability}
use Rattle.model.specs.declared.capability.Capability.TheVariants.{Void}
use Rattle.model.specs.declared.object.State.{State}
use Rattle.model.specs.declared.object.Root.{Root}
use Rattle.model.specs.declared.object.Content.{Content}
use Rattle.model.specs.declared.object.Content.TheVariants as content
use Rattle.model.specs.declared.object.Object.{Object}
use Rattle.model.specs.Object.{free, is_root, is_running, words_in, slots_in, root_in, with_word_in, with_slot_in}

-- the object of each number, and the age: how many invocations, checkpoints and journaled pages there were
pub record World : Type 0 where
  pub objects : List Object
  pub age : ℕ

-- the object at a number, its content, owner, words, slots, root; if there is none: free, 0, void or blank
abbrev pub object_at : List Object → ℕ → Object
object_at os n = slice_index_or os n free

abbrev pub content_at : List Object → ℕ → Content Capability
content_at os n = (object_at os n).content

abbrev pub owner_at : List Object → ℕ → ℕ
owner_at os n = (object_at os n).owner

abbrev pub word_at : List Object → ℕ → ℕ → ℕ
word_at os n i = slice_index (words_in (content_at os n)) i

abbrev pub slot_at : List Object → ℕ → ℕ → Capability
slot_at os n i = slice_index_or (slots_in (content_at os n)) i Void

abbrev pub root_at : List Object → ℕ → Root Capability
root_at os p = root_in (content_at os p)

-- the annex of a process, and the capability in a register
abbrev pub annex_at : List Object → ℕ → ℕ
annex_at os p = (root_at os p).annex

abbrev pub register_at : List Object → ℕ → ℕ → Capability
register_at os p r = slot_at os (annex_at os p) r

-- whether p is the number of a process; of a running process
abbrev pub is_process : List Object → ℕ → Bool
is_process os p = is_root (content_at os p)

abbrev pub is_running_process : List Object → ℕ → Bool
is_running_process os p = is_process os p && is_running (root_at os p).state

-- five updates of the object at a number: its content, one word, one slot, its root, or its state. The owner stays.
unfoldable pub with_content : List Object → ℕ → Content Capability → List Object
with_content os n c = slice_set os n (record { owner = owner_at os n; content = c })

unfoldable pub with_word : List Object → ℕ → ℕ → ℕ → List Object
with_word os n i word = with_content os n (with_word_in (content_at os n) i word)

unfoldable pub with_slot : List Object → ℕ → ℕ → Capability → List Object
with_slot os n i c = with_content os n (with_slot_in (content_at os n) i c)

unfoldable pub with_root : List Object → ℕ → Root Capability → List Object
with_root os p r = with_content os p (content.Root r)

unfoldable pub with_state : List Object → ℕ → State → List Object
with_state os p s = with_root os p (record (root_at os p) { state = s })

-- the objects with these capabilities in the slots of n, from slot i on
abbrev pub with_slots_from : List Object → ℕ → ℕ → List Capability → List Object
with_slots_from os n i [] = os
with_slots_from os n i (c ∷ cs) = with_slots_from (with_slot os n i c) n (i + 1) cs
