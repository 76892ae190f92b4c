-- What the functions of `objects` and `roots` do to objects.
use Rattle.capability.specs.Names.{ℕ, List, [], Cap, Capability, ObjectHeader, Content, Object, Root, Running}
use Rattle.capability.specs.Names.{current_count, root_at, with_root, with_slot_in, slice_set}
use Rattle.std.specs.Prelude.{◌+◌, ◌∷◌}
use Rattle.model.specs.declared.object.Content.TheVariants as content
use Rattle.capability.specs.declared.present.RootChange.{RootChange}
use Rattle.capability.specs.declared.present.RootChange.TheVariants as change

-- the objects after process p received words and a key, and runs
abbrev pub with_message : List Object → ℕ → List ℕ → ℕ → List Object
with_message os p words key = with_root os p (record (root_at os p) { state = Running; words = words; key = key })

-- a root after this change
abbrev pub changed_root : RootChange → Root Cap → Root Cap
changed_root (change.State state) root = record root { state = state }
changed_root (change.Word index word) root = record root { words = slice_set root.words index word }
changed_root (change.Space space) root = record root { space = space }
changed_root (change.Message words key) root = record root { state = Running; words = words; key = key }

-- a content whose root is changed, if it has one
abbrev pub with_root_in : {C : Type 0} → (Root C → Root C) → Content C → Content C
with_root_in change (content.Root root) = content.Root (change root)
with_root_in change other = other

-- a content with these capabilities in its slots from i on, if it has slots
abbrev pub with_slots_in : {C : Type 0} → Content C → ℕ → List C → Content C
with_slots_in content i [] = content
with_slots_in content i (c ∷ cs) = with_slots_in (with_slot_in content i c) (i + 1) cs

-- a capability as it is stored: with its object's present count, so it is live
abbrev pub live_cap : List ObjectHeader → Capability → Cap
live_cap hs w = record { what = w; count = current_count hs w }
