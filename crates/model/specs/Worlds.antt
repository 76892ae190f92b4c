-- The worlds with which worked scripts begin.
use Rattle.std.specs.Prelude.{ℕ, [], ◌∷◌, ◌++◌, replicate, slice_set}
use Rattle.model.specs.declared.capability.Capability.{Capability}
use Rattle.model.specs.declared.capability.Capability.TheVariants.{Void, Page, Node, Process, Start, Bank}
use Rattle.model.specs.declared.geometry.Geometry.{Geometry}
use Rattle.model.specs.declared.object.Content.{Content}
use Rattle.model.specs.declared.object.Content.TheVariants as content
use Rattle.model.specs.declared.object.Object.{Object}
use Rattle.model.specs.declared.object.State.{State}
use Rattle.model.specs.declared.object.State.TheVariants.{Available, Running}
use Rattle.model.specs.Capability.{full}
use Rattle.model.specs.Object.{free, all_slots, zero_words}
use Rattle.model.specs.World.{World}

-- 16 nodes, 8 pages and 16 slots in each half of the log
abbrev pub small : Geometry
small = record { nodes = 16; pages = 8; log = 16 }

-- an object of the prime bank
abbrev pub of_prime_bank : Content Capability → Object
of_prime_bank c = record { owner = 0; content = c }

-- the root of a process with this state and annex, no message received and no address space
abbrev pub fresh_root : State → ℕ → Object
fresh_root s annex = of_prime_bank
    (content.Root (record { state = s; words = 0 ∷ 0 ∷ 0 ∷ 0 ∷ []; key = 0; annex = annex; space = Void }))

-- the prime bank, which may own 1000 objects
abbrev pub prime_bank : Object
prime_bank = of_prime_bank (content.Bank 1000)

-- World F0: process 1 with annex 2 runs, and holds node 5 and page 16 in registers 5 and 6
unfoldable pub f0 : World
f0 = record {
  objects =
      prime_bank
      ∷ fresh_root Running 2
      ∷ of_prime_bank (content.Annex (slice_set (slice_set (all_slots Void) 5 (Node 5 full)) 6 (Page 16 full)))
      ∷ free ∷ free
      ∷ of_prime_bank (content.Node (all_slots Void))
      ∷ (replicate 10 free ++ (of_prime_bank (content.Page zero_words) ∷ replicate 7 free));
  age = 0;
}

-- World I0: process 1 with annex 2 runs, and holds itself, the prime bank, process 3, and the right
-- to start it with key 7; process 3 with annex 4 is available
unfoldable pub i0 : World
i0 = record {
  objects =
      prime_bank
      ∷ fresh_root Running 2
      ∷ of_prime_bank (content.Annex
      (slice_set (slice_set (slice_set (slice_set (all_slots Void) 1 (Process 1)) 2 (Bank 0)) 3 (Start 3 7)) 4
      (Process 3)))
      ∷ fresh_root Available 4
      ∷ of_prime_bank (content.Annex (all_slots Void))
      ∷ replicate 19 free;
  age = 0;
}
