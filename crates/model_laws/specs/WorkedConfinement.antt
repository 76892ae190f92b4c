-- A worked world with a confined process: its set is closed, and the rows show what it can't do.
use Rattle.model_laws.specs.Names.{ℕ, Bool, List, [], replicate, slice_set, Void, Page, Node, Process, Start, Bank}
use Rattle.model_laws.specs.Names.{Running, full, weak, IsClosed, free, all_slots, zero_words, World, with_slot}
use Rattle.model_laws.specs.Names.{of_prime_bank, fresh_root, prime_bank}
use Rattle.std.specs.Prelude.{◌==◌, ◌||◌, ◌∷◌, ◌++◌}
use Rattle.model.specs.declared.object.Content.TheVariants as content
use Rattle.model_laws.specs.Worked.{Row, at_world, row}
use Prim.Native.String.{String}

-- World C0: process 1 with annex 2 runs, and holds itself, the prime bank and process 3. Process 3 with annex 4 runs,
-- and holds node 5 weakly, and bank 6, which may own 4 objects and owns none. Node 5 holds page 16.
unfoldable pub c0 : World
c0 = record {
  objects =
      prime_bank
      ∷ fresh_root Running 2
      ∷ of_prime_bank (content.Annex
      (slice_set (slice_set (slice_set (slice_set (all_slots Void) 1 (Process 1)) 2 (Bank 0)) 3 (Start 3 7)) 4
      (Process 3)))
      ∷ fresh_root Running 4
      ∷ of_prime_bank (content.Annex (slice_set (slice_set (all_slots Void) 1 (Node 5 weak)) 2 (Bank 6)))
      ∷ of_prime_bank (content.Node (slice_set (all_slots Void) 0 (Page 16 full)))
      ∷ of_prime_bank (content.Bank 4)
      ∷ (replicate 9 free ++ (of_prime_bank (content.Page (slice_set zero_words 0 1)) ∷ replicate 7 free));
  age = 0;
}

-- process 3, its annex and its bank
abbrev pub confined : ℕ → Bool
confined n = n == 3 || n == 4 || n == 6

-- the three members own only each other, and have only weak capabilities to anything else
abbrev pub ConfinedIsClosed : Type 0
ConfinedIsClosed = IsClosed c0.objects confined

-- a set is no longer closed if its process gets a capability to node 5 that is full, or read-only but not weak
abbrev pub OutwardIsNotClosed : Type 0
OutwardIsNotClosed =
    (IsClosed (with_slot c0.objects 4 1 (Node 5 full)) confined → ⊥)
    × (IsClosed (with_slot c0.objects 4 1 (Node 5 (record { 0 = 1 }))) confined → ⊥)

-- the answer to `show 3` after an order was refused for lack of access
abbrev pub refused : String
refused =
    "process 3 owner 0 annex 4 running key 0 words 2 0 0 0 space void\nregister 1 node 5 weak\nregister 2 bank 6\nend"

-- process 3 can't write through its weak capabilities; code 2 means no access
abbrev pub only_reads : Row
only_reads = row (at_world c0) (
    ("call 3 1 1 0 0 0 0 0 0 0", "done") ∷
    ("call 3 28 2 0 9 0 0 0 0 0", "done") ∷ ("show 3", refused) ∷
    ("call 3 1 2 0 0 0 2 0 0 0", "done") ∷ ("show 3", refused) ∷
    ("show 16", "page 16 owner 0\nword 0 1\nend") ∷ ("show 5", "node 5 owner 0\nslot 0 page 16\nend") ∷
    [])

-- process 3 writes a page that its bank made, and gives it up with the bank
abbrev pub makes_pages : Row
makes_pages = row (at_world c0) (
    ("call 3 2 1 0 0 0 0 0 0 0", "done") ∷
    ("call 3 28 2 0 9 0 0 0 0 0", "done") ∷ ("show 17", "page 17 owner 6\nword 0 9\nend") ∷
    ("call 3 2 6 0 0 0 0 0 0 0", "done") ∷ ("show 17", "free 17\nend") ∷ ("show 6", "free 6\nend") ∷
    [])

-- If a weak fetch gave a capability that is only read-only, process 3 could fetch node 5 by it. From there it would
-- write page 16, which no process of a closed set may change: what is fetched has to be weak too.
abbrev pub escapes : Row
escapes = row (at_world (record { objects = with_slot c0.objects 4 28 (Node 5 (record { 0 = 1 })); age = 0 })) (
    ("call 3 28 1 0 0 0 0 0 0 0", "done") ∷
    ("call 3 28 2 0 9 0 0 0 0 0", "done") ∷ ("show 16", "page 16 owner 0\nword 0 9\nend") ∷
    [])

-- the rows above
unfoldable pub rows : List Row
rows = only_reads ∷ makes_pages ∷ escapes ∷ []
