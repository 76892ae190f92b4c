-- A worked world: a set that is closed except for one trusted process, and how others break the bound if they act
-- freely.
use Rattle.confinement.specs.Names.{ℕ, Bool, List, [], IsClosed, replicate, slice_set, Void, Page, Node, Start}
use Rattle.confinement.specs.Names.{all_slots, free, full, zero_words, World, fresh_root, of_prime_bank, prime_bank}
use Rattle.confinement.specs.Names.{Row, at_world, row}
use Rattle.std.specs.Prelude.{◌==◌, ◌||◌, ◌∷◌, ◌++◌}
use Rattle.model.specs.declared.object.Content.TheVariants as content
use Rattle.model.specs.declared.object.State.TheVariants as state
use Rattle.confinement.specs.Trusted.{IsClosedBut}

-- The world `d0`: process 1 with annex 2 runs, and holds the right to start process 3, and node 7. Process 3 with annex 4 is
-- available, and holds page 16. Process 5 with annex 6 runs, and holds the right to start process 1, page 16 and node 7.
unfoldable pub d0 : World
d0 = record {
  objects =
      prime_bank
      ∷ fresh_root state.Running 2
      ∷ of_prime_bank (content.Annex (slice_set (slice_set (all_slots Void) 1 (Start 3 7)) 2 (Node 7 full)))
      ∷ fresh_root state.Available 4
      ∷ of_prime_bank (content.Annex (slice_set (all_slots Void) 1 (Page 16 full)))
      ∷ fresh_root state.Running 6
      ∷ of_prime_bank (content.Annex
      (slice_set (slice_set (slice_set (all_slots Void) 1 (Start 1 0)) 2 (Page 16 full)) 3 (Node 7 full)))
      ∷ of_prime_bank (content.Node (all_slots Void))
      ∷ (replicate 8 free ++ (of_prime_bank (content.Page zero_words) ∷ replicate 7 free));
  age = 0;
}

-- the client's set: process 1, its annex 2, and node 7
abbrev pub client : ℕ → Bool
client n = n == 1 || n == 2 || n == 7

-- the trusted processes: the store, process 3
abbrev pub store : ℕ → Bool
store n = n == 3

-- the client's set is closed but for the store, and isn't closed without this exception
abbrev pub ClientIsClosedBut : Type 0
ClientIsClosedBut = IsClosedBut store d0.objects client × (IsClosed d0.objects client → ⊥)

-- a message from process 1 changes the root and the annex of process 3
abbrev pub asks : Row
asks = row (at_world d0) (
    ("send 1 1 5 0 0 0 2 0 0 0", "done") ∷ (
      "show 3",
      "process 3 owner 0 annex 4 running key 7 words 5 0 0 0 space void\nregister 1 page 16\nregister 28 node 7\nend",
    ) ∷
    [])

-- if process 3, which is trusted, sends page 16, process 1 can change it, though it is outside the set
abbrev pub answered : Row
answered = row (at_world d0) (
    ("call 1 1 0 0 0 0 0 0 0 0", "done") ∷ ("return 3 31 0 0 0 0 1 0 0 0", "done") ∷
    ("call 1 28 2 0 9 0 0 0 0 0", "done") ∷ ("show 16", "page 16 owner 0\nword 0 9\nend") ∷
    [])

-- if process 5 sends page 16 through a start capability, process 1 can change it
abbrev pub sent : Row
sent = row (at_world d0) (
    ("return 1 1 0 0 0 0 0 0 0 0", "done") ∷ ("send 5 1 0 0 0 0 2 0 0 0", "done") ∷
    ("call 1 28 2 0 9 0 0 0 0 0", "done") ∷ ("show 16", "page 16 owner 0\nword 0 9\nend") ∷
    [])

-- if process 5 stores page 16 in a node that both hold, process 1 can change it
abbrev pub shared : Row
shared = row (at_world d0) (
    ("call 5 3 2 0 0 0 2 0 0 0", "done") ∷ ("call 1 2 1 0 0 0 0 0 0 0", "done") ∷
    ("call 1 28 2 0 9 0 0 0 0 0", "done") ∷ ("show 16", "page 16 owner 0\nword 0 9\nend") ∷
    [])

-- all rows above
unfoldable pub rows : List Row
rows = asks ∷ answered ∷ sent ∷ shared ∷ []
