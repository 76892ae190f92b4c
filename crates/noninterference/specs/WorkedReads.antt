-- Two worked worlds that differ only outside a set. They show why the law excludes invocations that look outside.
use Rattle.noninterference.specs.Names.{ℕ, Bool, List, [], replicate, slice_set, Void, Node, Bank, Start, Object}
use Rattle.noninterference.specs.Names.{all_slots, free, weak, zero_words, World, fresh_root, of_prime_bank, Row}
use Rattle.noninterference.specs.Names.{at_world, row}
use Rattle.std.specs.Prelude.{◌==◌, ◌||◌, ◌∷◌, ◌++◌}
use Rattle.model.specs.declared.object.Content.TheVariants as content
use Rattle.model.specs.declared.object.State.TheVariants as state
use Rattle.noninterference.specs.Reads.{HaveSame, IsReadClosedBut}

-- Process 1, with annex 2, runs. It holds bank 5, which may own 4 objects, node 6 weakly, and the right to start
-- process 3, whose annex is 4. The arguments are bank 0, process 3, and objects 7 and 16.
abbrev pub with_others : Object → Object → Object → Object → World
with_others prime server seventh sixteenth = record {
  objects =
      prime
      ∷ fresh_root state.Running 2
      ∷ of_prime_bank (content.Annex
      (slice_set (slice_set (slice_set (all_slots Void) 1 (Bank 5)) 2 (Node 6 weak)) 3 (Start 3 7)))
      ∷ server
      ∷ of_prime_bank (content.Annex (all_slots Void))
      ∷ of_prime_bank (content.Bank 4)
      ∷ of_prime_bank (content.Node (all_slots Void))
      ∷ seventh
      ∷ (replicate 8 free ++ (sixteenth ∷ replicate 7 free));
  age = 0;
}

-- World E0: bank 0 may own 1000 objects, process 3 is available, 7 and 16 are free
unfoldable pub e0 : World
e0 = with_others (of_prime_bank (content.Bank 1000)) (fresh_root state.Available 4) free free

-- World E1: bank 0 may own 9 objects and owns 8, process 3 runs, 7 and 16 are a node and a page
unfoldable pub e1 : World
e1 = with_others (of_prime_bank (content.Bank 9)) (fresh_root state.Running 4) (of_prime_bank (content.Node (all_slots Void)))
    (of_prime_bank (content.Page zero_words))

-- the reader's set: process 1 with its annex, its bank and node 6
abbrev pub reader : ℕ → Bool
reader n = n == 1 || n == 2 || n == 5 || n == 6

-- the trusted processes: the server, which the reader may start
abbrev pub server : ℕ → Bool
server n = n == 3

-- both worlds have the same objects in the reader's set, which is closed for reading in both
abbrev pub AreSameForReader : Type 0
AreSameForReader =
    HaveSame reader e0.objects e1.objects × IsReadClosedBut server e0.objects reader
    × IsReadClosedBut server e1.objects reader

-- bank 5 has less left in World E1, because bank 0 allows less
abbrev pub remains : List Row
remains =
    row (at_world e0) (("call 1 1 8 0 0 0 0 0 0 0", "done") ∷ (
      "show 1",
      "process 1 owner 0 annex 2 running key 0 words 0 4 0 4 space void\nregister 1 bank 5\nregister 2 node 6 weak\nregister 3 start 3 7\nend",
    ) ∷ [])
    ∷ row (at_world e1) (("call 1 1 8 0 0 0 0 0 0 0", "done") ∷ (
      "show 1",
      "process 1 owner 0 annex 2 running key 0 words 0 1 0 4 space void\nregister 1 bank 5\nregister 2 node 6 weak\nregister 3 start 3 7\nend",
    ) ∷ [])
    ∷ []

-- a new page gets the first free number, and the worlds differ in it
abbrev pub new_pages : List Row
new_pages =
    row (at_world e0) (("call 1 1 1 0 0 0 0 0 0 0", "done") ∷ (
      "show 2",
      "annex 2 owner 0\nregister 1 bank 5\nregister 2 node 6 weak\nregister 3 start 3 7\nregister 28 page 16\nend",
    ) ∷ [])
    ∷ row (at_world e1) (("call 1 1 1 0 0 0 0 0 0 0", "done") ∷ (
      "show 2",
      "annex 2 owner 0\nregister 1 bank 5\nregister 2 node 6 weak\nregister 3 start 3 7\nregister 28 page 17\nend",
    ) ∷ [])
    ∷ []

-- a new node gets the first free number, and the worlds differ in it
abbrev pub new_nodes : List Row
new_nodes =
    row (at_world e0) (("call 1 1 2 0 0 0 0 0 0 0", "done") ∷ (
      "show 2",
      "annex 2 owner 0\nregister 1 bank 5\nregister 2 node 6 weak\nregister 3 start 3 7\nregister 28 node 7\nend",
    ) ∷ [])
    ∷ row (at_world e1) (("call 1 1 2 0 0 0 0 0 0 0", "done") ∷ (
      "show 2",
      "annex 2 owner 0\nregister 1 bank 5\nregister 2 node 6 weak\nregister 3 start 3 7\nregister 28 node 8\nend",
    ) ∷ [])
    ∷ []

-- a new bank gets the first free number, and the worlds differ in it
abbrev pub new_banks : List Row
new_banks =
    row (at_world e0) (("call 1 1 4 3 0 0 0 0 0 0", "done") ∷ (
      "show 2",
      "annex 2 owner 0\nregister 1 bank 5\nregister 2 node 6 weak\nregister 3 start 3 7\nregister 28 bank 7\nend",
    ) ∷ [])
    ∷ row (at_world e1) (("call 1 1 4 3 0 0 0 0 0 0", "done") ∷ (
      "show 2",
      "annex 2 owner 0\nregister 1 bank 5\nregister 2 node 6 weak\nregister 3 start 3 7\nregister 28 bank 8\nend",
    ) ∷ [])
    ∷ []

-- a new process needs two numbers, and bank 0 of World E1 allows only one more object
abbrev pub new_processes : List Row
new_processes =
    row (at_world e0) (("call 1 1 3 0 0 0 0 0 0 0", "done") ∷ (
      "show 2",
      "annex 2 owner 0\nregister 1 bank 5\nregister 2 node 6 weak\nregister 3 start 3 7\nregister 28 process 7\nend",
    ) ∷ [])
    ∷ row (at_world e1) (("call 1 1 3 0 0 0 0 0 0 0", "done") ∷ (
      "show 2",
      "annex 2 owner 0\nregister 1 bank 5\nregister 2 node 6 weak\nregister 3 start 3 7\nend",
    ) ∷ [])
    ∷ []

-- starting a process stalls unless it is available
abbrev pub starts : List Row
starts =
    row (at_world e0) (("send 1 3 0 0 0 0 0 0 0 0", "done") ∷ [])
    ∷ row (at_world e1) (("send 1 3 0 0 0 0 0 0 0 0", "stalled") ∷ [])
    ∷ []

-- all rows above
unfoldable pub rows : List Row
rows = remains ++ new_pages ++ new_nodes ++ new_banks ++ new_processes ++ starts
