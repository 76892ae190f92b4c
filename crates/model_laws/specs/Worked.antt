-- Worked scripts: what the machine of the definitions answers to lines.
use Rattle.model_laws.specs.Names.{ℕ, true, false, None, Some, List, [], map, replicate, slice_set, codes, All, Void}
use Rattle.model_laws.specs.Names.{Page, Node, Process, Start, Discrim, Command, Running, full, free, all_slots}
use Rattle.model_laws.specs.Names.{zero_words, World, opened, Outcome, outcome, refusal_of, carried_out, Fits, spelling}
use Rattle.model_laws.specs.Names.{printed, line_of, small, of_prime_bank, fresh_root, prime_bank, i0}
use Rattle.std.specs.Prelude.{◌≡◌, ◌∷◌, ◌++◌}
use Rattle.model.specs.declared.answer.Answer.TheVariants as answer
use Rattle.model.specs.declared.object.Content.TheVariants as content
use Rattle.model.specs.Machine.{Running as Machine}
use Prim.Native.String.{String}

-- a machine that was just opened at a world, and one where all nodes were written since
abbrev pub at_world : World → Machine
at_world w = opened small (record { world = w; generation = 0; entries = 0 })

abbrev pub with_all_nodes_written : World → Machine
with_all_nodes_written w = record (at_world w) { touched = replicate 16 true ++ replicate 8 false }

-- the outcome of a command: its first refusal, or the answer of carrying it out
abbrev pub answered : Machine → Command → Outcome
answered s c = elim (refusal_of small s c) [ Some why ↦ outcome (answer.Refused why) s | None ↦ carried_out small s c ]

-- what is printed for a list of commands
abbrev pub written_for : Machine → List Command → List (List ℕ)
written_for s [] = []
written_for s (c ∷ cs) = printed (answered s c).answer ∷ written_for (answered s c).after cs

-- a worked row: the machine that it begins with, and its lines, each with the text of its answer
pub record Row : Type 0 where
  pub begins : Machine
  pub lines : List (String × String)

abbrev pub row : Machine → List (String × String) → Row
row s lines = record { begins = s; lines = lines }

-- each line spells a command, and the commands are answered by the texts
abbrev pub IsRow : Row → Type 0
IsRow r = (commands : List Command)
    × All Fits commands
    × (map (λ line. codes line.0) r.lines ≡ map spelling commands)
    × (map (λ line. line_of (codes line.1)) r.lines ≡ written_for r.begins commands)

-- World I0 at an age
abbrev pub aged : ℕ → World
aged age = record { objects = i0.objects; age = age }

-- World S0: process 1 with annex 2 runs, and holds itself, the right to start itself with key 7, the
-- right to classify capabilities, nodes 5 and 6, and page 16
unfoldable pub s0 : World
s0 = record {
  objects =
      prime_bank
      ∷ fresh_root Running 2
      ∷ of_prime_bank (content.Annex (slice_set (slice_set (slice_set (slice_set (slice_set (slice_set (all_slots Void)
      1 (Process 1)) 3 (Start 1 7)) 8 Discrim) 10 (Node 5 full)) 12 (Node 6 full)) 13 (Page 16 full)))
      ∷ free ∷ free
      ∷ of_prime_bank (content.Node (all_slots Void))
      ∷ of_prime_bank (content.Node (all_slots Void))
      ∷ (replicate 9 free ++ (of_prime_bank (content.Page zero_words) ∷ replicate 7 free));
  age = 0;
}

-- World B0: bank 5 with limit 10 owns bank 6 with limit 2, which owns page 16; process 1 with annex 2 runs,
-- and holds the page
unfoldable pub b0 : World
b0 = record {
  objects =
      prime_bank
      ∷ fresh_root Running 2
      ∷ of_prime_bank (content.Annex (slice_set (all_slots Void) 6 (Page 16 full)))
      ∷ free ∷ free
      ∷ of_prime_bank (content.Bank 10)
      ∷ record { owner = 5; content = content.Bank 2 }
      ∷ (replicate 9 free ++ (record { owner = 6; content = content.Page zero_words } ∷ replicate 7 free));
  age = 0;
}
