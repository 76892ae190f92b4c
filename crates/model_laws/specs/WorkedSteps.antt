-- Worked steps of the machine, and worked revocations.
use Rattle.model_laws.specs.Names.{Object, ℕ, List, [], map, replicate, slice_set, Answer, Capability, Void, Number}
use Rattle.model_laws.specs.Names.{Page, Node, Space, Process, Start, Resume, Bank, Discrim, Command, Operation, Call}
use Rattle.model_laws.specs.Names.{Send, Running, full, weak, free, all_slots, owner_at, chain, Saved, Up, Down}
use Rattle.model_laws.specs.Names.{candidates, opened, rescind, consume, Proceeds, Step, second, small, of_prime_bank}
use Rattle.model_laws.specs.Names.{fresh_root, prime_bank, f0, i0}
use Rattle.std.specs.Prelude.{◌≡◌, ◌∷◌, ◌++◌}
use Rattle.model.specs.declared.answer.Answer.TheVariants as answer
use Rattle.model.specs.declared.command.Command.TheVariants as command
use Rattle.model.specs.declared.answer.Refusal.TheVariants as refusal
use Rattle.model.specs.declared.object.Content.TheVariants as content
use Rattle.model.specs.Machine.{Running as Machine, Machine as UpOrDown}
use Rattle.model_laws.specs.Worked.{at_world, answered, b0}

-- an invocation with words and registers
abbrev pub invokes : Operation → ℕ → ℕ → List ℕ → List ℕ → Command
invokes operation p r words sent =
    command.Invoke (record { operation = operation; process = p; register = r; words = words; sent = sent })

-- process 1 of World F0 writes a word of page 16
abbrev pub writes : Operation → ℕ → Command
writes operation value = invokes operation 1 6 (2 ∷ 0 ∷ value ∷ 0 ∷ []) (replicate 4 0)

-- the machine after commands in a row
abbrev pub after : Machine → List Command → Machine
after s [] = s
after s (c ∷ cs) = after (answered s c).after cs

-- generation, age and entries of each saved state
abbrev pub replying_saved : List Saved → List (ℕ × ℕ × ℕ)
replying_saved saved = map (λ at. (at.generation, at.world.age, at.entries)) saved

-- the outcome of a command is a step of the machine
abbrev pub AnswersBySteps : Type 0
AnswersBySteps = (s : Machine) (c : Command) → Step small (Up s) c (answered s c).answer (Up (answered s c).after)

-- three machines: a page was frozen; it was written again, and all frozen objects are in the log; these were committed
abbrev pub frozen : Machine
frozen = after (at_world f0) (writes Call 42 ∷ command.Checkpoint ∷ [])

abbrev pub stable : Machine
stable = after frozen (writes Send 43 ∷ command.Stabilize 5 ∷ [])

abbrev pub committed : Machine
committed = after stable (command.Commit ∷ [])

-- if the device fails in a commit or a journal, the old or the new state is saved; if it fails as the last object goes
-- home, the saved state has its entries or none; in other commands only one state may be saved
abbrev pub FailsBetween : Type 0
FailsBetween =
    (replying_saved (candidates (Up stable) ++ second (Up stable) command.Commit) ≡ (0, 0, 0) ∷ (1, 2, 3) ∷ [])
    × (replying_saved (second (Up stable) (command.Stabilize 1)) ≡ [])
    × (replying_saved (second (Up frozen) command.Commit) ≡ [])
    × (replying_saved (second (Up committed) (command.Migrate 2)) ≡ [])
    × (replying_saved (second (Up committed) (command.Migrate 9)) ≡ (1, 2, 0) ∷ [])
    × (replying_saved (second (Up (at_world f0)) (command.Migrate 9)) ≡ [])
    × (replying_saved (second (Up stable) (command.Journal 16)) ≡ [])
    × (replying_saved (second (Up committed) (command.Journal 16)) ≡ [])
    × (replying_saved (second (Up (after committed (command.Migrate 9 ∷ []))) (command.Journal 16)) ≡ (3, 3, 1) ∷ [])
    × (replying_saved (second (Up (at_world f0)) (command.Journal 5)) ≡ [])

-- a machine that is down answers `down`, and reopens at one of its saved states
abbrev pub OpensAgain : Type 0
OpensAgain = (a b : Saved) →
    Proceeds small (Down (a ∷ b ∷ [])) (command.Show 5) (answer.Refused refusal.Down) (Down (a ∷ b ∷ []))
    × Proceeds small (Down (a ∷ b ∷ [])) command.Cut (answer.At b.generation b.world.age) (Up (opened small b))
    × Proceeds small (Down (a ∷ b ∷ [])) command.Restart (answer.At a.generation a.world.age) (Up (opened small a))

-- `no memory` may replace the answer to `show`, `restart` and `cut`, after which a machine to be opened is down; it
-- never replaces `bad number`, `no process` or `down`, nor an answer to `evict` or `journal`
abbrev pub WantsMemory : Type 0
WantsMemory =
    let none : Answer = answer.Refused refusal.NoMemory in
    let s : Machine = at_world i0 in
    Step small (Up s) (command.Show 5) none (Up s)
    × Step small (Up s) command.Cut none (Down (s.saved ∷ []))
    × ((m : UpOrDown) → Step small (Up s) (command.Show 24) none m → ⊥)
    × ((m : UpOrDown) → Step small (Up s) (command.Load 5 0) none m → ⊥)
    × ((m : UpOrDown) → Step small (Up s) (command.Evict 5) none m → ⊥)
    × ((m : UpOrDown) → Step small (Up s) (command.Journal 16) none m → ⊥)
    × ((m : UpOrDown) → Step small (Down (s.saved ∷ [])) (command.Show 5) none m → ⊥)

-- World I0 without process 3: registers 3 and 4 of process 1 are void
abbrev pub RescindsProcess : Type 0
RescindsProcess =
    (owner_at (rescind (3 ∷ 4 ∷ []) i0.objects) 3 ≡ 0)
    × (rescind (3 ∷ 4 ∷ []) i0.objects ≡
    prime_bank ∷ fresh_root Running 2
    ∷ of_prime_bank (content.Annex (slice_set (slice_set (all_slots Void) 1 (Process 1)) 2 (Bank 0)))
    ∷ replicate 21 free)

-- the chain of a bank ends with the prime bank
abbrev pub ChainsBanks : Type 0
ChainsBanks = (chain b0.objects 6 ≡ 6 ∷ 5 ∷ 0 ∷ []) × (chain b0.objects 0 ≡ 0 ∷ [])

-- an object of bank 5 that is a node with these slots
abbrev pub slots_of_bank_5 : List Capability → List Object
slots_of_bank_5 slots = record { owner = 5; content = content.Node slots } ∷ []

-- only the consumed or rescinded capabilities become void, and each object keeps its owner
abbrev pub RevokesOnly : Type 0
RevokesOnly =
    (consume 1 (slots_of_bank_5 (Resume 1 ∷ Resume 3 ∷ Start 1 7 ∷ Process 1 ∷ []))
    ≡ slots_of_bank_5 (Void ∷ Resume 3 ∷ Start 1 7 ∷ Process 1 ∷ []))
    × (rescind (3 ∷ [])
    (slots_of_bank_5 (Resume 1 ∷ Resume 3 ∷ Start 3 7 ∷ Number 3 ∷ Page 3 full ∷ Node 16 weak ∷ Space 3 2 full ∷ Bank 3
    ∷
    Process 3 ∷ Discrim ∷ []))
    ≡ slots_of_bank_5 (Resume 1 ∷ Void ∷ Void ∷ Number 3 ∷ Void ∷ Node 16 weak ∷ Void ∷ Void ∷ Void ∷ Discrim ∷ []))
