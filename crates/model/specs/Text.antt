-- The lines of commands, and the text of answers.
use Rattle.model.specs.Names.{ℕ, Option, None, Some, List, [], map, length, codes, decimal, All, join_with_byte}
use Rattle.model.specs.Names.{flat_map, enumerate_from}
use Rattle.std.specs.Prelude.{◌≡◌, ◌≢◌, ◌⊎◌, ◌^◌, ◌<◌, ◌≤◌, ◌==◌, if◌then◌else◌, ◌∷◌, ◌++◌}
use Rattle.model.specs.declared.access.Access.{Access}
use Rattle.model.specs.declared.answer.Answer.{Answer}
use Rattle.model.specs.declared.answer.Answer.TheVariants as answer
use Rattle.model.specs.declared.answer.MemoryFault.{MemoryFault}
use Rattle.model.specs.declared.answer.MemoryFault.TheVariants as fault
use Rattle.model.specs.declared.answer.Refusal.{Refusal}
use Rattle.model.specs.declared.answer.Refusal.TheVariants as refusal
use Rattle.model.specs.declared.answer.Unjournaled.{Unjournaled}
use Rattle.model.specs.declared.answer.Unjournaled.TheVariants.{NotPage, Renewed}
use Rattle.model.specs.declared.capability.Capability.{Capability}
use Rattle.model.specs.declared.capability.Capability.TheVariants.{Void, Number, Page, Node, Space, Process, Start}
use Rattle.model.specs.declared.capability.Capability.TheVariants.{Resume, Bank, Discrim}
use Rattle.model.specs.declared.command.Command.{Command}
use Rattle.model.specs.declared.command.Command.TheVariants as command
use Rattle.model.specs.declared.command.Operation.{Operation}
use Rattle.model.specs.declared.command.Operation.TheVariants.{Call, Return, Send}
use Rattle.model.specs.declared.line.Line.{Line}
use Rattle.model.specs.declared.line.Line.TheVariants as line
use Rattle.model.specs.declared.object.Content.TheVariants as content
use Rattle.model.specs.declared.object.Object.{Object}
use Rattle.model.specs.declared.object.State.{State}
use Rattle.model.specs.declared.object.State.TheVariants.{Available, Running, Waiting}

-- words with one space between each two
abbrev pub spaced : List (List ℕ) → List ℕ
spaced pieces = join_with_byte 32 pieces

-- ---- script lines

abbrev pub operation_name : Operation → List ℕ
operation_name Call = codes "call"
operation_name Return = codes "return"
operation_name Send = codes "send"

-- the words of a command's line; numbers are decimal without leading zeros
unfoldable pub command_words : Command → List (List ℕ)
command_words (command.Invoke i) =
    (operation_name i.operation ∷ decimal i.process ∷ decimal i.register ∷ []) ++ map decimal i.words ++ map decimal
    i.sent
command_words (command.Load p address) = codes "load" ∷ decimal p ∷ decimal address ∷ []
command_words (command.Store p address value) = codes "store" ∷ decimal p ∷ decimal address ∷ decimal value ∷ []
command_words (command.Show n) = codes "show" ∷ decimal n ∷ []
command_words (command.Evict n) = codes "evict" ∷ decimal n ∷ []
command_words command.Checkpoint = codes "checkpoint" ∷ []
command_words (command.Stabilize n) = codes "stabilize" ∷ decimal n ∷ []
command_words command.Commit = codes "commit" ∷ []
command_words (command.Migrate n) = codes "migrate" ∷ decimal n ∷ []
command_words (command.Journal n) = codes "journal" ∷ decimal n ∷ []
command_words command.Restart = codes "restart" ∷ []
command_words command.Cut = codes "cut" ∷ []

-- the one line that spells a command
unfoldable pub spelling : Command → List ℕ
spelling c = spaced (command_words c)

-- a command that a line can spell: its numbers have 64 bits, its registers are those of a process
abbrev pub Fits : Command → Type 0
Fits (command.Invoke i) =
    (i.process < 2 ^ 64) × (i.register < 32)
    × (length i.words ≡ 4) × All (λ w. w < 2 ^ 64) i.words
    × (length i.sent ≡ 4) × All (λ r. r < 32) i.sent
Fits (command.Load p address) = (p < 2 ^ 64) × (address < 2 ^ 64)
Fits (command.Store p address value) = (p < 2 ^ 64) × (address < 2 ^ 64) × (value < 2 ^ 64)
Fits (command.Show n) = n < 2 ^ 64
Fits (command.Evict n) = n < 2 ^ 64
Fits (command.Stabilize n) = n < 2 ^ 64
Fits (command.Migrate n) = n < 2 ^ 64
Fits (command.Journal n) = n < 2 ^ 64
Fits _ = Unit {0}

-- a line that is empty or a comment
abbrev pub IsSkipped : List ℕ → Type 0
IsSkipped [] = Unit {0}
IsSkipped (b ∷ bs) = b ≡ 35

-- what a line says: nothing, a command, or neither, which is bad; a line of more than 256 bytes is always bad
abbrev pub Says : List ℕ → Line → Type 0
Says text line.Skip = (length text ≤ 256) × IsSkipped text
Says text (line.Command c) = Fits c × (text ≡ spelling c)
Says text line.Bad = (256 < length text) ⊎ ((IsSkipped text → ⊥) × ((c : Command) → Fits c → text ≢ spelling c))

-- ---- answers

-- a text as a line
abbrev pub line_of : List ℕ → List ℕ
line_of text = text ++ 10 ∷ []

abbrev pub access_text : Access → List ℕ
access_text a = if a.0 == 0 then [] else if a.0 == 1 then codes " ro" else codes " weak"

unfoldable pub capability_text : Capability → List ℕ
capability_text Void = codes "void"
capability_text (Number n) = spaced (codes "number" ∷ decimal n ∷ [])
capability_text (Page o a) = spaced (codes "page" ∷ decimal o ∷ []) ++ access_text a
capability_text (Node o a) = spaced (codes "node" ∷ decimal o ∷ []) ++ access_text a
capability_text (Space o h a) = spaced (codes "space" ∷ decimal o ∷ decimal h ∷ []) ++ access_text a
capability_text (Process p) = spaced (codes "process" ∷ decimal p ∷ [])
capability_text (Start p key) = spaced (codes "start" ∷ decimal p ∷ decimal key ∷ [])
capability_text (Resume p) = spaced (codes "resume" ∷ decimal p ∷ [])
capability_text (Bank b) = spaced (codes "bank" ∷ decimal b ∷ [])
capability_text Discrim = codes "discrim"

abbrev pub state_text : State → List ℕ
state_text Available = codes "available"
state_text Running = codes "running"
state_text Waiting = codes "waiting"

-- the lines of the words that aren't 0, in rising order
abbrev pub word_line : ℕ × ℕ → List ℕ
word_line p = if p.1 == 0 then [] else line_of (spaced (codes "word" ∷ decimal p.0 ∷ decimal p.1 ∷ []))

unfoldable pub word_lines : List ℕ → List ℕ
word_lines words = flat_map word_line (enumerate_from 0 words)

-- the lines of the capabilities that aren't void, in rising order
abbrev pub capability_line : List ℕ → ℕ × Capability → List ℕ
capability_line name p = elim p.1 [ Void ↦ [] | _ ↦ line_of (spaced (name ∷ decimal p.0 ∷ capability_text p.1 ∷ [])) ]

unfoldable pub capability_lines : List ℕ → List Capability → List ℕ
capability_lines name capabilities = flat_map (capability_line name) (enumerate_from 0 capabilities)

abbrev pub registers_of : Option (List Capability) → List Capability
registers_of None = []
registers_of (Some registers) = registers

-- how an object's first line begins: its kind, its number and its owner
abbrev pub headed : List ℕ → ℕ → ℕ → List (List ℕ)
headed name n owner = name ∷ decimal n ∷ codes "owner" ∷ decimal owner ∷ []

-- the lines of an object, without the last, `end`
unfoldable pub object_text : ℕ → Object → Option (List Capability) → ℕ → List ℕ
object_text n o registers used = elim o.content [
  | content.Free ↦ line_of (spaced (codes "free" ∷ decimal n ∷ []))
  | content.Page words ↦ line_of (spaced (headed (codes "page") n o.owner)) ++ word_lines words
  | content.Node slots ↦ line_of (spaced (headed (codes "node") n o.owner)) ++ capability_lines (codes "slot") slots
  | content.Root r ↦ line_of (spaced (headed (codes "process") n o.owner
      ++ (codes "annex" ∷ decimal r.annex ∷ state_text r.state ∷ codes "key" ∷ decimal r.key ∷ codes "words" ∷ [])
      ++ map decimal r.words ++ (codes "space" ∷ capability_text r.space ∷ [])))
      ++ capability_lines (codes "register") (registers_of registers)
  | content.Annex slots ↦ line_of (spaced (headed (codes "annex") n o.owner)) ++ capability_lines (codes "register")
      slots
  | content.Bank limit ↦ line_of (spaced (headed (codes "bank") n o.owner
      ++ (codes "limit" ∷ decimal limit ∷ codes "used" ∷ decimal used ∷ [])))
]

abbrev pub fault_number : MemoryFault → ℕ
fault_number fault.NoSpace = 1
fault_number fault.Beyond = 2
fault_number fault.Hole = 3
fault_number fault.Malformed = 4
fault_number fault.ReadOnly = 5

abbrev pub unjournaled_number : Unjournaled → ℕ
unjournaled_number NotPage = 1
unjournaled_number Renewed = 2

abbrev pub refusal_text : Refusal → List ℕ
refusal_text refusal.Down = codes "down"
refusal_text refusal.NoProcess = codes "no process"
refusal_text refusal.NotRunning = codes "not running"
refusal_text refusal.Worn = codes "worn"
refusal_text refusal.Stalled = codes "stalled"
refusal_text refusal.LogFull = codes "log full"
refusal_text refusal.CheckpointRunning = codes "checkpoint running"
refusal_text refusal.MigrationPending = codes "migration pending"
refusal_text (refusal.NotStable left) = codes "not stable " ++ decimal left
refusal_text refusal.NoCheckpoint = codes "no checkpoint"
refusal_text refusal.NoMemory = codes "no memory"
refusal_text refusal.Fault = codes "fault"
refusal_text refusal.BadNumber = codes "bad number"
refusal_text (refusal.NotJournaled why) = codes "not journaled " ++ decimal (unjournaled_number why)

-- the text of an answer
unfoldable pub printed : Answer → List ℕ
printed answer.Done = line_of (codes "done")
printed (answer.Value v) = line_of (spaced (codes "value" ∷ decimal v ∷ []))
printed (answer.MemoryFault f) = line_of (spaced (codes "memory" ∷ codes "fault" ∷ decimal (fault_number f) ∷ []))
printed (answer.Frozen n) = line_of (spaced (codes "frozen" ∷ decimal n ∷ []))
printed (answer.Left n) = line_of (spaced (codes "left" ∷ decimal n ∷ []))
printed (answer.Committed g) = line_of (spaced (codes "committed" ∷ decimal g ∷ []))
printed (answer.Journaled g) = line_of (spaced (codes "journaled" ∷ decimal g ∷ []))
printed (answer.At g age) = line_of (spaced (codes "at" ∷ decimal g ∷ decimal age ∷ []))
printed (answer.Shown d) = object_text d.number d.object d.registers d.used ++ line_of (codes "end")
printed (answer.Refused why) = line_of (refusal_text why)

-- the reply to a bad line
unfoldable pub bad_line : List ℕ
bad_line = line_of (codes "bad line")
