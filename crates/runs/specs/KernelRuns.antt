-- Runs of a script over a kernel.
use Rattle.runs.specs.Names.{ℕ, Bool, true, false, List, [], map, Option, Result, Ok, Err, All, flat_map, Appends}
use Rattle.runs.specs.Names.{Contains, Written, Wrote, Consumes, IsAtEnd, Command, Geometry, Line, IsClosed, Machine}
use Rattle.runs.specs.Names.{Running, Saved, Up, candidates, Reply, Reported, Turn, IsRun, lines_of, reply_text}
use Rattle.runs.specs.Names.{output_of, second, Says, line_of, object_at, Image, Disk, LeavesOnly, IsKept, IsLineBy}
use Rattle.runs.specs.Names.{with_free, Parts, View, Power, Denotes, Stands, disk_of, RunFault, IsOneLine}
use Rattle.std.specs.Prelude.{◌≡◌, ◌⊎◌, ◌↔◌, ◌<◌, ◌≤◌, ◌∷◌, ◌++◌}
use Rattle.model.specs.declared.answer.Answer.TheVariants as answer
use Rattle.model.specs.declared.answer.Refusal.TheVariants as refusal
use Rattle.model.specs.declared.line.Line.TheVariants as line
use Rattle.script.specs.declared.fault.RunFault.TheVariants as fault

-- s may be saved if a crash comes in the turn: it is a candidate of the machine before it, or the state that its
-- command saves
abbrev pub MaySaveIn : Turn → Saved → Type 0
MaySaveIn t s = Contains (candidates t.before) s ⊎
    ((c : Command) × Says t.line (line.Command c) × Contains (second t.before c) s)

-- the image denotes a state that may be saved in the turn
abbrev pub IsLeftIn : Geometry → ℕ → Turn → Image → Type 0
IsLeftIn g size t c = (s : Saved) × MaySaveIn t s × Denotes g size c s

-- the lines of the turns
abbrev pub lines_in : List Turn → List (List ℕ)
lines_in turns = map (λ t. t.line) turns

-- the text is these lines, each with its newline, and then a rest without one
pub record AreLines (text : List ℕ) (lines : List (List ℕ)) (rest : List ℕ) : Type 0 where
  pub whole : text ≡ flat_map line_of lines ++ rest
  pub each : All IsOneLine lines
  pub none : IsOneLine rest

-- the text begins with these lines, each with its newline
abbrev pub BeginsWith : List ℕ → List (List ℕ) → Type 0
BeginsWith text lines = (more : List ℕ) × (text ≡ flat_map line_of lines ++ more) × All IsOneLine lines

-- these are the first whole lines of the text; at the end of the input, all its lines
abbrev pub AreFirst : List ℕ → Option (List ℕ) → List (List ℕ) → Type 0
AreFirst text input_left lines = BeginsWith text lines ⊎ (IsAtEnd input_left × (lines_of text ≡ lines))

-- these are all whole lines of the text; at the end of the input, all its lines
abbrev pub AreAll : List ℕ → Option (List ℕ) → List (List ℕ) → Type 0
AreAll text input_left lines = ((rest : List ℕ) × AreLines text lines rest) ⊎
    (IsAtEnd input_left × (lines_of text ≡ lines))

-- all answers were written whole, except perhaps the last
pub record IsCutShort (turns : List Turn) (output output_left : Written) : Type 0 where
  pub front : List Turn
  pub last : Turn
  pub turns_are : turns ≡ front ++ last ∷ []
  pub reported : List ℕ
  pub cut : List ℕ
  pub answer : reply_text last.reply ≡ reported ++ cut
  pub written : Appends output.contents output_left.contents (output_of front ++ reported)
  pub failed : output.failures < output_left.failures

-- What a run with these turns read and wrote.
-- - Ok: all of the input was read, and each of its lines is a turn whose answer was written.
-- - The reader failed: the same holds of the lines that were read whole.
-- - The writer failed: the turns are the first of the lines that were read whole, or of all lines if the input
--   ended. Only the last answer may be cut short. Or the writer accepted the answers to all of these lines, and
--   didn't pass them on.
-- - The observer ended the run: the turns are the first of the lines that were read whole, or of all lines if the
--   input ended. Each was answered.
abbrev pub Does : List Turn → Option (List ℕ) → Option (List ℕ) → Written → Written → Result (Unit {0}) RunFault →
    Type 0
Does turns input input_left output output_left (Ok a) =
    (text : List ℕ) × Consumes input input_left text × IsAtEnd input_left × (lines_of text ≡ lines_in turns) × Wrote
    output output_left (output_of turns)
Does turns input input_left output output_left (Err fault.Read) =
    (text : List ℕ) × (rest : List ℕ) × Consumes input input_left text × AreLines text (lines_in turns) rest × Wrote
    output output_left (output_of turns)
Does turns input input_left output output_left (Err fault.Write) =
    (text : List ℕ) × Consumes input input_left text
    × ((AreFirst text input_left (lines_in turns) × IsCutShort turns output output_left) ⊎
    (AreAll text input_left (lines_in turns) × Appends output.contents output_left.contents (output_of turns)
    × (output.failures < output_left.failures)))
Does turns input input_left output output_left (Err fault.Stopped) =
    (text : List ℕ) × Consumes input input_left text × AreFirst text input_left (lines_in turns) × Wrote output
    output_left (output_of turns)

-- a count of failures never falls, and rises exactly if `Failed` holds
pub record IsCounted (Failed : Type 0) (old new : ℕ) : Type 0 where
  pub never_falls : old ≤ new
  pub cause : Failed ↔ (old < new)

-- the device failed exactly if the reply is `Fault`
abbrev pub IsReportedBy : Disk → Disk → Reply → Type 0
IsReportedBy old new reply = IsCounted (reply ≡ Reported (answer.Refused refusal.Fault)) old.failures new.failures

-- An observer saw these turns one after another, and let the run go on after each but the last. The flag says whether
-- the run went on after the last turn too.
abbrev pub AreSeen : {O : Type 0} → (Turn → O → O → Bool → Type 0) → O → O → List Turn → Bool → Type 0
AreSeen sees old new [] on = (new ≡ old) × (on ≡ true)
AreSeen sees old new (t ∷ ts) on = ((next : _) × sees t old next true × AreSeen sees next new ts on) ⊎
    ((ts ≡ []) × (on ≡ false) × sees t old new false)

-- the observer ended the run exactly if the result is `Stopped`; if the writer failed, the observer
-- may have ended it too
abbrev pub EndsBy : Bool → Result (Unit {0}) RunFault → Type 0
EndsBy on (Ok a) = on ≡ true
EndsBy on (Err fault.Read) = on ≡ true
EndsBy on (Err fault.Write) = Unit {0}
EndsBy on (Err fault.Stopped) = on ≡ false

-- each line has an invocation, load or store by a process of the set, or no command
abbrev pub AreLinesBy : (ℕ → Bool) → List (List ℕ) → Type 0
AreLinesBy inside lines = All (λ line. (l : Line) → Says line l → IsLineBy inside l) lines

-- The parameters: the ghost members of a device and of an object store.
module _ {D S : Type 0} (disk : D → Disk) (view : S → View D) (parts : S → Parts) where
  -- A turn of a kernel: the new kernel stands for the machine after it. A crash at any moment of the turn leaves an
  -- image that denotes a state that may be saved in it.
  pub record IsTurnOf (g : Geometry) (old new : Power D S) (t : Turn) : Type 0 where
    pub stands : Stands disk view parts g new t.after
    pub size : (disk_of disk view parts new).sectors ≡ (disk_of disk view parts old).sectors
    pub any_moment : LeavesOnly (disk_of disk view parts old) (disk_of disk view parts new)
        (IsLeftIn g (disk_of disk view parts old).sectors t)
    pub faults : IsReportedBy (disk_of disk view parts old) (disk_of disk view parts new) t.reply

  -- the kernel goes through these turns, one after another, and nothing else happens
  abbrev pub AreTurnsOf : Geometry → Power D S → Power D S → List Turn → Type 0
  AreTurnsOf g old new [] = new ≡ old
  AreTurnsOf g old new (t ∷ ts) = (next : Power D S) × IsTurnOf g old next t × AreTurnsOf g next new ts

  -- a kernel that stands for m goes through these turns, and they are a run of m
  pub record IsRunOf (g : Geometry) (m : Machine) (old new : Power D S) (turns : List Turn) : Type 0 where
    pub after : Machine
    pub run : IsRun g m turns after
    pub stands : Stands disk view parts g new after
    pub each : AreTurnsOf g old new turns

  -- for each machine that the kernel stands for, there is a run of it that read and wrote this
  abbrev pub RunsOver : Power D S → Power D S → Option (List ℕ) → Option (List ℕ) → Written → Written →
      Result (Unit {0}) RunFault → Type 0
  RunsOver old new input input_left output output_left result =
      (g : Geometry) (m : Machine) → Stands disk view parts g old m →
      (turns : List Turn) × IsRunOf g m old new turns × Does turns input input_left output output_left result

  -- for each machine that the kernel stands for, there is a run of it that read and wrote this, and an observer saw
  -- its turns
  abbrev pub RunsSeen : {O : Type 0} → (Geometry → Turn → O → O → Bool → Type 0) → Power D S → Power D S → O → O
      → Option (List ℕ) → Option (List ℕ) → Written → Written → Result (Unit {0}) RunFault → Type 0
  RunsSeen sees old new before after input input_left output output_left result =
      (g : Geometry) (m : Machine) → Stands disk view parts g old m →
      (turns : List Turn) × IsRunOf g m old new turns × Does turns input input_left output output_left result
      × (on : Bool) × AreSeen (sees g) before after turns on × EndsBy on result

  -- The authority bound. Take a kernel that is up before and after. Let every line that was read be by a process
  -- of a closed set, or by one that these made from free numbers. Then each object outside the set that wasn't
  -- free is kept.
  abbrev pub IsConfined : Power D S → Power D S → Option (List ℕ) → Option (List ℕ) → Type 0
  IsConfined old new input input_left = (g : Geometry) (s t : Running) → Stands disk view parts g old (Up s) →
      Stands disk view parts g new (Up t) →
      (text : List ℕ) × Consumes input input_left text × ((inside : ℕ → Bool) → IsClosed s.now.objects inside →
      AreLinesBy (with_free s.now.objects inside) (lines_of text) → (n : ℕ) → with_free s.now.objects inside n ≡ false →
      IsKept inside (object_at s.now.objects n) (object_at t.now.objects n))
