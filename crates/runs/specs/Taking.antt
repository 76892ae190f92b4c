-- A run of a script that hasn't ended.
use Rattle.runs.specs.Names.{ℕ, Bool, true, false, List, [], length, take, Option, Result, Ok, Err, Written, Wrote}
use Rattle.runs.specs.Names.{WroteFront, Consumes, IsAtEnd, Geometry, Line, Machine, Reply, Turn, Replies, lines_of}
use Rattle.runs.specs.Names.{reply_text, output_of, Says, Disk, LeavesOnly, Parts, View, Power, Stands, disk_of}
use Rattle.runs.specs.Names.{RunFault, LineBuffer, Holds}
use Rattle.std.specs.Prelude.{◌≡◌, ◌<◌, ◌≤◌}
use Rattle.script.specs.declared.fault.RunFault.TheVariants as fault
use Rattle.runs.specs.declared.script_pieces.Piece.{Piece}
use Rattle.runs.specs.declared.script_pieces.Piece.TheVariants as piece
use Rattle.runs.specs.KernelRuns.{AreLines, AreSeen, IsCutShort, IsLeftIn, IsRunOf, IsReportedBy, lines_in}

-- the result of a read: bytes, nothing yet, or the end
abbrev pub ReadsPiece : Option (List ℕ) → Option (List ℕ) → List ℕ → Result Piece RunFault → Type 0
ReadsPiece old new bytes (Ok (piece.Bytes n)) = (n ≤ length bytes) × Consumes old new (take n bytes)
ReadsPiece old new bytes (Ok piece.End) = Consumes old new [] × IsAtEnd new
ReadsPiece old new bytes (Ok piece.Nothing) = Consumes old new []
ReadsPiece old new bytes (Err e) = (e ≡ fault.Read) × Consumes old new []

-- each read that doesn't find the end leaves fewer reads
abbrev pub LeavesFewer : Result Piece RunFault → ℕ → ℕ → Type 0
LeavesFewer (Ok (piece.Bytes n)) old new = new < old
LeavesFewer (Ok piece.Nothing) old new = new < old
LeavesFewer (Ok piece.End) old new = Unit {0}
LeavesFewer (Err e) old new = Unit {0}

-- the answer was written, and the result says whether the observer lets the run go on; or the writer failed
abbrev pub IsWritten : Written → Written → Result Bool RunFault → Bool → List ℕ → Type 0
IsWritten written wrote (Ok goes_on) on text = (goes_on ≡ on) × Wrote written wrote text
IsWritten written wrote (Err e) on text = (e ≡ fault.Write) × WroteFront written wrote text

-- The parameters: the ghost members of a device, of an object store and of an observer.
module _ {D S O : Type 0} (disk : D → Disk) (view : S → View D) (parts : S → Parts)
    (sees : Geometry → Turn → O → O → Bool → Type 0) where
  -- a line was carried out: its reply, the machine after it, what a crash during it leaves, and what the observer saw
  pub record TakesTurn (g : Geometry) (m : Machine) (text : List ℕ) (says : Line) (old new : Power D S)
      (before seen : O) (written wrote : Written) (result : Result Bool RunFault) : Type 0 where
    pub reply : Reply
    pub after : Machine
    pub replies : Replies g says m reply after
    pub stands : Stands disk view parts g new after
    pub size : (disk_of disk view parts new).sectors ≡ (disk_of disk view parts old).sectors
    pub any_moment : LeavesOnly (disk_of disk view parts old) (disk_of disk view parts new)
        (IsLeftIn g (disk_of disk view parts old).sectors
        (record { line = text; before = m; reply = reply; after = after }))
    pub faults : IsReportedBy (disk_of disk view parts old) (disk_of disk view parts new) reply
    pub on : Bool
    pub is_seen : sees g (record { line = text; before = m; reply = reply; after = after }) before seen on
    pub writes : IsWritten written wrote result on (reply_text reply)

  -- a line was carried out, whatever it says: its reply, the machine after it, what a crash leaves, and what the
  -- observer saw
  abbrev pub TakesLine : Geometry → Machine → List ℕ → Power D S → Power D S → O → O → Written → Written →
      Result Bool RunFault → Type 0
  TakesLine g m text old new before seen written wrote result = (says : Line) × Says text says × TakesTurn g m text says
      old new before seen written wrote result

  -- a run so far: its turns, the beginning of the next line, and the answers written
  pub record SoFar (g : Geometry) (m : Machine) (old new : Power D S) (before seen : O) (text : List ℕ)
      (line : LineBuffer) (output output_left : Written) : Type 0 where
    pub turns : List Turn
    pub rest : List ℕ
    pub run : IsRunOf disk view parts g m old new turns
    pub are_seen : AreSeen (sees g) before seen turns true
    pub lines : AreLines text (lines_in turns) rest
    pub held : Holds line rest
    pub written : Wrote output output_left (output_of turns)

  -- a run with all lines of a text
  pub record Ended (g : Geometry) (m : Machine) (old new : Power D S) (before seen : O) (text : List ℕ)
      (output output_left : Written) : Type 0 where
    pub turns : List Turn
    pub run : IsRunOf disk view parts g m old new turns
    pub are_seen : AreSeen (sees g) before seen turns true
    pub lines : lines_of text ≡ lines_in turns
    pub written : Wrote output output_left (output_of turns)

  -- why the run ended: the last answer was cut short, or the observer ended it
  abbrev pub StopsBy : RunFault → List Turn → Bool → Written → Written → Type 0
  StopsBy fault.Read turns on output output_left = ⊥
  StopsBy fault.Write turns on output output_left = IsCutShort turns output output_left
  StopsBy fault.Stopped turns on output output_left = (on ≡ false) × Wrote output output_left (output_of turns)

  -- a run that ended early, with lines for which `AreTaken` holds
  pub record Stopped (AreTaken : List (List ℕ) → Type 0) (e : RunFault) (g : Geometry) (m : Machine)
      (old new : Power D S) (before seen : O) (output output_left : Written) : Type 0 where
    pub turns : List Turn
    pub run : IsRunOf disk view parts g m old new turns
    pub on : Bool
    pub are_seen : AreSeen (sees g) before seen turns on
    pub lines : AreTaken (lines_in turns)
    pub stops : StopsBy e turns on output output_left
