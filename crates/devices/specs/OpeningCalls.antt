-- The calls that open or make a device in a file.
use Rattle.devices.specs.Names.{ℕ, List, [], length, take, drop, replicate, Option, option_map, ⊤, concat, Disk, Agrees}
use Rattle.devices.specs.Names.{image_of, IfSome}
use Rattle.std.specs.Prelude.{◌≡◌, ◌≢◌, ◌+◌, ◌*◌, ◌/◌, ◌<◌, ◌∷◌, ◌++◌, if◌then◌else◌, nat_lt}
use Rattle.devices.specs.declared.fault.FileFault.{FileFault}
use Rattle.devices.specs.declared.fault.FileFault.TheVariants as fault
use Rattle.devices.specs.declared.new_file.Unmade.{Unmade}
use Rattle.devices.specs.declared.new_file.Unmade.TheVariants as unmade
use Rattle.devices.specs.declared.openable.Access.{Access}
use Rattle.devices.specs.declared.openable.Access.TheVariants.{New}
use Rattle.devices.specs.declared.openable.Lock.{Lock}
use Rattle.devices.specs.declared.openable.Lock.TheVariants.{Exclusive}
use Rattle.devices.specs.declared.openable.LockAnswer.{LockAnswer}
use Rattle.devices.specs.declared.openable.LockAnswer.TheVariants.{Held}
use Rattle.devices.specs.RawCalls.{Adds}

-- a successful call, with its answer
pub data OpeningCall : Type 0 where
  opened : List ℕ → Access → OpeningCall  -- open the file at this path
  locked : Lock → LockAnswer → OpeningCall  -- ask for a lock
  synced : OpeningCall  -- make the file durable
  measured : ℕ → OpeningCall  -- ask for the number of bytes in the file
  got : ℕ → List ℕ → OpeningCall  -- read these bytes, from a byte on
  resized : ℕ → OpeningCall  -- cut the file to this number of bytes, or add zeros up to it
  listed : List ℕ → OpeningCall  -- make the folder of this path durable

-- how many of these calls set the length of the file
abbrev pub resizes : List OpeningCall → ℕ
resizes [] = 0
resizes (opened path access ∷ calls) = resizes calls
resizes (locked lock answer ∷ calls) = resizes calls
resizes (synced ∷ calls) = resizes calls
resizes (measured n ∷ calls) = resizes calls
resizes (got at piece ∷ calls) = resizes calls
resizes (resized n ∷ calls) = resizes calls + 1
resizes (listed path ∷ calls) = resizes calls

-- no call set the length of the file
abbrev pub KeepsLength : Option (List OpeningCall) → Option (List OpeningCall) → Type 0
KeepsLength old new = option_map resizes new ≡ option_map resizes old

-- the calls that read these pieces, one after the other, from a byte on
abbrev pub reads : ℕ → List (List ℕ) → List OpeningCall
reads byte [] = []
reads byte (piece ∷ pieces) = got byte piece ∷ reads (byte + length piece) pieces

-- successive reads from a byte on gave these bytes
abbrev pub GetsFrom : ℕ → Option (List OpeningCall) → Option (List OpeningCall) → List ℕ → Type 0
GetsFrom byte old new bytes = (pieces : List (List ℕ)) × (concat pieces ≡ bytes) × Adds old new (reads byte pieces)

-- successive reads from byte 0 on gave these bytes
abbrev pub Gets : Option (List OpeningCall) → Option (List OpeningCall) → List ℕ → Type 0
Gets old new bytes = GetsFrom 0 old new bytes

-- how many sectors a device has in a file of n bytes: its whole ones, but at most 131072
abbrev pub sectors_in : ℕ → ℕ
sectors_in n = if nat_lt 131072 (n / 512) then 131072 else n / 512

-- the file was measured, and reads gave the sectors of the device
abbrev pub Loads : Option (List OpeningCall) → Option (List OpeningCall) → List ℕ → Type 0
Loads old new copy =
    (n : ℕ) × (pieces : List (List ℕ)) × (concat pieces ≡ copy) × (length copy ≡ 512 * sectors_in n)
    × Adds old new (measured n ∷ reads 0 pieces)

-- a lock was requested, and no other open file excludes it (or the system has no locks)
abbrev pub TakesLock : Lock → Option (List OpeningCall) → Option (List OpeningCall) → Type 0
TakesLock lock old new = (answer : LockAnswer) × (answer ≢ Held) × Adds old new (locked lock answer ∷ [])

-- the file was locked, synced, measured and read
abbrev pub LoadsLocked : Lock → Option (List OpeningCall) → Option (List OpeningCall) → List ℕ → Type 0
LoadsLocked lock old new copy =
    (answer : LockAnswer) × (n : ℕ) × (pieces : List (List ℕ)) × (answer ≢ Held) × (concat pieces ≡ copy)
    × (length copy ≡ 512 * sectors_in n)
    × Adds old new (locked lock answer ∷ synced ∷ measured n ∷ reads 0 pieces)

-- the file was locked, emptied, extended to this number of bytes and synced, and then its folder was synced
abbrev pub MakesZeros : List ℕ → ℕ → Option (List OpeningCall) → Option (List OpeningCall) → Type 0
MakesZeros path bytes old new =
    (answer : LockAnswer) × (answer ≢ Held)
    × Adds old new (locked Exclusive answer ∷ resized 0 ∷ resized bytes ∷ synced ∷ listed path ∷ [])

-- Exactly these calls opened a device. Its sectors are those that were read.
pub record IsOpened (path : List ℕ) (access : Access) (lock : Lock) (calls : List OpeningCall) (disk : Disk)
    : Type 0 where
  pub answer : LockAnswer
  pub bytes : ℕ
  pub pieces : List (List ℕ)
  pub made : calls ≡ opened path access ∷ locked lock answer ∷ synced ∷ measured bytes ∷ reads 0 pieces
  pub free : answer ≢ Held
  pub size : disk.sectors ≡ sectors_in bytes
  pub whole : length (concat pieces) ≡ 512 * sectors_in bytes
  pub seen : Agrees disk.seen (image_of (concat pieces))

-- Exactly these calls made the file of a device of `sectors` sectors.
pub record IsMade (path : List ℕ) (access : Access) (sectors : ℕ) (calls : List OpeningCall) : Type 0 where
  pub answer : LockAnswer
  pub made : calls ≡ opened path access ∷ locked Exclusive answer
      ∷ resized 0 ∷ resized (512 * sectors) ∷ synced ∷ listed path ∷ []
  pub free : answer ≢ Held

-- the calls made are a proper prefix of this list
abbrev pub StopsWithin : List OpeningCall → Option (List OpeningCall) → Option (List OpeningCall) → Type 0
StopsWithin calls old new =
    (front : List OpeningCall) × (left : List OpeningCall) × (calls ≡ front ++ left) × (left ≢ []) × Adds old new front

-- the calls of `MakesZeros` up to one that failed
abbrev pub FailsToMake : List ℕ → ℕ → Option (List OpeningCall) → Option (List OpeningCall) → Type 0
FailsToMake path bytes old new =
    (answer : LockAnswer) × (answer ≢ Held) ×
    StopsWithin (locked Exclusive answer ∷ resized 0 ∷ resized bytes ∷ synced ∷ listed path ∷ []) old new

-- A file was made at a path, but isn't a device of `sectors` sectors. Either another device is open in it, and it
-- wasn't changed; or one of the calls that make the device failed.
abbrev pub IsUnfinished : List ℕ → ℕ → FileFault → List OpeningCall → Type 0
IsUnfinished path sectors fault.Held calls = calls ≡ opened path New ∷ locked Exclusive Held ∷ []
IsUnfinished path sectors fault.Io calls =
    (left : List OpeningCall) × (left ≢ []) × IsMade path New sectors (calls ++ left)
IsUnfinished path sectors _ calls = ⊥

-- why no device was made in a new file
abbrev pub IsUnmade : {F : Type 0} → (F → Option (List OpeningCall)) → List ℕ → ℕ → Unmade F → Type 0
IsUnmade opening path sectors unmade.NoMemory = ⊤
IsUnmade opening path sectors (unmade.Refused error) = ⊤
IsUnmade opening path sectors (unmade.Unfinished file why) = IfSome (opening file) (IsUnfinished path sectors why)

-- the bytes of a file after a call
abbrev pub bytes_after : List ℕ → OpeningCall → List ℕ
bytes_after bytes (opened path access) = bytes
bytes_after bytes (locked lock answer) = bytes
bytes_after bytes synced = bytes
bytes_after bytes (measured n) = bytes
bytes_after bytes (got at piece) = bytes
bytes_after bytes (resized n) = take n (bytes ++ replicate n 0)
bytes_after bytes (listed path) = bytes

-- the call's answer is right for a file with these bytes
abbrev pub IsTrueOf : List ℕ → OpeningCall → Type 0
IsTrueOf bytes (opened path access) = ⊤
IsTrueOf bytes (locked lock answer) = ⊤
IsTrueOf bytes synced = ⊤
IsTrueOf bytes (measured n) = n ≡ length bytes
IsTrueOf bytes (got at piece) = piece ≡ take (length piece) (drop at bytes)
IsTrueOf bytes (resized n) = ⊤
IsTrueOf bytes (listed path) = ⊤

-- a file with the bytes `first` gives these answers, and has the bytes `now` after the last call
abbrev pub Answers : List ℕ → List OpeningCall → List ℕ → Type 0
Answers first [] now = now ≡ first
Answers first (call ∷ calls) now = IsTrueOf first call × Answers (bytes_after first call) calls now

-- if a file gives these answers, the device has the file's whole sectors, from the first on
abbrev pub Mirrors : List OpeningCall → Disk → Type 0
Mirrors calls disk =
    (first now : List ℕ) → Answers first calls now
    → (disk.sectors ≡ sectors_in (length now)) × ((i : ℕ) → i < disk.sectors → disk.seen i ≡ image_of now i)
