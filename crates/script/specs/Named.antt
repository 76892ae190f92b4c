-- The words of a capability's text, and how they are read from left to right.
use Rattle.script.specs.Names.{ℕ, nat_lt, nat_le, Option, None, Some, List, [], codes, decimal, bytes_eq, full, weak}
use Rattle.script.specs.Names.{Access, Capability}
use Rattle.std.specs.Prelude.{◌==◌, ◌&&◌, ◌^◌, if◌then◌else◌, ◌∷◌}
use Rattle.model.specs.declared.capability.Capability.TheVariants as capability
use Rattle.script.specs.Reading.{◌>>=◌, Words, number_at}
use Rattle.script.specs.declared.named.Kind.{Kind}
use Rattle.script.specs.declared.named.Kind.TheVariants.{Void, Number, Page, Node, Space, Process, Start, Resume, Bank}
use Rattle.script.specs.declared.named.Kind.TheVariants.{Discrim}

-- the first word of a capability
abbrev pub kind_name : Kind → List ℕ
kind_name Void = codes "void"
kind_name Number = codes "number"
kind_name Page = codes "page"
kind_name Node = codes "node"
kind_name Space = codes "space"
kind_name Process = codes "process"
kind_name Start = codes "start"
kind_name Resume = codes "resume"
kind_name Bank = codes "bank"
kind_name Discrim = codes "discrim"

-- the word for a restricted access; none for full access
abbrev pub access_words : Access → Words
access_words a = if a.0 == 0 then [] else if a.0 == 1 then codes "ro" ∷ [] else codes "weak" ∷ []

-- the words of a capability's text
unfoldable pub capability_words : Capability → Words
capability_words capability.Void = codes "void" ∷ []
capability_words (capability.Number n) = codes "number" ∷ decimal n ∷ []
capability_words (capability.Page o a) = codes "page" ∷ decimal o ∷ access_words a
capability_words (capability.Node o a) = codes "node" ∷ decimal o ∷ access_words a
capability_words (capability.Space o h a) = codes "space" ∷ decimal o ∷ decimal h ∷ access_words a
capability_words (capability.Process p) = codes "process" ∷ decimal p ∷ []
capability_words (capability.Start p key) = codes "start" ∷ decimal p ∷ decimal key ∷ []
capability_words (capability.Resume p) = codes "resume" ∷ decimal p ∷ []
capability_words (capability.Bank b) = codes "bank" ∷ decimal b ∷ []
capability_words capability.Discrim = codes "discrim" ∷ []

-- the access that a word names
unfoldable pub access_in : List ℕ → Option Access
access_in word = if bytes_eq word (codes "ro") then Some (record { 0 = 1 }) else if bytes_eq word (codes "weak") then
    Some weak else None

-- the access at the end of these words: full if no word is left
unfoldable pub access_at : Words → Option (Access × Words)
access_at [] = Some (full, [])
access_at (word ∷ words) = do
  a ← access_in word
  Some (a, words)

-- the height of a space, read from these words: 1 to 4
unfoldable pub height_at : Words → Option (ℕ × Words)
height_at words = do
  h ← number_at words
  if nat_le 1 h.0 && nat_le h.0 4 then Some h else None

-- the key of a start capability, read from these words: below 65536
unfoldable pub key_at : Words → Option (ℕ × Words)
key_at words = do
  key ← number_at words
  if nat_lt key.0 (2 ^ 16) then Some key else None

-- a capability with one number, read from these words
abbrev pub one_of : (ℕ → Capability) → Words → Option (Capability × Words)
one_of make words = do
  n ← number_at words
  Some (make n.0, n.1)

-- a capability with an object and an access, read from these words
abbrev pub object_of : (ℕ → Access → Capability) → Words → Option (Capability × Words)
object_of make words = do
  object ← number_at words
  access ← access_at object.1
  Some (make object.0 access.0, access.1)

-- the capability of this kind, read from the words after its first, and the words left
unfoldable pub capability_at : Kind → Words → Option (Capability × Words)
capability_at Void words = Some (capability.Void, words)
capability_at Number words = one_of (λ n. capability.Number n) words
capability_at Page words = object_of (λ o a. capability.Page o a) words
capability_at Node words = object_of (λ o a. capability.Node o a) words
capability_at Space words = do
  object ← number_at words
  height ← height_at object.1
  access ← access_at height.1
  Some (capability.Space object.0 height.0 access.0, access.1)
capability_at Process words = one_of (λ p. capability.Process p) words
capability_at Start words = do
  process ← number_at words
  key ← key_at process.1
  Some (capability.Start process.0 key.0, key.1)
capability_at Resume words = one_of (λ p. capability.Resume p) words
capability_at Bank words = one_of (λ b. capability.Bank b) words
capability_at Discrim words = Some (capability.Discrim, words)
