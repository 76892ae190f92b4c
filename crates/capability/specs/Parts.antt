-- The parts of a store of present frames, and what calls change in them.
use Rattle.capability.specs.Names.{ℕ, Bool, false, List, length, replicate, slice_index_or, slice_set, take, Result}
use Rattle.capability.specs.Names.{IfErr, OnOk, OnErr, IsErrOf, Cap, Frame, ObjectHeader, Geometry, Content, Available}
use Rattle.capability.specs.Names.{Object, frame_at, frames_in, header_at, held_at, given_up, objects_of, AreCurrent}
use Rattle.capability.specs.Names.{AreKeepable, IsSoundFrames, touching, touched_count, all_slots, role_of, zero_words}
use Rattle.capability.specs.Names.{is_given_up, is_member, Failed, IsErr, Refusal}
use Rattle.std.specs.Prelude.{◌≡◌, ◌↔◌, ◌+◌, ◌-◌, ◌<◌, ◌≤◌, ◌^◌, if◌then◌else◌}
use Rattle.model.specs.declared.answer.Refusal.TheVariants as refusal
use Rattle.model.specs.declared.object.Content.TheVariants as content
use Rattle.capability.specs.declared.present.Fresh.{Fresh}
use Rattle.capability.specs.declared.present.Fresh.TheVariants as fresh

-- The parts of a store of present frames: a header and a content for each number, the numbers written since the last
-- checkpoint or restart, and how often the device failed.
pub record Parts : Type 0 where
  pub geometry : Geometry
  pub headers : List ObjectHeader
  pub contents : List (Content Cap)
  pub touched : List Bool
  pub failures : ℕ

-- the frames of these parts
abbrev pub frames_of : Parts → List Frame
frames_of p = frames_in p.headers p.contents

-- the objects of these frames
abbrev pub objects_in : Parts → List Object
objects_in p = objects_of (frames_of p)

-- the frames are sound at some age
abbrev pub AreSound : Parts → Type 0
AreSound p = (age : ℕ) × IsSoundFrames p.geometry age (frames_of p)

-- bodies may be fetched: the store is usable, and its frames may be kept
pub record MayFetch {S : Type 0} (Usable : S → Type 0) (parts : S → Parts) (s : S) : Type 0 where
  pub usable : Usable s
  pub keepable : AreKeepable (parts s).geometry (2 ^ 64 - 1) (frames_of (parts s))

-- the parts with this header, this content, or both, at number n
abbrev pub with_header : Parts → ℕ → ObjectHeader → Parts
with_header p n h = record p { headers = slice_set p.headers n h }

abbrev pub with_held : Parts → ℕ → Content Cap → Parts
with_held p n c = record p { contents = slice_set p.contents n c }

abbrev pub with_both : Parts → ℕ → ObjectHeader → Content Cap → Parts
with_both p n h c = record p { headers = slice_set p.headers n h; contents = slice_set p.contents n c }

-- the content of a new object: words of 0 and void slots
abbrev pub fresh_content : {C : Type 0} → C → Fresh → Content C
fresh_content void fresh.Page = content.Page zero_words
fresh_content void fresh.Node = content.Node (all_slots void)
fresh_content void (fresh.Root annex) = content.Root
    (record { state = Available; words = replicate 4 0; key = 0; annex = annex; space = void })
fresh_content void fresh.Annex = content.Annex (all_slots void)
fresh_content void (fresh.Bank limit) = content.Bank limit

-- n is a number for this kind of object
abbrev pub IsFreshAt : Geometry → ℕ → Fresh → Type 0
IsFreshAt g n fresh.Page = g.nodes ≤ n
IsFreshAt g n fresh.Node = n < g.nodes
IsFreshAt g n (fresh.Root annex) = n < g.nodes
IsFreshAt g n fresh.Annex = n < g.nodes
IsFreshAt g n (fresh.Bank limit) = n < g.nodes

-- the annex or limit of a new object has 64 bits
abbrev pub FreshFits : Fresh → Type 0
FreshFits (fresh.Root annex) = annex < 2 ^ 64
FreshFits (fresh.Bank limit) = limit < 2 ^ 64
FreshFits _ = Unit {0}

-- each header has the role of its object's content
abbrev pub HaveTheirRoles : List Frame → Type 0
HaveTheirRoles fs = (n : ℕ) → (frame_at fs n).header.role ≡ role_of (frame_at fs n).content

-- A change of present frames. `after` has the parts afterwards. All that was fetched or announced stays so. The
-- parameters are the ghost members of a store of present frames.
pub record Becomes {S : Type 0} (parts : S → Parts) (Fetched Announced : S → ℕ → Type 0) (Continues : S → S → Type 0)
    (old new : S) (after : Parts) : Type 0 where
  pub parts_are : parts new ≡ after
  pub fetched : (n : ℕ) → Fetched old n → Fetched new n
  pub announced : (n : ℕ) → Announced old n → Announced new n
  pub continues : Continues old new

-- A change of present frames that frees no object. Allocation counts, touched numbers, geometry and failures stay, and
-- all that was fetched or announced stays so. The parameters are the ghost members of a store of present frames.
pub record KeepsRest {S : Type 0} (parts : S → Parts) (Fetched Announced : S → ℕ → Type 0) (Continues : S → S → Type 0)
    (old new : S) : Type 0 where
  pub count : length (parts new).headers ≡ length (parts old).headers
  pub allocations : (n : ℕ) → (header_at (parts new).headers n).allocations ≡
      (header_at (parts old).headers n).allocations
  pub touched : (parts new).touched ≡ (parts old).touched
  pub geometry : (parts new).geometry ≡ (parts old).geometry
  pub failures : (parts new).failures ≡ (parts old).failures
  pub fetched : (n : ℕ) → Fetched old n → Fetched new n
  pub announced : (n : ℕ) → Announced old n → Announced new n
  pub continues : Continues old new

-- An edit of contents. `after` has the objects afterwards; the frames may still be kept at each age for which `may`
-- holds. The parameters are the ghost members of a store of present frames.
pub record Edits {S : Type 0} (parts : S → Parts) (Fetched Announced : S → ℕ → Type 0) (Continues : S → S → Type 0)
    (old new : S) (after : List Object) (may : ℕ → Type 0) : Type 0 where
  pub objects : objects_in (parts new) ≡ after
  pub headers : (parts new).headers ≡ (parts old).headers
  pub current : AreCurrent (frames_of (parts old)) → AreCurrent (frames_of (parts new))
  pub keepable : (age : ℕ) → may age → AreKeepable (parts old).geometry age (frames_of (parts old)) →
      AreKeepable (parts old).geometry age (frames_of (parts new))
  pub snapshots : KeepsRest parts Fetched Announced Continues old new

-- the parts are the same, unless the device failed
abbrev pub AreSameUnlessFailed : Parts → Parts → Type 0
AreSameUnlessFailed old new = new.failures ≡ old.failures → new ≡ old

-- Bodies may have been fetched, and nothing else changed. After a failure of the device only the touched numbers are
-- known to be the same. The parameters are the ghost members of `Frames`.
pub record OnlyFetches {S : Type 0} (parts : S → Parts) (Continues : S → S → Type 0) (old new : S) : Type 0 where
  pub same : AreSameUnlessFailed (parts old) (parts new)
  pub touched : (parts new).touched ≡ (parts old).touched
  pub later : (parts old).failures ≤ (parts new).failures
  pub continues : Continues old new

-- Bodies may have been fetched, and nothing else changed. The call fails exactly if the device fails. The parameters
-- are the ghost members of `Frames`.
pub record FetchesOrFails {S T : Type 0} (parts : S → Parts) (Continues : S → S → Type 0) (old new : S)
    (result : Result T Failed) : Type 0 where
  pub same : OnOk result (parts new ≡ parts old)
  pub snapshots : OnlyFetches parts Continues old new
  pub cause : IsErr result ↔ ((parts old).failures < (parts new).failures)

-- why objects can't be read: memory ran out, or the device failed
abbrev pub IsUnread : Refusal → Type 0
IsUnread refusal.NoMemory = Unit {0}
IsUnread refusal.Fault = Unit {0}
IsUnread _ = ⊥

-- Bodies may have been fetched, and nothing else changed; the call may run out of memory or fail. The parameters are
-- the ghost members of `Frames`.
pub record OnlyReads {S T : Type 0} (parts : S → Parts) (Continues : S → S → Type 0) (old new : S)
    (result : Result T Refusal) : Type 0 where
  pub same : OnOk result (parts new ≡ parts old)
  pub snapshots : OnlyFetches parts Continues old new
  pub refusals : IfErr result IsUnread
  pub cause : IsErrOf result refusal.Fault ↔ ((parts old).failures < (parts new).failures)

-- why objects can't be prepared: the log is full, or the device failed
abbrev pub IsUnprepared : Refusal → Type 0
IsUnprepared refusal.LogFull = Unit {0}
IsUnprepared refusal.Fault = Unit {0}
IsUnprepared _ = ⊥

-- the parts, with the written numbers touched too
abbrev pub touched_too : List ℕ → Parts → Parts
touched_too written p = record p { touched = touching p.touched written }

-- Bodies were fetched and the written numbers announced. After a refusal nothing was announced; after a failure of the
-- device the parts are unknown. The parameters are the ghost members of a store of present frames.
pub record Prepares {S T : Type 0} (parts : S → Parts) (Continues : S → S → Type 0) (old new : S) (written : List ℕ)
    (result : Result T Refusal) : Type 0 where
  pub before : touched_count (parts old).touched ≤ (parts old).geometry.log
  pub done : OnOk result (parts new ≡ touched_too written (parts old))
  pub within : OnOk result (touched_count (touching (parts old).touched written) ≤ (parts old).geometry.log)
  pub same : OnErr result (AreSameUnlessFailed (parts old) (parts new))
  pub full : IsErrOf result refusal.LogFull →
      (parts old).geometry.log < touched_count (touching (parts old).touched written)
  pub refusals : IfErr result IsUnprepared
  pub cause : IsErrOf result refusal.Fault ↔ ((parts old).failures < (parts new).failures)
  pub later : (parts old).failures ≤ (parts new).failures
  pub continues : Continues old new

-- no number is listed twice
abbrev pub IsOnce : List ℕ → Type 0
IsOnce ns = (i : ℕ) → i < length ns → is_member (take i ns) (slice_index_or ns i 0) ≡ false

-- the members of a set are rescinded, and nothing else changes
pub record AreGivenUp (set : List ℕ) (old new : Parts) : Type 0 where
  pub geometry : new.geometry ≡ old.geometry
  pub touched : new.touched ≡ old.touched
  pub failures : new.failures ≡ old.failures
  pub header_count : length new.headers ≡ length old.headers
  pub content_count : length new.contents ≡ length old.contents
  pub headers : (n : ℕ) →
      header_at new.headers n ≡
      (if is_member set n then given_up (header_at old.headers n) else header_at old.headers n)
  pub contents : (n : ℕ) → held_at new.contents n ≡ (if is_member set n then content.Free else held_at old.contents n)

-- an allocation count rises by one if the object is rescinded, and else stays
pub record Renews (old new : Parts) : Type 0 where
  pub each : (n : ℕ) → (header_at new.headers n).allocations
      ≡ (header_at old.headers n).allocations + (if is_given_up (objects_in old) (objects_in new) n then 1 else 0)
