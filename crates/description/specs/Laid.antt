-- Laying frames: the frames of objects are put over free ones, object by object.
use Rattle.description.specs.Names.{ℕ, List, [], map, replicate, slice_set, unwrap_or, vec_len, All, Cap, Void, Frame}
use Rattle.description.specs.Names.{Content, Available, frames_in, void_held, AreKeptWords, fresh_cap, length}
use Rattle.description.specs.Names.{AreKeepable, ObjectHeader, object_count}
use Rattle.std.specs.Prelude.{◌≡◌, ◌^◌, ◌<◌, ◌∷◌, ◌++◌}
use Rattle.description.specs.declared.entry.BankEntry.{BankEntry}
use Rattle.description.specs.declared.entry.Description.{Description}
use Rattle.description.specs.declared.entry.NodeEntry.{NodeEntry}
use Rattle.description.specs.declared.entry.PageEntry.{PageEntry}
use Rattle.description.specs.declared.entry.ProcessEntry.{ProcessEntry}
use Rattle.description.specs.declared.entry.SlotEntry.{SlotEntry}
use Rattle.description.specs.declared.entry.WordEntry.{WordEntry}
use Rattle.model.specs.declared.object.Content.TheVariants as content
use Rattle.description.specs.Described.{first_frame}
use Rattle.description.specs.declared.world.World.{World}
use Rattle.description.specs.Described.{HasFields, HasNumbers, IsDescribed}

-- an object of a description
pub data Entry : Type 0 where
  OfBank : BankEntry → Entry
  OfRoot : ProcessEntry → Entry
  OfAnnex : ProcessEntry → Entry
  OfNode : NodeEntry → Entry
  OfPage : PageEntry → Entry

-- all objects of a description
abbrev pub entries : Description → List Entry
entries d = map OfBank d.banks.items ++ map OfRoot d.processes.items ++ map OfAnnex d.processes.items ++ map OfNode
    d.nodes.items
    ++ map OfPage d.pages.items

-- the number of an object of a description
abbrev pub number_of : Entry → ℕ
number_of (OfBank b) = b.number
number_of (OfRoot p) = p.root
number_of (OfAnnex p) = p.annex
number_of (OfNode n) = n.number
number_of (OfPage p) = p.number

-- values written at their indexes, one after the other; `xs` are the old values
abbrev pub set_each : {E V : Type 0} → (E → ℕ) → (E → V) → List E → List V → List V
set_each index value [] xs = xs
set_each index value (e ∷ es) xs = set_each index value es (slice_set xs (index e) (value e))

-- the capability of a slot, with its count 0; void if its text names none
abbrev pub slot_held : SlotEntry → Cap
slot_held s = fresh_cap (unwrap_or s.capability Void)

-- 32 slots with the capabilities of these entries; the others are void
unfoldable pub slots_of : List SlotEntry → List Cap
slots_of slots = set_each (λ s. s.index) slot_held slots (replicate 32 void_held)

-- 512 words: those of these entries, and 0 for the others
unfoldable pub words_of : List WordEntry → List ℕ
words_of words = set_each (λ w. w.index) (λ w. w.word) words (replicate 512 0)

-- the root of a process
abbrev pub root_of : ProcessEntry → Content Cap
root_of p = content.Root (record {
  state = unwrap_or p.state Available;
  words = p.words;
  key = p.key;
  annex = p.annex;
  space = fresh_cap (unwrap_or p.space Void);
})

-- the frame of an object of a description
abbrev pub frame_of : Entry → Frame
frame_of (OfBank b) = first_frame b.owner (content.Bank b.limit)
frame_of (OfRoot p) = first_frame p.owner (root_of p)
frame_of (OfAnnex p) = first_frame p.owner (content.Annex (slots_of p.registers.items))
frame_of (OfNode n) = first_frame n.owner (content.Node (slots_of n.slots.items))
frame_of (OfPage p) = first_frame p.owner (content.Page (words_of p.words.items))

-- the numbers in an entry are below 2^64
abbrev pub Fits : Entry → Type 0
Fits (OfBank b) = (b.owner < 2 ^ 64) × (b.limit < 2 ^ 64)
Fits (OfRoot p) = (p.owner < 2 ^ 64) × AreKeptWords 4 p.words
Fits (OfAnnex p) = p.owner < 2 ^ 64
Fits (OfNode n) = n.owner < 2 ^ 64
Fits (OfPage p) = (p.owner < 2 ^ 64) × All (λ w. w < 2 ^ 64) (words_of p.words.items)

-- the frames of a world
abbrev pub frames_of : World → List Frame
frames_of w = frames_in w.headers.items w.contents.items

-- a world has `count` headers and contents
pub record HasCount (count : ℕ) (w : World) : Type 0 where
  pub headers : vec_len w.headers ≡ count
  pub contents : vec_len w.contents ≡ count

-- the frames `fs` with those of these entries put over them
unfoldable pub laid : List Entry → List Frame → List Frame
laid es fs = set_each number_of frame_of es fs

-- the frames of these entries were put over those of a world
pub record IsLaid (es : List Entry) (old new : World) : Type 0 where
  pub frames : frames_of new ≡ laid es (frames_of old)
  pub fits : All Fits es
  pub headers : vec_len new.headers ≡ vec_len old.headers
  pub contents : vec_len new.contents ≡ vec_len old.contents

-- the frame f was put at number n
pub record IsPut (n : ℕ) (f : Frame) (old new : World) : Type 0 where
  pub frames : frames_of new ≡ slice_set (frames_of old) n f
  pub headers : vec_len new.headers ≡ vec_len old.headers
  pub contents : vec_len new.contents ≡ vec_len old.contents

-- the headers and contents are those of the described frames, which have encodings
pub record AreLaid (d : Description) (headers : List ObjectHeader) (contents : List (Content Cap)) : Type 0 where
  pub numbers : HasNumbers d
  pub fields : HasFields d
  pub described : IsDescribed d (frames_in headers contents)
  pub keepable : AreKeepable d.geometry d.age (frames_in headers contents)
  pub header_each : length headers ≡ object_count d.geometry
  pub content_each : length contents ≡ object_count d.geometry
