-- Frames as bytes.
use Rattle.layout.specs.Names.{ℕ, nat_lt, IsTrue, List, [], length, map, replicate, slice_index_or, flat_map, Cap}
use Rattle.layout.specs.Names.{Capability, Number, Frame, ObjectHeader, Geometry, Content, Role, Root, State, Available}
use Rattle.layout.specs.Names.{Running, Waiting, void_held, IsCount, AreKeptSlots, AreKeptWords, IsKeepable, role_of}
use Rattle.layout.specs.Names.{role_number, is_free, state_number, zero_words, IsSpace}
use Rattle.std.specs.Prelude.{◌≡◌, ◌⊎◌, ◌^◌, ◌<◌, ◌==◌, ◌%◌, if◌then◌else◌, ◌∷◌, ◌++◌}
use Rattle.model.specs.declared.object.Content.TheVariants as content
use Rattle.model.specs.declared.object.Role.TheVariants as role
use Rattle.layout.specs.declared.body.Body.{Body}
use Rattle.layout.specs.declared.body.Body.TheVariants as body
use Rattle.layout.specs.declared.body.Scratch.{Scratch}
use Rattle.layout.specs.Bytes.{number, zeros}
use Rattle.layout.specs.Capability.{capability_bytes}

-- ---- frames as bytes

-- the 32 bytes in front of a frame: its role, seven zeros, its counts and its owner
unfoldable pub front_bytes : ObjectHeader → List ℕ
front_bytes h = (role_number h.role ∷ zeros 7) ++ number h.allocations ++ number h.calls ++ number h.owner

-- a number as a capability
abbrev pub number_cap : ℕ → Cap
number_cap n = record { what = Number n; count = 0 }

-- the capabilities that a root begins with: annex, state, words, key and space
abbrev pub root_slots : Root Cap → List Cap
root_slots r = number_cap r.annex ∷ number_cap (state_number r.state) ∷ map number_cap r.words ++ number_cap r.key ∷
    r.space ∷ []

-- the 32 capabilities in a node's frame: its slots or registers, the fields of a root or bank, or void
abbrev pub slots_of : Content Cap → List Cap
slots_of content.Free = replicate 32 void_held
slots_of (content.Page words) = replicate 32 void_held
slots_of (content.Node slots) = slots
slots_of (content.Root root) = root_slots root ++ replicate 24 void_held
slots_of (content.Annex registers) = registers
slots_of (content.Bank limit) = number_cap limit ∷ replicate 31 void_held

-- the bytes of capabilities, one after the other
unfoldable pub slots_bytes : List Cap → List ℕ
slots_bytes slots = flat_map capability_bytes slots

-- the 1024 bytes of a frame with the number of a node
unfoldable pub node_frame_bytes : Frame → List ℕ
node_frame_bytes f = front_bytes f.header ++ slots_bytes (slots_of f.content) ++ zeros 224

-- the bytes of words, one after the other
unfoldable pub words_bytes : List ℕ → List ℕ
words_bytes words = flat_map number words

-- the 512 words that a page's frame has for a content
abbrev pub page_words : Content Cap → List ℕ
page_words (content.Page words) = words
page_words _ = zero_words

-- the 4608 bytes of a frame with the number of a page
unfoldable pub page_frame_bytes : Frame → List ℕ
page_frame_bytes f = front_bytes f.header ++ zeros 480 ++ words_bytes (page_words f.content)

-- how many sectors the frame of an object takes
abbrev pub frame_length : Geometry → ℕ → ℕ
frame_length g object = if nat_lt object g.nodes then 2 else 9

-- the bytes of an object's frame
abbrev pub frame_bytes : Geometry → ℕ → Frame → List ℕ
frame_bytes g object f = if nat_lt object g.nodes then node_frame_bytes f else page_frame_bytes f

-- these bytes encode the frame, which can be kept as this object at this age
abbrev pub IsFrameOf : Geometry → ℕ → ℕ → List ℕ → Frame → Type 0
IsFrameOf g age object bytes f = IsKeepable g age object f × (bytes ≡ frame_bytes g object f)

-- ---- frames as they are read

-- the content made of a body and the slots or words that were read with it
abbrev pub content_of : Body → List Cap → List ℕ → Content Cap
content_of body.Free slots words = content.Free
content_of body.Page slots words = content.Page words
content_of body.Node slots words = content.Node slots
content_of (body.Root root) slots words = content.Root root
content_of body.Annex slots words = content.Annex slots
content_of (body.Bank limit) slots words = content.Bank limit

-- the frame made of a header and a body that were read
abbrev pub frame_of : ObjectHeader × Body → Scratch → Frame
frame_of read scratch = record { header = read.0; content = content_of read.1 scratch.slots scratch.words }

-- the front of a frame, with `first` as its first eight bytes
unfoldable pub front_numbers : ℕ → ObjectHeader → List ℕ
front_numbers first h = number first ++ number h.allocations ++ number h.calls ++ number h.owner

-- the role with this number, or free if there is none
abbrev pub role_in : ℕ → Role
role_in n =
    if n == 1 then role.Page else
    if n == 2 then role.Node else
    if n == 3 then role.Root else
    if n == 4 then role.Annex else
    if n == 5 then role.Bank else role.Free

-- the number in a number capability, or 0
abbrev pub number_field : Capability → ℕ
number_field (Number n) = n
number_field _ = 0

abbrev pub number_held : Cap → ℕ
number_held c = number_field c.what

abbrev pub cap_at : List Cap → ℕ → Cap
cap_at slots i = slice_index_or slots i void_held

abbrev pub state_in : ℕ → State
state_in n = if n == 0 then Available else if n == 1 then Running else Waiting

-- the root that 32 slots decode to
abbrev pub root_from : List Cap → Root Cap
root_from slots = record {
  state = state_in (number_held (cap_at slots 1));
  words = number_held (cap_at slots 2) ∷ number_held (cap_at slots 3) ∷ number_held (cap_at slots 4) ∷ number_held
      (cap_at slots 5) ∷ [];
  key = number_held (cap_at slots 6) % 65536;
  annex = number_held (cap_at slots 0);
  space = cap_at slots 7;
}

-- the body of the role with this number, from 32 slots; free if no role has it
abbrev pub body_in : ℕ → List Cap → Body
body_in n slots =
    if n == 2 then body.Node else
    if n == 3 then body.Root (root_from slots) else
    if n == 4 then body.Annex else
    if n == 5 then body.Bank (number_held (cap_at slots 0)) else body.Free

-- the body of the role with this number, in a page's frame: a page or free
abbrev pub page_body_in : ℕ → Body
page_body_in n = if n == 1 then body.Page else body.Free

-- ---- what the readers of both kinds of frames require: together, exactly the frames that can be kept

-- what the content of each role must satisfy in a node's frame
abbrev pub FollowsRole : Content Cap → Type 0
FollowsRole content.Free = Unit {0}
FollowsRole (content.Page words) = ⊥
FollowsRole (content.Node slots) = Unit {0}
FollowsRole (content.Root root) = (length root.words ≡ 4) × (root.key < 2 ^ 16) × IsSpace root.space.what
FollowsRole (content.Annex registers) = slice_index_or registers 0 void_held ≡ void_held
FollowsRole (content.Bank limit) = Unit {0}

-- role number, owner and slots encode this content
pub record IsBody (n owner : ℕ) (slots : List Cap) (c : Content Cap) : Type 0 where
  pub role_is : n ≡ role_number (role_of c)
  pub slots_are : slots ≡ slots_of c
  pub follows : FollowsRole c
  pub unowned : IsTrue (is_free c) → owner ≡ 0

-- role number, owner and words encode a page, or a free number
abbrev pub IsPageBody : ℕ → ℕ → List ℕ → Type 0
IsPageBody n owner words = (n ≡ 1) ⊎ ((n ≡ 0) × (owner ≡ 0) × (words ≡ zero_words))

-- a content that a page's number may have
abbrev pub HoldsPage : Content Cap → Type 0
HoldsPage content.Free = Unit {0}
HoldsPage (content.Page words) = AreKeptWords 512 words
HoldsPage _ = ⊥

-- what every frame must satisfy
pub record IsFront (age : ℕ) (f : Frame) : Type 0 where
  pub role : f.header.role ≡ role_of f.content
  pub allocations : IsCount age f.header.allocations
  pub calls : IsCount age f.header.calls
  pub owner : f.header.owner < 2 ^ 64
  pub unowned : IsTrue (is_free f.content) → f.header.owner ≡ 0

-- a frame that may be kept at the number of a node
pub record IsNodeFrame (g : Geometry) (age : ℕ) (f : Frame) : Type 0 where
  pub front : IsFront age f
  pub slots : AreKeptSlots g age (slots_of f.content)
  pub follows : FollowsRole f.content

-- a frame that may be kept at the number of a page
pub record IsPageFrame (age : ℕ) (f : Frame) : Type 0 where
  pub front : IsFront age f
  pub holds : HoldsPage f.content
