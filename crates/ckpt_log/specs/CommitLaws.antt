-- What a device denotes after a commit, and after a crash during it.
use Rattle.ckpt_log.specs.Names.{ℕ, List, length, true, Image, Entry, IsFrameOf, Plan, IsPlan, Version, row, home_place, HasPlan}
use Rattle.ckpt_log.specs.Names.{HasDirectory, HasUnits, SavedState, Encodes, frame_in, frame_sector, IsObject, frame_at}
use Rattle.ckpt_log.specs.Names.{IsHeader, SealedHeader}
use Rattle.std.specs.Prelude.{◌≡◌, ◌+◌, ◌<◌, ◌≤◌}
use Rattle.ckpt_log.specs.AnyVersion.{HasNew, SparesRest, StaysCommitted}

-- all homes lie after the headers
abbrev pub HomesAreBehind : Plan → Type 0
HomesAreBehind p = (object : ℕ) → IsObject p.geometry object → (row p.version).first_home ≤ home_place p object

-- all frames lie after the headers, if all homes do
abbrev pub FramesAreBehind : Type 0
FramesAreBehind = (p : Plan) (generation : ℕ) (es : List Entry) (object : ℕ) → IsPlan p →
    (row p.version).first_home ≤ home_place p object → (row p.version).first_home ≤ frame_sector p generation es object

-- an image has all parts of a saved state, but its header may not be committed yet
pub record IsReady (image : Image) (size : ℕ) (s : SavedState) (h : SealedHeader) : Type 0 where
  pub same : h.header ≡ s.header
  pub plan : HasPlan image size s.plan
  pub header : IsHeader (row s.plan.version).first_sequence s.plan.geometry.log h.header
  pub directory : HasDirectory image s.plan h s.directory
  pub count : length s.frames ≡ s.plan.geometry.nodes + s.plan.geometry.pages
  pub each : (object : ℕ) → object < s.plan.geometry.nodes + s.plan.geometry.pages →
      IsFrameOf s.plan.geometry s.header.age object (frame_in image s.plan s.header.generation s.directory object)
      (frame_at s.frames object)
  pub units : (row s.plan.version).sealed ≡ true → HasUnits image s.plan h.root s.header.generation s.directory

-- the law: once the header of such a state is committed, the image denotes the state
abbrev pub NewIsDenoted : Type 0
NewIsDenoted = (old new : Image) (size : ℕ) (s : SavedState) (h : SealedHeader) → HomesAreBehind s.plan →
    IsReady old size s h → HasNew s.plan.version h old new → Encodes new size s

-- the law: before that, a crash leaves the old state; the image differs only in the slot of the next header from one
-- with that state, and all have the same committed header
abbrev pub OldIsDenoted : Type 0
OldIsDenoted = (seen before c : Image) (size : ℕ) (s : SavedState) (next : SealedHeader) → HomesAreBehind s.plan →
    Encodes seen size s → Encodes before size s → StaysCommitted s.plan.version seen before
    → SparesRest s.plan.version next before c → StaysCommitted s.plan.version seen c → Encodes c size s
