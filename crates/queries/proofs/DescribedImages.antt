-- What a store that was opened on a device saves, and the image built from its description.
use Rattle.queries.proofs.Names.{ℕ, List, sym, ap, subst, ReadsSaved, same_Some, Members, Frame, Geometry, IsSoundFrames, world_at, World, Saved, Disk, Image}
use Rattle.queries.proofs.Names.{agrees_is, Encodes, SavedState, OnlyReads, Holds, SavedFrames, saved_by, frames_of, first_saved, Live, Recovers, RefusesToOpen}
use Rattle.queries.proofs.Names.{IsDescription, IsSame, description_once, described_is_same, same_described, View, Parts, DurableState, IsOver}
use Rattle.queries.proofs.Names.{DescribedIsDenoted}
use Rattle.std.proofs.Common.{◌≡◌, ◌∙◌}
use Rattle.layout.specs.declared.open_fault.OpenFault.TheVariants as opening

-- The parameters: a store that was opened on a device.
module _ {D S : Type 0} {disk : D → Disk} (seen_left : (d : D) → (disk d).may_leave (disk d).seen) {view : S → View D} {parts : S → Parts}
    (durable : S → DurableState D) (is_over : (s : S) → IsOver disk (view s) (durable s)) {device : D} {l : Live S}
    (wakes : Recovers disk view parts device l) where
  -- the saved state that a read of the device gives
  abbrev pub state_of : SavedState
  state_of = saved_by disk (durable l.store)

  pub frames_are : frames_of (parts l.store) ≡ state_of.frames
  frames_are = wakes.frames ∙ ap (λ x. x.frames) (is_over l.store).saved

  pub sound : IsSoundFrames state_of.plan.geometry state_of.header.age state_of.frames
  sound = rw (is_over l.store).saved at wakes.up.sound.saved.sound

  encodes : Encodes (disk device).seen (disk device).sectors state_of
  encodes =
      let beneath = (durable l.store).beneath in
      let reads : OnlyReads (disk device) (disk beneath) = rw (is_over l.store).beneath at wakes.only_reads in
      subst (λ (i : Image). Encodes i (disk device).sectors state_of) (agrees_is (disk beneath).seen (disk device).seen reads.seen)
      (subst (λ (n : ℕ). Encodes (disk beneath).seen n state_of) reads.size ((is_over l.store).sound wakes.up.store _
      (seen_left beneath)).0)

  -- since it was opened, the device was only read
  pub reads_saved : (s : S) (back : D) → durable s ≡ durable l.store → back ≡ (view s).beneath → ReadsSaved disk device back state_of
  reads_saved s back kept same =
      let beneath : back ≡ (view l.store).beneath = same ∙ (is_over s).beneath ∙ ap (λ d. d.beneath) kept ∙ sym (is_over l.store).beneath in
      record { encodes = encodes; sound = sound; failures = rw beneath wakes.failures; only_reads = rw beneath wakes.only_reads }

-- if memory ran out while a part was read, the command reports that
pub no_memory : {D : Type 0} (disk : D → Disk) (device back : D) {s : SavedState} → ReadsSaved disk device back s →
    RefusesToOpen disk device back opening.NoMemory
no_memory disk device back reads = record { is_why = reads.failures; only_reads = reads.only_reads }

-- An image built from the text denotes the world that the text describes.
pub described_is_denoted : DescribedIsDenoted
described_is_denoted p age frames text table e saved size c sound reported read said built holds =
    let d = reported.description in
    let gs : List Frame = built.0 in
    let tables : reported.table ≡ table = same_Some reported.table table (sym reported.read ∙ read) in
    let same : IsSame d e = description_once table d e (subst (λ (ms : Members). IsDescription ms d) tables reported.said) said in
    let is = described_is_same p.geometry age frames gs d sound reported.describes (same_described d e same gs built.1) in
    let world : world_at e.age gs ≡ world_at age frames = ap (λ (n : ℕ). world_at n gs) (sym same.age) ∙ is.1 in
    let geometry : e.geometry ≡ p.geometry = sym same.geometry ∙ reported.describes.geometry in
    record {
      frames = first_saved e.geometry e.age gs;
      holds = subst (λ (s : SavedFrames). Holds size c s) built.3 holds;
      sound = record { geometry = geometry; sound = subst (λ (g : Geometry). IsSoundFrames g e.age gs) geometry built.2 };
      stands = ap (λ (w : World). let s : Saved = record { world = w; generation = 0; entries = 0 } in s) world;
    }
