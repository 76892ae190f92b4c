-- A built image is an image of its description.
use Rattle.image_builder.proofs.Names.{List, ap, inl, inr, subst, ⊎_elim, Members, Cap, Frame, ObjectHeader, Content, frames_in, IsSoundFrames, Disk, Image}
use Rattle.image_builder.proofs.Names.{Elsewhere, LeavesOnly, OnlyNow, leaves_weaker, started, Encodes, Plan, Holds, IsLeftWriting, first_saved, first_state}
use Rattle.image_builder.proofs.Names.{kept_holds_the_same, none_is_held, IsDescription, Description, Builds, IsLeftOf, IsLeftBuilding, IsSoundDescription}
use Rattle.image_builder.proofs.Names.{described_once, IsWithinLimits, plan_for, AreLaid, holds_one, EndInZeros, []}
use Rattle.std.proofs.Common.{◌≡◌, ◌≤◌, ◌∙◌}
use Rattle.std.specs.Prelude.{◌==◌, if◌then◌else◌}
use Rattle.image_builder.proofs.Refusals.{accepted}

module _ (d : Description) (hs : List ObjectHeader) (cs : List (Content Cap)) (laid : AreLaid d hs cs) where
  module _ (limits : IsWithinLimits d) (s : IsSoundDescription d) (old new : Disk) where
    pub builds : (p : Plan) → p ≡ plan_for d → p.total ≤ old.sectors →
        Encodes new.seen new.sectors (first_state p d.age (frames_in hs cs)) →
        ((c : Image) → new.may_leave c → Holds new.sectors c (first_saved p.geometry d.age (frames_in hs cs))) →
        ((c : Image) → new.may_leave c → EndInZeros p 0 [] c) →
        Elsewhere 0 p.total old.seen new.seen → Builds d old new
    builds p is inside denotes crash zeros elsewhere = record {
      accepted = accepted d limits s old.sectors (subst (λ (q : Plan). q.total ≤ old.sectors) is inside);
      frames = frames_in hs cs;
      described = laid.described;
      sound = subst (λ (fs : List Frame). IsSoundFrames d.geometry d.age fs)
          (described_once d s.frames (frames_in hs cs) s.described laid.described) s.sound;
      denotes = subst (λ (q : Plan). Encodes new.seen new.sectors (first_state q d.age (frames_in hs cs))) is denotes;
      crash = λ c left. subst (λ (q : Plan). Holds new.sectors c (first_saved q.geometry d.age (frames_in hs cs))) is (crash c left);
      zeros = λ c left. subst (λ (q : Plan). EndInZeros q 0 [] c) is (zeros c left);
      elsewhere = subst (λ (q : Plan). Elsewhere 0 q.total old.seen new.seen) is elsewhere;
    }

    -- a crash during the build leaves what it could leave before, or the whole image
    left_by : (p : Plan) → p ≡ plan_for d → (c : Image) → IsLeftWriting old (first_saved p.geometry d.age (frames_in hs cs)) c →
        IsLeftBuilding d old c
    left_by p is c (inl (before, left, kept)) saved holds = inl (
      before,
      left,
      (kept_holds_the_same old.sectors before c saved kept).1 holds,
    )
    left_by p is c (inr (inl none)) saved holds = absurd (none_is_held old.sectors c saved none holds)
    left_by p is c (inr (inr whole)) saved holds = inr (
      frames_in hs cs,
      laid.described,
      subst (λ (fs : List Frame). IsSoundFrames d.geometry d.age fs) (described_once d s.frames (frames_in hs cs) s.described
          laid.described) s.sound,
      holds_one old.sectors c saved (first_saved p.geometry d.age (frames_in hs cs)) holds whole ∙
          ap (λ (q : Plan). first_saved q.geometry d.age (frames_in hs cs)) is,
    )

    pub left_writing : (p : Plan) → p ≡ plan_for d → LeavesOnly old new (λ c. IsLeftWriting old
        (first_saved p.geometry d.age (frames_in hs cs)) c) → LeavesOnly old new (λ c. IsLeftBuilding d old c)
    left_writing p is run =
        leaves_weaker {old = old} {new = new} {P = λ c. IsLeftWriting old (first_saved p.geometry d.age (frames_in hs cs)) c}
        (λ c. IsLeftBuilding d old c)
        (λ c left. left_by p is c left) run

-- ---- faults before any write

pub nothing_written : (d : Description) (disk : Disk) → OnlyNow disk → LeavesOnly disk disk (λ c. IsLeftBuilding d disk c)
nothing_written d disk only_now = started disk (λ c. IsLeftBuilding d disk c) only_now (λ c left saved holds. inl (c, left, holds))

pub nothing_written_of : (ms : Members) (disk : Disk) → OnlyNow disk → LeavesOnly disk disk (λ c. IsLeftOf ms disk c)
nothing_written_of ms disk only_now = started disk (λ c. IsLeftOf ms disk c) only_now (λ c left saved holds. inl (c, left, holds))

-- if a crash may leave an image while a description is built, it may leave it while the description's table is built
pub left_of : (ms : Members) (d : Description) {old new : Disk} → IsDescription ms d → LeavesOnly old new (λ c. IsLeftBuilding d old c) →
    LeavesOnly old new (λ c. IsLeftOf ms old c)
left_of ms d {old} {new} is run =
    leaves_weaker {old = old} {new = new} {P = λ c. IsLeftBuilding d old c} (λ c. IsLeftOf ms old c)
    (λ c left saved holds. ⊎_elim (λ before. inl before) (λ described. inr (d, is, described)) (left saved holds)) run
