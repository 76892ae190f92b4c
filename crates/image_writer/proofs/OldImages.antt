-- Which saved frames an image holds while its gates are being closed.
use Rattle.image_writer.proofs.Names.{ℕ, Bool, List, None, Some, true, false, ap, sym, subst, arith, Image, Plan, IsPlan, Version, row, header_bytes, Holds}
use Rattle.image_writer.proofs.Names.{SavedFrames, KeptHoldsTheSame, NoneIsHeld, Encodes, KeepsAs, KeepsImage, SameHeaderBy, HasNoneBy, frames_behind}
use Rattle.image_writer.proofs.Names.{places_begin, half_behind, Entry, CommitsIf, option_at, SavedState, IsFrameOf, place_length, directory_sector}
use Rattle.image_writer.proofs.Names.{frame_sector, directory_length, SealedHeader, IsReady, SameBlocks, SameFrom, encoded, same_directory, same_frames}
use Rattle.image_writer.proofs.Names.{same_units, frame_at}
use Rattle.std.proofs.Common.{◌≡◌, ◌+◌, ◌≤◌, ◌∙◌}
use Rattle.image_writer.proofs.OldGates.{gates_low, superblock_stays}
use Rattle.image_writer.proofs.ClosedGates.{gates_before}

-- ---- a state whose header slots change

-- the superblock, and all sectors behind the header slots, are unchanged
pub record KeptBehind (v : Version) (old new : Image) : Type 0 where
  pub superblock : new 0 ≡ old 0
  pub behind : (i : ℕ) → (row v).first_home ≤ i → new i ≡ old i

pub same_from : {v : Version} {old new : Image} (at n : ℕ) → KeptBehind v old new → (row v).first_home ≤ at → SameFrom at n old new
same_from at n kept low i lt = kept.behind (at + i) (omega (arith, low))

pub kept_blocks : (p : Plan) (generation : ℕ) (es : List Entry) (old new : Image) → IsPlan p → KeptBehind p.version old new →
    SameBlocks p generation es old new
kept_blocks p generation es old new fits kept object lt =
    same_from (frame_sector p generation es object) (place_length p object) kept
    (frames_behind p generation es object fits (places_begin p object fits lt))

pub ready_kept : (old new : Image) (size : ℕ) (s : SavedState) (h : SealedHeader) → KeptBehind s.plan.version old new →
    IsReady old size s h → IsReady new size s h
ready_kept old new size s h kept was =
    let half = half_behind s.plan h.header.generation was.plan.fits in
    let blocks = kept_blocks s.plan s.header.generation s.directory old new was.plan.fits kept in
    record {
      same = was.same;
      plan = record {
        least = was.plan.least;
        whole = was.plan.whole;
        fits = was.plan.fits;
        spelt = kept.superblock ∙ was.plan.spelt;
      };
      header = was.header;
      directory = same_directory old new s.plan h s.directory
          (same_from (directory_sector s.plan h.header.generation) (directory_length s.plan.version h.header.entries) kept
          (omega (arith, half))) was.directory;
      count = was.count;
      each = λ object lt.
          subst (λ (bytes : List ℕ). IsFrameOf s.plan.geometry s.header.age object bytes (frame_at s.frames object))
          (sym (same_frames old new s.plan s.header s.directory object (blocks object lt))) (was.each object lt);
      units = λ is. same_units old new s.plan h.root s.header.generation s.directory blocks (was.units is);
    }

ready_of : {image : Image} {size : ℕ} {s : SavedState} (is : Encodes image size s) → IsReady image size s is.commit
ready_of is = record {
  same = is.same;
  plan = is.plan;
  header = is.header.fits;
  directory = is.directory;
  count = is.count;
  each = is.each;
  units = is.units;
}

-- ---- an image whose gates change

same_commit : (b : Bool) (old new : Image) (h : SealedHeader) → SameHeaderBy b old new → CommitsIf b old h → CommitsIf b new h
same_commit false old new h same is = record { spelt = same ∙ is.spelt; sums = is.sums; fits = is.fits }
same_commit true old new h same is = (same h).0 is

back_by : (b : Bool) (old new : Image) → SameHeaderBy b old new → SameHeaderBy b new old
back_by false old new same = sym same
back_by true old new same = λ h. ((same h).1, (same h).0)

kept_behind : (v : Version) (old new : Image) → KeepsAs v old new → KeptBehind v old new
kept_behind v old new keeps = record {
  superblock = superblock_stays v old new keeps.elsewhere;
  behind = λ i low. keeps.elsewhere i (λ k lt e. let before = gates_before v k lt in omega (arith, e, low, before));
}

encodes : (old new : Image) (size : ℕ) (s : SavedState) → KeepsImage old new → Encodes old size s → Encodes new size s
encodes old new size s kept is =
    let keeps = kept.kept s.plan is.plan.fits is.plan.spelt in
    encoded (ready_kept old new size s is.commit (kept_behind s.plan.version old new keeps) (ready_of is))
    (same_commit (row s.plan.version).sealed old new is.commit keeps.committed is.header.committed)

-- `KeepsImage` is symmetric
back : (old new : Image) → KeepsImage old new → KeepsImage new old
back old new kept = record {
  elsewhere = λ i other. sym (kept.elsewhere i other);
  kept = λ p fits spelt.
      let same : new 0 ≡ old 0 = kept.elsewhere 0 (λ v k lt e. let low = (gates_low v k lt).0 in omega (arith, e, low)) in
      let keeps = kept.kept p fits (sym same ∙ spelt) in
      record { elsewhere = λ i other. sym (keeps.elsewhere i other); committed = back_by (row p.version).sealed old new keeps.committed };
}

holds : (old new : Image) → KeepsImage old new → (size : ℕ) (saved : SavedFrames) → Holds size old saved → Holds size new saved
holds old new kept size saved (s, is, same) = (s, encodes old new size s kept is, same)

pub kept_holds_the_same : KeptHoldsTheSame
kept_holds_the_same size old new saved kept = (holds old new kept size saved, holds new old (back old new kept) size saved)

none_commits : (b : Bool) (c : Image) (h : SealedHeader) → HasNoneBy b c → CommitsIf b c h → ⊥
none_commits false c h none is =
    let lost : None ≡ Some (header_bytes h.header) = sym (ap (option_at c) none) ∙ is.spelt in cc
none_commits true c h none is = none h is

pub none_is_held : NoneIsHeld
none_is_held size c saved none (s, is, same) =
    none_commits (row s.plan.version).sealed c is.commit (none s.plan is.plan.fits is.plan.spelt) is.header.committed
