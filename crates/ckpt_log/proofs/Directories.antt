-- Directories: empty ones, reading them back, and why they are refused.
use Rattle.ckpt_log.proofs.Names.{nat_tests, ℕ, List, [], length, take, drop, replicate, refl, arith, drop-replicate, take-replicate, Image, Entry}
use Rattle.ckpt_log.proofs.Names.{directory_bytes, IsDirectory, Plan, directory_in, sectors_from, Frame, IsFrameOf, frame_bytes, Geometry, one_directory}
use Rattle.ckpt_log.proofs.Names.{directory_fits, one_frame, OpenFault, Failed, NoMemory, Bad, IsRefused, IsBadDirectory, SlotsAreReadBack}
use Rattle.ckpt_log.proofs.Names.{DirectoriesAreReadBack, directory_length}
use Rattle.ckpt_log.proofs.Names.{no_sectors, Version, ap, sym}
use Rattle.std.proofs.Common.{◌∙◌, ◌≡◌, ◌-◌, ◌*◌, ◌≤◌, ◌∷◌, ◌++◌}

-- a directory without entries is encoded by no bytes
pub no_entries : (p : Plan) (generation : ℕ) (image : Image) (es : List Entry) → length es ≡ 0 →
    IsDirectory p.geometry es × (directory_in image p generation (length es) ≡ directory_bytes es)
unfolding directory_bytes
no_entries p generation image [] none = (
  record {
    each = λ i d lt. absurd (omega (arith, lt));
    rising = λ i lt. absurd (omega (arith, lt));
    apart = λ i j first lt same. absurd (omega (arith, lt));
  },
  refl,
)
no_entries p generation image (e ∷ es) none = absurd (omega (arith, none))

-- a directory without entries has no sectors, so nothing lies after it
nothing_behind : (image : Image) (at n : ℕ) → n ≡ 0 → drop (16 * 0) (sectors_from image at n) ≡ replicate (512 * n - 16 * 0) 0
unfolding sectors_from
nothing_behind image at n none = rw none refl

pub none_behind : (v : Version) (image : Image) (at : ℕ) {n : ℕ} → n ≡ 0 →
    drop (16 * n) (sectors_from image at (directory_length v n)) ≡ replicate (512 * directory_length v n - 16 * n) 0
none_behind v image at none = rw none (nothing_behind image at (directory_length v 0) (no_sectors v))

-- if a directory is written over zeros, zeros follow its entries
pub zeros_behind : (image : Image) (at n : ℕ) {k long most : ℕ} {run zeros : List ℕ} → k ≡ long → 512 * long ≤ most →
    zeros ≡ replicate most 0 → sectors_from image at k ≡ run → drop (16 * n) run ≡ drop (16 * n) (take (512 * k) zeros) →
    drop (16 * n) (sectors_from image at long) ≡ replicate (512 * long - 16 * n) 0
zeros_behind image at n {k} {long} {most} {run} {zeros} same room blank written rest =
    grind (arith, nat_tests, take-replicate, drop-replicate)

-- the sectors written for a directory begin with the directory's bytes
pub entries_written : (image : Image) (at n : ℕ) {k long : ℕ} {run bytes : List ℕ} → k ≡ long → sectors_from image at k ≡ run →
    take (16 * n) run ≡ bytes → take (16 * n) (sectors_from image at long) ≡ bytes
entries_written image at n {k} {long} {run} {bytes} same written front =
    rw (sym same) (ap (take (16 * n)) written ∙ front)

-- ---- frames and directories are read back as written

slot_not_refused : {g : Geometry} {age object : ℕ} {f : Frame} (e : OpenFault) → IsFrameOf g age object (frame_bytes g object f) f →
    IsRefused g age object (frame_bytes g object f) e → e ≡ Failed
slot_not_refused {g} {age} {object} {f} e is bad = grind (arith, nat_tests)

pub slots_read_back : SlotsAreReadBack
slots_read_back = search (arith, one_frame, slot_not_refused)

directory_not_refused : {g : Geometry} {es : List Entry} (e : OpenFault) → IsDirectory g es → IsBadDirectory g (directory_bytes es) e →
    e ≡ Failed
directory_not_refused Failed is bad = refl
directory_not_refused NoMemory is bad = absurd bad
directory_not_refused {es} (Bad reason) is bad = absurd (bad.1 es is refl)

pub directories_read_back : DirectoriesAreReadBack
directories_read_back = grind (arith, nat_tests, one_directory, directory_fits, directory_not_refused)
