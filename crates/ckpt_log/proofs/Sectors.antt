-- One sector of a device.
use Rattle.ckpt_log.proofs.Names.{ℕ, List, length, take, drop, sym, ap, arith, take_all, Image, Disk, Agrees, AreSectors, sectors_of, sectors_from, LeavesOnly}
use Rattle.ckpt_log.proofs.Names.{CountsNow, ends, one_from}
use Rattle.std.proofs.Common.{◌≡◌, ◌+◌, ◌*◌, ◌/◌, ◌∙◌}

pub one_sector : (bytes : List ℕ) → length bytes ≡ 512 → sectors_of bytes ≡ 1
one_sector bytes size = ap (λ (n : ℕ). n / 512) size

-- 512 bytes that are the sectors from `at` on are the sector `at`
pub sector_is : (image : Image) {at : ℕ} {bytes : List ℕ} → length bytes ≡ 512 → AreSectors image at bytes → bytes ≡ image at
sector_is image {at} {bytes} size are =
    let first : take 512 (drop (512 * 0) bytes) ≡ image (at + 0) = are 0 (omega (arith, one_sector bytes size)) in
    let place : at + 0 ≡ at = omega arith in
    sym (take_all 512 bytes (omega (arith, size))) ∙ first ∙ ap image place

-- if each crash during a run leaves an image with P, a read then returns one with P
pub seen_has : {old new : Disk} {P : Image → Type 0} → LeavesOnly old new P → CountsNow new → new.may_leave new.seen → P new.seen
seen_has {old} {new} {P} run counts_now left = ends run counts_now new.seen left

-- reads don't change a sector's bytes
pub read_is : {old new : Image} {at : ℕ} (bytes : List ℕ) → Agrees new old → sectors_from new at 1 ≡ bytes → bytes ≡ old at
read_is {new} {at} bytes same is = sym is ∙ one_from new at ∙ same at
