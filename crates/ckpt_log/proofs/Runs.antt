-- What a crash may leave during a commit.
use Rattle.ckpt_log.proofs.Names.{arith, nat_tests, ℕ, false, subst, CheckpointHeader, is_open, header_bytes, Image, Disk, Agrees, Elsewhere, Narrows, Elapses}
use Rattle.ckpt_log.proofs.Names.{LeavesOnly, agrees_is, OnlyNow, leaves_weaker, leaves_on, header_sector, gate_sector, IsInOrder, IsInOrderAfter, CommitsOne}
use Rattle.ckpt_log.proofs.Names.{Precedes, KeepsHeader, HasNew, IsOldOrNew, IsOld}
use Rattle.std.proofs.Common.{◌≡◌, ◌<◌, ◌^◌, ◌⊎◌}
use Rattle.ckpt_log.proofs.Commits.{closing_keeps, header_keeps, opening, precedes_on, keeps_on}

-- c is left by a crash while a gate, which may be open, is being closed
abbrev pub IsClosing : ℕ → Image → Image → Type 0
IsClosing at old c = Elsewhere at 1 old c × (is_open (old at) ≡ false → Agrees c old)

pub closing_run : {h : CheckpointHeader} {at : ℕ} {image : Image} {old new : Disk} → at ≡ gate_sector h → Precedes image h
    → LeavesOnly old new (λ c. IsClosing at image c) → LeavesOnly old new (λ c. KeepsHeader h image c)
closing_run {h} {at} {image} {old} {new} place next run =
    leaves_weaker {old = old} {new = new} {P = λ c. IsClosing at image c} (λ c. KeepsHeader h image c)
    (λ c is. let here : IsClosing (gate_sector h) image c = subst (λ (i : ℕ). IsClosing i image c) place is in
    closing_keeps next here.0 here.1) run

-- a run that writes the next header under a closed gate leaves the committed header
pub header_run : {h : CheckpointHeader} {at : ℕ} {image mid_image : Image} {old mid new : Disk} → at ≡ header_sector h → Precedes image h
    → KeepsHeader h image mid_image → is_open (mid_image (gate_sector h)) ≡ false
    → LeavesOnly old mid (λ c. KeepsHeader h image c) → LeavesOnly mid new (λ c. Elsewhere at 1 mid_image c) →
    LeavesOnly old new (λ c. KeepsHeader h image c)
header_run {h} {at} {image} {mid_image} {old} {mid} {new} place next kept closed first second =
    leaves_on {old = old} {mid = mid} {new = new} {P = λ c. KeepsHeader h image c} first
    (leaves_weaker {old = mid} {new = new} {P = λ c. Elsewhere at 1 mid_image c} (λ c. KeepsHeader h image c) (λ c is. keeps_on kept
    (header_keeps (precedes_on next kept) closed (subst (λ (i : ℕ). Elsewhere i 1 mid_image c) place is))) second)

-- a run that opens the next header's gate leaves the old or the new header committed
pub opening_run : {h : CheckpointHeader} {at : ℕ} {image : Image} {old new : Disk} → at ≡ gate_sector h → h.sequence < 2 ^ 64 →
    Precedes image h → image (header_sector h) ≡ header_bytes h → LeavesOnly old new (λ c. Elsewhere at 1 image c) →
    LeavesOnly old new (λ c. IsOldOrNew h image c)
opening_run {h} {at} {image} {old} {new} place fits next written run = grind (arith, nat_tests, leaves_weaker, opening)

-- a run that keeps the committed header leaves the old or the new one committed
pub preparing_run : {h : CheckpointHeader} {image : Image} {old new : Disk} → LeavesOnly old new (λ c. KeepsHeader h image c) →
    LeavesOnly old new (λ c. IsOldOrNew h image c)
preparing_run {h} {image} {old} {new} run = grind (arith, nat_tests)

pub publishing_run : {h : CheckpointHeader} {image mid_image : Image} {old mid new : Disk} → KeepsHeader h image mid_image
    → LeavesOnly old mid (λ c. KeepsHeader h image c) → LeavesOnly mid new (λ c. IsOldOrNew h mid_image c) →
    LeavesOnly old new (λ c. IsOldOrNew h image c)
publishing_run {h} {image} {mid_image} {old} {mid} {new} kept first second = grind (arith, nat_tests)

-- ---- a commit after unsynced writes

abbrev pub IsOldOrCommitted : CheckpointHeader → Disk → Image → Type 0
IsOldOrCommitted h disk c = IsOld h disk c ⊎ HasNew h disk.seen c

was_seen : {h : CheckpointHeader} {disk : Disk} {c : Image} → disk.may_leave disk.seen → IsOldOrNew h disk.seen c →
    IsOldOrCommitted h disk c
was_seen {h} {disk} {c} left h1 = grind (arith, nat_tests)

-- a sync, even if it fails, leaves the committed header
pub sync_run : {h : CheckpointHeader} {old new : Disk} → CommitsOne old → OnlyNow old → Elapses old new → Narrows old new →
    LeavesOnly old new (λ c. IsOldOrCommitted h old c)
sync_run {h} {old} {new} one only_now time narrows = grind (arith, nat_tests)

-- a commit after a sync leaves the old or the new header committed
pub commit_run : {h : CheckpointHeader} {old mid new : Disk} → old.may_leave old.seen → Agrees mid.seen old.seen
    → LeavesOnly old mid (λ c. IsOldOrCommitted h old c) → LeavesOnly mid new (λ c. IsOldOrNew h mid.seen c) →
    LeavesOnly old new (λ c. IsOldOrCommitted h old c)
commit_run {h} {old} {mid} {new} left same first second =
    leaves_on {old = old} {mid = mid} {new = new} {P = λ c. IsOldOrCommitted h old c} first
    (leaves_weaker {old = mid} {new = new} {P = λ c. IsOldOrNew h mid.seen c} (λ c. IsOldOrCommitted h old c)
    (λ c is. was_seen left (subst (λ (image : Image). IsOldOrNew h image c) (agrees_is mid.seen old.seen same) is)) second)

-- ---- the order of the writes of a slot

pub sync_order : (h : CheckpointHeader) {old new : Disk} → OnlyNow old → Elapses old new → Narrows old new →
    LeavesOnly old new (λ c. IsInOrderAfter h old c)
sync_order h {old} {new} only_now time narrows = grind (arith, nat_tests)

pub commit_order : (h : CheckpointHeader) {old mid new : Disk} → old.may_leave old.seen → Agrees mid.seen old.seen
    → LeavesOnly old mid (λ c. IsInOrderAfter h old c) → LeavesOnly mid new (λ c. IsInOrder h mid.seen c) →
    LeavesOnly old new (λ c. IsInOrderAfter h old c)
commit_order h {old} {mid} {new} left same first second = grind (arith, nat_tests)

-- while the gate is being opened, the header is on the device, so the writes are in order
pub publishing_order : (h : CheckpointHeader) (image : Image) {old mid new : Disk} → LeavesOnly old mid (λ c. IsInOrder h image c) →
    LeavesOnly mid new (λ c. c (header_sector h) ≡ header_bytes h)
    → LeavesOnly old new (λ c. IsInOrder h image c)
publishing_order h image {old} {mid} {new} first second = grind (arith, nat_tests)
