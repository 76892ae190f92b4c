-- While the gates of both headers are closed, the lesser header's first, the committed header stays committed or there is none.
use Rattle.ckpt_log.proofs.Names.{nat_tests, ℕ, false, refl, subst, sym, agrees_is, inl, arith, IsLesser, HeaderSlot, other_slot, gate_at, is_open, committed_slot, None}
use Rattle.ckpt_log.proofs.Names.{Image, Disk, LeavesOnly, Peeks, leaves_on, leaves_weaker, Agrees, Elsewhere, AreClosed, KeepsOrHasNone, WasKeptOrHasNone}
use Rattle.std.proofs.Common.{◌≡◌}
use Rattle.ckpt_log.proofs.Runs.{IsClosing}

-- ---- which header is committed while the gates are being closed

-- while the lesser header's gate is being closed, a crash leaves the same committed header, or none
pub closing_first : (slot : HeaderSlot) {old c : Image} → IsLesser old slot → IsClosing (gate_at slot) old c → KeepsOrHasNone old c
closing_first slot {old} {c} lesser is = grind (arith, nat_tests)

-- while the second gate is being closed after the first, a crash leaves the same committed header, or none
pub closing_second : (slot : HeaderSlot) {old mid c : Image} → IsLesser old slot → Elsewhere (gate_at slot) 1 old mid →
    is_open (mid (gate_at slot)) ≡ false → IsClosing (gate_at (other_slot slot)) mid c → KeepsOrHasNone old c
closing_second slot {old} {mid} {c} lesser first shut is = grind (arith, nat_tests)

-- an unchanged image has the same committed header
pub untouched : {image : Image} → KeepsOrHasNone image image
untouched = record { elsewhere = λ i _ _. refl; committed = inl refl }

pub none_committed : (image : Image) → AreClosed image → committed_slot image ≡ None
none_committed image shut = grind (arith, nat_tests)

pub keeps_same : {old new : Image} → Agrees new old → KeepsOrHasNone old new
keeps_same {old} {new} same = subst (KeepsOrHasNone old) (sym (agrees_is new old same)) untouched

-- ---- at each moment of the call

-- the run that closes the first gate leaves only images with the same committed header, or none
pub first_run : (slot : HeaderSlot) {at : ℕ} {image : Image} {old new : Disk} → at ≡ gate_at slot → IsLesser image slot →
    LeavesOnly old new (λ c. IsClosing at image c) → LeavesOnly old new (λ c. KeepsOrHasNone image c)
first_run slot {at} {image} {old} {new} place lesser run = search (arith, leaves_weaker, closing_first)

-- the run that closes the second gate after the first leaves only images with the same committed header, or none
pub second_run : (slot : HeaderSlot) {at next : ℕ} {image mid_image : Image} {old mid new : Disk} → at ≡ gate_at slot →
    next ≡ gate_at (other_slot slot) → IsLesser image slot → Elsewhere at 1 image mid_image → is_open (mid_image at) ≡ false →
    LeavesOnly old mid (λ c. KeepsOrHasNone image c) → LeavesOnly mid new (λ c. IsClosing next mid_image c) →
    LeavesOnly old new (λ c. KeepsOrHasNone image c)
second_run slot {at} {next} {image} {mid_image} {old} {mid} {new} place next_place lesser change shut first second =
    let before = rw place at change in
    let closed = rw place at shut in
    leaves_on {old = old} {mid = mid} {new = new} {P = λ c. KeepsOrHasNone image c} first
    (leaves_weaker {old = mid} {new = new} {P = λ c. IsClosing next mid_image c} (λ c. KeepsOrHasNone image c)
    (λ c is. closing_second slot lesser before closed (subst (λ (i : ℕ). IsClosing i mid_image c) next_place is)) second)

-- a failed sync, or reads, leave only images that a crash could leave before
pub peek_run : {old new : Disk} → Peeks old new → LeavesOnly old new (λ c. WasKeptOrHasNone old c)
peek_run {old} {new} run = leaves_weaker {old = old} {new = new} {P = old.may_leave} (λ c. WasKeptOrHasNone old c)
    (λ c left. (c, left, untouched)) run

-- if closing follows a sync, a crash during either leaves an image that it could leave before, with the same committed header or none
pub closing_run : {old mid new : Disk} → old.may_leave old.seen → Agrees mid.seen old.seen
    → LeavesOnly old mid (λ c. WasKeptOrHasNone old c) → LeavesOnly mid new (λ c. KeepsOrHasNone mid.seen c) →
    LeavesOnly old new (λ c. WasKeptOrHasNone old c)
closing_run {old} {mid} {new} left same first second = grind (arith, nat_tests)
