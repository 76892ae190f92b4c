-- What a crash leaves while the gates are closed in order.
use Rattle.std.proofs.Common.{◌≡◌, ℕ, ◌%◌, ◌<◌, List, None, Option, Some, ap, refl, subst, sym, ◌∙◌, inl, inr, arith}
use Rattle.std.proofs.lemmas.Bool.{cases_eq}
use Rattle.device.specs.Calls.{Agrees, Elsewhere, IsTorn, Only}
use Rattle.device.specs.Disk.{Disk, Image}
use Rattle.device.specs.Moments.{LeavesOnly, Peeks}
use Rattle.device.proofs.Images.{agrees_is}
use Rattle.device.proofs.Moments.{CountsNow, ends, leaves_on, leaves_weaker}
use Rattle.header_slots.specs.Closing.{ClosesGateOf, TearsGateOf}
use Rattle.header_slots.specs.Slots.{Opens, Slots}
use Rattle.layout.specs.declared.sealed.header.SealedHeader.{SealedHeader}
use Rattle.layout.specs.sealed.Gate.{HasNumber, numbered_gate_bytes}
use Rattle.layout.specs.sealed.Header.{sealed_header_bytes}
use Rattle.layout.proofs.NumberedGates.{closed_has_none}
use Rattle.ckpt_log.specs.declared.sealed.closing.Order.{Order}
use Rattle.ckpt_log.specs.sealed.Closing.{AreClosed, CommitsNone, IsOrder, IsOrderOf, KeepsOrHasNone, WasKeptOrHasNone}
use Rattle.layout.specs.sealed.Opening.{Commits, gate_sector, header_sector}
use Rattle.ckpt_log.proofs.SealedGates.{first_opens, second_opens, third_opens}
use Rattle.ckpt_log.proofs.SealedCommits.{beside, no_gate, others_by_gate, same_gates}
use Rattle.layout.proofs.SealedSlots.{are_slots, one_slots, opens_in, same_bytes, same_header, slots_in}

-- ---- the header slots while one gate is being written

tears : (j : ℕ) (d c : Image) → Elsewhere (gate_sector j) 1 d c → TearsGateOf j (slots_in d) (slots_in c)
tears j d c torn =
    let stays : c (header_sector j) ≡ d (header_sector j) = beside (gate_sector j) (header_sector j) d c torn (no_gate j j) in
    record {
      others = others_by_gate j d c torn;
      header = same_header c d (slots_in c) (slots_in d) j (are_slots c) (are_slots d) stays;
      bytes = same_bytes c d (slots_in c) (slots_in d) j (are_slots c) (are_slots d) stays;
    }

no_number : (it : Option ℕ) → ((n : ℕ) → it ≡ Some n → ⊥) → it ≡ None
no_number None none = refl
no_number (Some n) none = absurd (none n refl)

closed_gate : (j : ℕ) (c : Image) → c (gate_sector j) ≡ numbered_gate_bytes 0 → (slots_in c j).gate ≡ None
closed_gate j c zero_there =
    no_number (slots_in c j).gate
    (λ n is. closed_has_none n (subst (λ (row : List ℕ). HasNumber row n) zero_there (((are_slots c).gate j n).0 is)))

closes : (j : ℕ) (d c : Image) → Elsewhere (gate_sector j) 1 d c → c (gate_sector j) ≡ numbered_gate_bytes 0 →
    ClosesGateOf j (slots_in d) (slots_in c)
closes j d c torn zero_there = record { torn = tears j d c torn; closed = closed_gate j c zero_there }

-- ---- the image while the gates are closed in order

pub commits_by : (c : Image) (h : SealedHeader) → Opens (slots_in c) h.header.sequence (sealed_header_bytes h) → (d : Image) → Commits d h →
    Commits c h
commits_by c h opens d is = record { slots = slots_in c; are = are_slots c; opens = opens; fits = is.fits }

spared : (j : ℕ) → j < 3 → (d c : Image) → Elsewhere (gate_sector j) 1 d c → (i : ℕ) → ((k : ℕ) → k < 3 → i ≡ gate_sector k → ⊥) → c i ≡ d i
spared j low d c torn i other = beside (gate_sector j) i d c torn (other j low)

module _ (image : Image) (o : Order) (ordered : IsOrderOf image o) where
  order : IsOrder (slots_in image) o
  order = subst (λ (s : Slots). IsOrder s o) (one_slots image ordered.0 (slots_in image) ordered.1 (are_slots image)) ordered.2

  pub first_keeps : (c : Image) → Elsewhere (gate_sector o.first) 1 image c → KeepsOrHasNone image c
  first_keeps c torn = record {
    elsewhere = spared o.first order.first_low image c torn;
    committed = λ h is.
        commits_by image h (first_opens (slots_in image) o order (slots_in c) h.header.sequence (sealed_header_bytes h)
        (tears o.first image c torn) (opens_in c h is))
        c is;
  }

  module _ (one : Image) (first : Elsewhere (gate_sector o.first) 1 image one)
      (first_closed : one (gate_sector o.first) ≡ numbered_gate_bytes 0)
    where
      closes_first : ClosesGateOf o.first (slots_in image) (slots_in one)
      closes_first = closes o.first image one first first_closed

      pub second_keeps : (c : Image) → Elsewhere (gate_sector o.second) 1 one c → KeepsOrHasNone image c
      second_keeps c torn = record {
        elsewhere = λ i other. spared o.second order.second_low one c torn i other ∙ spared o.first order.first_low image one first i other;
        committed = λ h is.
            commits_by image h (second_opens (slots_in image) o order (slots_in one) (slots_in c) h.header.sequence (sealed_header_bytes h)
            closes_first
            (tears o.second one c torn) (opens_in c h is)) c is;
      }

      module _ (two : Image) (second : Elsewhere (gate_sector o.second) 1 one two)
          (second_closed : two (gate_sector o.second) ≡ numbered_gate_bytes 0)
        where
          closes_second : ClosesGateOf o.second (slots_in one) (slots_in two)
          closes_second = closes o.second one two second second_closed

          pub third_keeps : (c : Image) → Elsewhere (gate_sector o.third) 1 two c → KeepsOrHasNone image c
          third_keeps c torn = record {
            elsewhere = λ i other.
                spared o.third order.third_low two c torn i other ∙ spared o.second order.second_low one two second i other
                ∙ spared o.first order.first_low image one first i other;
            committed = λ h is.
                absurd (third_opens (slots_in image) o order (slots_in one) (slots_in two) (slots_in c) h.header.sequence closes_first
                closes_second
                (tears o.third two c torn) (opens_in c h is).committed);
          }

          pub all_closed : (c : Image) → Elsewhere (gate_sector o.third) 1 two c → c (gate_sector o.third) ≡ numbered_gate_bytes 0 →
              AreClosed c
          all_closed c third third_closed = λ k low.
              elim (cases_eq k o.first) [
                | inl e ↦
                    ap (λ (i : ℕ). c (gate_sector i)) e
                    ∙ beside (gate_sector o.third) (gate_sector o.first) two c third
                    (λ e'. order.first_apart (same_gates o.third o.first e'))
                    ∙ beside (gate_sector o.second) (gate_sector o.first) one two second
                    (λ e'. order.apart (same_gates o.second o.first e'))
                    ∙ first_closed
                | inr ne ↦
                    elim (cases_eq k o.second) [
                      | inl e ↦
                          ap (λ (i : ℕ). c (gate_sector i)) e
                          ∙ beside (gate_sector o.third) (gate_sector o.second) two c third
                          (λ e'. order.second_apart (same_gates o.third o.second e'))
                          ∙ second_closed
                      | inr ne' ↦
                          let last : k ≡ o.third =
                          omega (
                            arith,
                            low,
                            ne,
                            ne',
                            order.first_low,
                            order.second_low,
                            order.third_low,
                            order.apart,
                            order.first_apart,
                            order.second_apart,
                          ) in
                          ap (λ (i : ℕ). c (gate_sector i)) last ∙ third_closed
                    ]
              ]

-- if all gates are closed, no header is committed
pub none_committed : (image : Image) → AreClosed image → CommitsNone image
none_committed image closed h is =
    let opens = opens_in image h is in
    let lost : Some h.header.sequence ≡ None =
    sym opens.committed.pair.counts.gate ∙ closed_gate (h.header.sequence % 3) image (closed (h.header.sequence % 3) (omega arith)) in
    cc

-- ---- at each moment

-- a run that closes a gate on a durable disk leaves only images that `keeps` allows
pub gate_run : {at : ℕ} {keeps : Image → Type 0} {old mid new : Disk} → Only mid.seen mid → LeavesOnly old mid keeps
    → ((c : Image) → Elsewhere at 1 mid.seen c → keeps c) → LeavesOnly mid new (λ c. IsTorn at 1 mid c) → LeavesOnly old new keeps
gate_run {at} {keeps} {old} {mid} {new} durable before here run =
    leaves_on {old = old} {mid = mid} {new = new} {P = keeps} before
    (leaves_weaker {old = mid} {new = new} {P = λ c. IsTorn at 1 mid c} keeps
    (λ c torn. here c (subst (λ (image : Image). Elsewhere at 1 image c) (agrees_is torn.0 mid.seen (durable torn.0 torn.1)) torn.2)) run)

-- a run that closes the first gate leaves only images that `keeps` allows
pub first_run : {at : ℕ} {keeps : Image → Type 0} {old new : Disk} → Only old.seen old → ((c : Image) → Elsewhere at 1 old.seen c → keeps c)
    → LeavesOnly old new (λ c. IsTorn at 1 old c) → LeavesOnly old new keeps
first_run {at} {keeps} {old} {new} durable here run =
    leaves_weaker {old = old} {new = new} {P = λ c. IsTorn at 1 old c} keeps
    (λ c torn. here c (subst (λ (image : Image). Elsewhere at 1 image c) (agrees_is torn.0 old.seen (durable torn.0 torn.1)) torn.2)) run

-- if each crash during a run leaves an image with P, a read then returns one with P
pub seen_has : {old new : Disk} {P : Image → Type 0} → LeavesOnly old new P → CountsNow new → new.may_leave new.seen → P new.seen
seen_has {old} {new} {P} run counts_now left = ends run counts_now new.seen left

-- an unchanged image has the same committed header
untouched : {image : Image} → KeepsOrHasNone image image
untouched = record { elsewhere = λ i _. refl; committed = λ h is. is }

pub keeps_same : {old new : Image} → Agrees new old → KeepsOrHasNone old new
keeps_same {old} {new} same = subst (KeepsOrHasNone old) (sym (agrees_is new old same)) untouched

-- a failed sync, or reads, leave only images that a crash could leave before
pub peek_run : {old new : Disk} → Peeks old new → LeavesOnly old new (λ c. WasKeptOrHasNone old c)
peek_run {old} {new} run = leaves_weaker {old = old} {new = new} {P = old.may_leave} (λ c. WasKeptOrHasNone old c)
    (λ c left. (c, left, untouched)) run

-- if closing follows a sync, a crash during either leaves an image that it could leave before, with the same committed header or none
pub closing_run : {old mid new : Disk} → old.may_leave old.seen → Agrees mid.seen old.seen
    → LeavesOnly old mid (λ c. WasKeptOrHasNone old c) → LeavesOnly mid new (λ c. KeepsOrHasNone mid.seen c) →
    LeavesOnly old new (λ c. WasKeptOrHasNone old c)
closing_run {old} {mid} {new} left same first second =
    leaves_on {old = old} {mid = mid} {new = new} {P = λ c. WasKeptOrHasNone old c} first
    (leaves_weaker {old = mid} {new = new} {P = λ c. KeepsOrHasNone mid.seen c} (λ c. WasKeptOrHasNone old c)
    (λ c is. (old.seen, left, subst (λ (image : Image). KeepsOrHasNone image c) (agrees_is mid.seen old.seen same) is)) second)
