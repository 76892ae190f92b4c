-- Which header is committed during and after a publish.
use Rattle.std.proofs.Common.{◌≡◌, ℕ, ◌+◌, ◌*◌, ◌%◌, ◌<◌, ◌^◌, ◌⊎◌, List, ap, subst, sym, ◌∙◌, inl, inr, arith, [], ◌∷◌}
use Rattle.std.specs.Prelude.{codes}
use Rattle.std.proofs.lemmas.Bool.{cases_lt}
use Rattle.std.proofs.lemmas.List.Elements.{All-cons, All-nil}
use Rattle.byteorder.specs.Endian.{little_number}
use Rattle.device.specs.Calls.{Elsewhere, IsTorn, Only}
use Rattle.device.specs.Disk.{Disk, Image}
use Rattle.device.specs.Moments.{LeavesOnly}
use Rattle.device.proofs.Images.{agrees_is}
use Rattle.device.proofs.Moments.{leaves_on, leaves_weaker}
use Rattle.header_slots.specs.Publish.{OthersStay, TearsGate, TearsHeader}
use Rattle.header_slots.specs.Slots.{Opens}
use Rattle.header_slots.proofs.Publishing.{gate_commits, header_commits_nothing, published_commits}
use Rattle.layout.specs.declared.sealed.header.SealedHeader.{SealedHeader}
use Rattle.layout.specs.sealed.Gate.{HasNumber, numbered_gate_bytes}
use Rattle.layout.specs.sealed.Header.{sealed_header_bytes, header_numbers}
use Rattle.layout.specs.sealed.Sector.{AreWords}
use Rattle.layout.proofs.NumberedGates.{written_has}
use Rattle.layout.specs.sealed.Opening.{Commits, gate_sector, header_sector}
use Rattle.ckpt_log.specs.sealed.Publish.{CommitsOne, HasNew, IsInOrder, IsOld, IsOldOrNew, Precedes, SparesRest, StaysCommitted, gate_at, header_at}
use Rattle.layout.proofs.SealedSlots.{are_slots, one_commits, opens_in, same_gate, same_slot, slots_in}

-- ---- one sector is torn

-- a write of one sector changes no other
pub beside : (at i : ℕ) (d c : Image) → Elsewhere at 1 d c → (i ≡ at → ⊥) → c i ≡ d i
beside at i d c torn other =
    elim (cases_lt i at) [
      | inl lt ↦ torn.before i lt
      | inr ge ↦ torn.after i (omega (arith, ge, other))
    ]

-- the headers of different slots are in different sectors
same_headers : (j k : ℕ) → header_sector k ≡ header_sector j → k ≡ j
same_headers j k e = let is : 8 + 16 * k ≡ 8 + 16 * j = e in omega (arith, is)

pub same_gates : (j k : ℕ) → gate_sector k ≡ gate_sector j → k ≡ j
same_gates j k e = let is : 16 + 16 * k ≡ 16 + 16 * j = e in omega (arith, is)

pub no_gate : (j k : ℕ) → header_sector k ≡ gate_sector j → ⊥
no_gate j k e = let is : 8 + 16 * k ≡ 16 + 16 * j = e in omega (arith, is)

no_header : (j k : ℕ) → gate_sector k ≡ header_sector j → ⊥
no_header j k e = let is : 16 + 16 * k ≡ 8 + 16 * j = e in omega (arith, is)

-- a write of a slot's header changes no other slot
others_by_header : (j : ℕ) (d c : Image) → Elsewhere (header_sector j) 1 d c → OthersStay j (slots_in d) (slots_in c)
others_by_header j d c torn k other =
    same_slot c d (slots_in c) (slots_in d) k (are_slots c) (are_slots d)
    (beside (header_sector j) (header_sector k) d c torn (λ e. other (same_headers j k e)))
    (beside (header_sector j) (gate_sector k) d c torn (no_header j k))

-- a write of a slot's gate changes no other slot
pub others_by_gate : (j : ℕ) (d c : Image) → Elsewhere (gate_sector j) 1 d c → OthersStay j (slots_in d) (slots_in c)
others_by_gate j d c torn k other =
    same_slot c d (slots_in c) (slots_in d) k (are_slots c) (are_slots d)
    (beside (gate_sector j) (header_sector k) d c torn (no_gate j k))
    (beside (gate_sector j) (gate_sector k) d c torn (λ e. other (same_gates j k e)))

-- ---- the next header and its gate are written

module _ (before h : SealedHeader) (next : before.header.sequence + 1 ≡ h.header.sequence) where
  abbrev s : ℕ
  s = before.header.sequence

  slot : h.header.sequence % 3 ≡ (s + 1) % 3
  slot = ap (λ (n : ℕ). n % 3) (sym next)

  -- the old header stays committed while the new one is being written
  pub header_torn : (d c : Image) → Commits d before → Elsewhere (header_at h) 1 d c → Commits c before
  header_torn d c was torn =
      let here : Elsewhere (header_sector ((s + 1) % 3)) 1 d c = subst (λ (k : ℕ). Elsewhere (header_sector k) 1 d c) slot torn in
      let tears : TearsHeader s (slots_in d) (slots_in c) = record {
        others = others_by_header ((s + 1) % 3) d c here;
        gate =
            same_gate c d (slots_in c) (slots_in d) ((s + 1) % 3) (are_slots c) (are_slots d)
            (beside (header_sector ((s + 1) % 3)) (gate_sector ((s + 1) % 3)) d c here (no_header ((s + 1) % 3) ((s + 1) % 3)));
      } in
      record {
        slots = slots_in c;
        are = are_slots c;
        opens = header_commits_nothing (slots_in d) (slots_in c) s (sealed_header_bytes before) (opens_in d before was) tears;
        fits = was.fits;
      }

  -- while the new gate is being written, the old or the new header is committed
  module _ (fits : AreWords (header_numbers h)) (m c : Image) (was : Commits m before) (written : m (header_at h) ≡ sealed_header_bytes h)
      (torn : Elsewhere (gate_at h) 1 m c) where
    there : c (header_sector ((s + 1) % 3)) ≡ sealed_header_bytes h
    there =
        ap (λ (k : ℕ). c (header_sector k)) (sym slot)
        ∙ beside (gate_at h) (header_at h) m c torn (no_gate (h.header.sequence % 3) (h.header.sequence % 3)) ∙ written

    tears_gate : TearsGate s (sealed_header_bytes h) (slots_in m) (slots_in c)
    tears_gate = record {
      others = others_by_gate ((s + 1) % 3) m c (subst (λ (k : ℕ). Elsewhere (gate_sector k) 1 m c) slot torn);
      header = ((are_slots c).header ((s + 1) % 3) (s + 1)).1 (h, fits, there, sym next);
      bytes = there;
    }

    is_new : Opens (slots_in c) (s + 1) (sealed_header_bytes h) → Commits c h
    is_new opens = record {
      slots = slots_in c;
      are = are_slots c;
      opens = subst (λ (n : ℕ). Opens (slots_in c) n (sealed_header_bytes h)) next opens;
      fits = fits;
    }

    pub gate_torn : Commits c before ⊎ Commits c h
    gate_torn =
        elim (gate_commits (slots_in m) (slots_in c) s (sealed_header_bytes before) (sealed_header_bytes h) (opens_in m before was)
        tears_gate) [
          | inl opens ↦ inl (record { slots = slots_in c; are = are_slots c; opens = opens; fits = was.fits })
          | inr opens ↦ inr (is_new opens)
        ]

    pub gate_written : c (gate_at h) ≡ numbered_gate_bytes h.header.sequence → Commits c h
    gate_written gate =
        let small : h.header.sequence < 2 ^ 64 = fits 1 0 (omega arith) in
        let has : HasNumber (c (gate_at h)) h.header.sequence =
        subst (λ (row : List ℕ). HasNumber row h.header.sequence) (sym gate) (written_has h.header.sequence (omega (arith, next)) small).0
        in
        let here : HasNumber (c (gate_sector ((s + 1) % 3))) (s + 1) =
        subst (λ (k : ℕ). HasNumber (c (gate_sector k)) (s + 1)) slot (subst (HasNumber (c (gate_at h))) (sym next) has) in
        is_new (published_commits (slots_in m) (slots_in c) s (sealed_header_bytes before) (sealed_header_bytes h) (opens_in m before was)
        (record {
          others = tears_gate.others;
          header = tears_gate.header;
          bytes = tears_gate.bytes;
          gate = ((are_slots c).gate ((s + 1) % 3) (s + 1)).1 here;
        }))

-- ---- a commit after unsynced writes

-- if a header is committed in both images, each header committed in the first is committed in the second
stays_by : (seen c : Image) (before : SealedHeader) → Commits seen before → Commits c before → StaysCommitted seen c
stays_by seen c before was now = λ g is. subst (λ (h : SealedHeader). Commits c h) (one_commits seen before g was is) now

pub spares_header : (h : SealedHeader) (d c : Image) → Elsewhere (header_at h) 1 d c → SparesRest h d c
spares_header h d c torn = λ i other _. beside (header_at h) i d c torn other

is_old : {h : SealedHeader} {disk : Disk} {c : Image} → CommitsOne disk → Precedes disk.seen h → IsTorn (header_at h) 1 disk c →
    IsOld h disk c
is_old {h} {disk} {c} one next torn = record {
  could_be = (torn.0, torn.1, spares_header h torn.0 c torn.2);
  committed = stays_by disk.seen c next.0 next.1 (header_torn next.0 h next.2 torn.0 c (one torn.0 torn.1 next.0 next.1) torn.2);
}

pub header_run : {h : SealedHeader} {at : ℕ} {old new : Disk} → at ≡ header_at h → CommitsOne old → Precedes old.seen h
    → LeavesOnly old new (λ c. IsTorn at 1 old c) → LeavesOnly old new (λ c. IsOldOrNew h old c)
header_run {h} {at} {old} {new} place one next run =
    leaves_weaker {old = old} {new = new} {P = λ c. IsTorn at 1 old c} (λ c. IsOldOrNew h old c)
    (λ c torn. inl (is_old one next (subst (λ (i : ℕ). IsTorn i 1 old c) place torn))) run

pub header_order : (h : SealedHeader) {at : ℕ} {old new : Disk} → at ≡ header_at h → LeavesOnly old new (λ c. IsTorn at 1 old c)
    → LeavesOnly old new (λ c. IsInOrder h old c)
header_order h {at} {old} {new} place run =
    leaves_weaker {old = old} {new = new} {P = λ c. IsTorn at 1 old c} (λ c. IsInOrder h old c)
    (λ c torn. inl (subst (λ (i : ℕ). IsTorn i 1 old c) place torn)) run

-- the new header is durable, and so is all that was written before
pub record IsReady (h : SealedHeader) (old mid : Disk) : Type 0 where
  pub fits : AreWords (header_numbers h)
  pub one : CommitsOne old
  pub next : Precedes old.seen h
  pub left : old.may_leave old.seen
  pub elsewhere : Elsewhere (header_at h) 1 old.seen mid.seen
  pub written : mid.seen (header_at h) ≡ sealed_header_bytes h
  pub durable : Only mid.seen mid

pub make_ready : (h : SealedHeader) (at : ℕ) (row : List ℕ) (old mid : Disk) → at ≡ header_at h → AreWords (header_numbers h) →
    CommitsOne old → Precedes old.seen h → old.may_leave old.seen → Elsewhere at 1 old.seen mid.seen → mid.seen at ≡ row →
    row ≡ sealed_header_bytes h → Only mid.seen mid → IsReady h old mid
make_ready h at row old mid place fits one next left torn written is durable = record {
  fits = fits;
  one = one;
  next = next;
  left = left;
  elsewhere = subst (λ (i : ℕ). Elsewhere i 1 old.seen mid.seen) place torn;
  written = subst (λ (i : ℕ). mid.seen i ≡ sealed_header_bytes h) place (written ∙ is);
  durable = durable;
}

module _ {h : SealedHeader} {old mid : Disk} (ready : IsReady h old mid) where
  -- the old header is still committed in `mid`
  still : Commits mid.seen ready.next.0
  still = header_torn ready.next.0 h ready.next.2 old.seen mid.seen ready.next.1 ready.elsewhere

  torn_there : {c : Image} → IsTorn (gate_at h) 1 mid c → Elsewhere (gate_at h) 1 mid.seen c
  torn_there {c} torn = subst (λ (image : Image). Elsewhere (gate_at h) 1 image c) (agrees_is torn.0 mid.seen (ready.durable torn.0 torn.1))
      torn.2

  pub spares : {c : Image} → Elsewhere (gate_at h) 1 mid.seen c → SparesRest h old.seen c
  spares {c} torn = λ i other gate. beside (gate_at h) i mid.seen c torn gate
      ∙ beside (header_at h) i old.seen mid.seen ready.elsewhere other

  stands : {c : Image} → Elsewhere (gate_at h) 1 mid.seen c → c (header_at h) ≡ sealed_header_bytes h
  stands {c} torn = beside (gate_at h) (header_at h) mid.seen c torn (no_gate (h.header.sequence % 3) (h.header.sequence % 3))
      ∙ ready.written

  either : {c : Image} → Elsewhere (gate_at h) 1 mid.seen c → IsOldOrNew h old c
  either {c} torn =
      elim (gate_torn ready.next.0 h ready.next.2 ready.fits mid.seen c still ready.written torn) [
        | inl stays ↦
            inl (record { could_be = (old.seen, ready.left, spares torn); committed = stays_by old.seen c ready.next.0 ready.next.1 stays })
        | inr new ↦ inr (record { written = stands torn; elsewhere = spares torn; committed = new })
      ]

  pub gate_run : {at : ℕ} {new : Disk} → at ≡ gate_at h → LeavesOnly old mid (λ c. IsOldOrNew h old c)
      → LeavesOnly mid new (λ c. IsTorn at 1 mid c) → LeavesOnly old new (λ c. IsOldOrNew h old c)
  gate_run {at} {new} place first run =
      leaves_on {old = old} {mid = mid} {new = new} {P = λ c. IsOldOrNew h old c} first
      (leaves_weaker {old = mid} {new = new} {P = λ c. IsTorn at 1 mid c} (λ c. IsOldOrNew h old c)
      (λ c torn. either (torn_there (subst (λ (i : ℕ). IsTorn i 1 mid c) place torn))) run)

  pub gate_order : {at : ℕ} {new : Disk} → at ≡ gate_at h → LeavesOnly old mid (λ c. IsInOrder h old c)
      → LeavesOnly mid new (λ c. IsTorn at 1 mid c) → LeavesOnly old new (λ c. IsInOrder h old c)
  gate_order {at} {new} place first run =
      leaves_on {old = old} {mid = mid} {new = new} {P = λ c. IsInOrder h old c} first
      (leaves_weaker {old = mid} {new = new} {P = λ c. IsTorn at 1 mid c} (λ c. IsInOrder h old c)
      (λ c torn. let there = torn_there (subst (λ (i : ℕ). IsTorn i 1 mid c) place torn) in inr (stands there, spares there)) run)

  pub has_new : {c : Image} → Elsewhere (gate_at h) 1 mid.seen c → c (gate_at h) ≡ numbered_gate_bytes h.header.sequence →
      HasNew h old.seen c
  has_new {c} torn gate = record {
    written = stands torn;
    elsewhere = spares torn;
    committed = gate_written ready.next.0 h ready.next.2 ready.fits mid.seen c still ready.written torn gate;
  }

-- on a durable disk each crash leaves the same committed header
pub durable_one : (disk : Disk) → Only disk.seen disk → CommitsOne disk
durable_one disk only = λ c left h is. subst (λ (image : Image). Commits image h) (sym (agrees_is c disk.seen (only c left))) is

-- ---- headers whose numbers fit 64 bits

abbrev Fits : ℕ → Type 0
Fits n = n < 2 ^ 64

pub words_of : (h : SealedHeader) → h.header.sequence < 2 ^ 64 → h.header.generation < 2 ^ 64 → h.header.entries < 2 ^ 64 →
    h.header.age < 2 ^ 64 → h.root.a < 2 ^ 64 → h.root.b < 2 ^ 64 → h.root.c < 2 ^ 64 → h.directory.a < 2 ^ 64 → h.directory.b < 2 ^ 64 →
    h.directory.c < 2 ^ 64
    → AreWords (header_numbers h)
words_of h s g e age a b c x y z =
    let z0 : List ℕ = h.directory.c ∷ [] in
    let y0 : List ℕ = h.directory.b ∷ z0 in
    let x0 : List ℕ = h.directory.a ∷ y0 in
    let c0 : List ℕ = h.root.c ∷ x0 in
    let b0 : List ℕ = h.root.b ∷ c0 in
    let a0 : List ℕ = h.root.a ∷ b0 in
    let age0 : List ℕ = h.header.age ∷ a0 in
    let e0 : List ℕ = h.header.entries ∷ age0 in
    let g0 : List ℕ = h.header.generation ∷ e0 in
    let s0 : List ℕ = h.header.sequence ∷ g0 in
    All-cons Fits (little_number 8 (codes "EROSHEAD")) s0 (omega arith) (
    All-cons Fits h.header.sequence g0 s (
    All-cons Fits h.header.generation e0 g (
    All-cons Fits h.header.entries age0 e (
    All-cons Fits h.header.age a0 age (
    All-cons Fits h.root.a b0 a (
    All-cons Fits h.root.b c0 b (
    All-cons Fits h.root.c x0 c (
    All-cons Fits h.directory.a y0 x (
    All-cons Fits h.directory.b z0 y (
    All-cons Fits h.directory.c [] z (
    All-nil Fits)))))))))))
