-- The log in any version: what its two implementations say.
use Rattle.std.proofs.Common.{◌≡◌, ℕ, ◌+◌, ◌*◌, ◌/◌, ◌<◌, ◌≤◌, ◌^◌, ◌⊎◌, Bool, true, false, length, None, Some}
use Rattle.std.proofs.Common.{ap, refl, subst, sym, ◌∙◌, inl, inr, arith, ⊎_elim}
use Rattle.std.proofs.lemmas.Bool.{cases_lt}
use Rattle.device.specs.Calls.{Elsewhere}
use Rattle.device.specs.Disk.{Disk, Image}
use Rattle.device.specs.Moments.{LeavesOnly}
use Rattle.device.proofs.Moments.{leaves_weaker}
use Rattle.layout.specs.Header.{header_bytes}
use Rattle.layout.specs.Committed.{Commits, CommitsIf, CommitsUnsealed, HasNoSums, committed_bytes, committed_slot, option_at}
use Rattle.layout.specs.Gate.{gate_bytes}
use Rattle.layout.specs.Superblock.{IsPlan, Plan}
use Rattle.layout.specs.declared.gate.Gate.TheVariants.{Open}
use Rattle.layout.specs.sealed.Gate.{numbered_gate_bytes}
use Rattle.layout.specs.Version.{directory_length, row}
use Rattle.layout.specs.declared.sealed.header.SealedHeader.{SealedHeader}
use Rattle.layout.specs.declared.version.Version.{Version}
use Rattle.layout.specs.declared.version.Version.TheVariants.{One, Two, Three}
use Rattle.layout.specs.sealed.Header.{header_numbers}
use Rattle.layout.specs.sealed.Opening.{Commits as CommitsSealed, gate_sector as sealed_gate}
use Rattle.layout.specs.sealed.Sector.{AreWords}
use Rattle.layout.proofs.Halves.{half_lies}
use Rattle.layout.proofs.Versions.{fewer_entries}
use Rattle.ckpt_log.specs.AnyVersion.{CommitsOne, HasNew, IsOld, IsOldOrNew, KeepsOrHasNone, Precedes, SparesRest}
use Rattle.ckpt_log.specs.AnyVersion.{StaysCommitted, WasKeptOrHasNone, gate_at, gate_place, gate_row, header_at, header_row}
use Rattle.ckpt_log.specs.Closing as unsealed_closing
use Rattle.ckpt_log.specs.Commit as unsealed
use Rattle.ckpt_log.specs.sealed.Closing as sealed_closing
use Rattle.ckpt_log.specs.sealed.Directory.{TouchesAt}
use Rattle.ckpt_log.specs.sealed.Publish as sealed
use Rattle.ckpt_log.proofs.Commits.{sequence_of}
use Rattle.ckpt_log.proofs.Places.{half_behind, sealed_length}

-- ---- the numbers of a version

pub sealed_is : (v : Version) → (row v).sealed ≡ true → v ≡ Three
sealed_is One is = absurd (cc is)
sealed_is Two is = absurd (cc is)
sealed_is Three is = refl

pub plain_sequence : (v : Version) → (row v).sealed ≡ false → (row v).first_sequence ≡ 0
plain_sequence One is = refl
plain_sequence Two is = refl
plain_sequence Three is = absurd (cc is)

pub plain_first : (v : Version) → (row v).sealed ≡ false → (row v).first_home ≡ 5
plain_first One is = refl
plain_first Two is = refl
plain_first Three is = absurd (cc is)

pub first_home_inside : (p : Plan) → IsPlan p → (row p.version).first_home ≤ p.total
first_home_inside p fits =
    let first = half_behind p 0 fits in
    let lies = half_lies p 0 fits in
    omega (arith, first, lies.1)

-- ---- with seals

module _ (v : Version) (is : (row v).sealed ≡ true) where
  pub commits_to : (image : Image) (h : SealedHeader) → Commits v image h → CommitsSealed image h
  commits_to image h has = subst (λ (b : Bool). CommitsIf b image h) is has

  pub commits_from : (image : Image) (h : SealedHeader) → CommitsSealed image h → Commits v image h
  commits_from image h has = subst (λ (b : Bool). CommitsIf b image h) (sym is) has

  stays_from : (old new : Image) → sealed.StaysCommitted old new → StaysCommitted v old new
  stays_from old new stays h has = commits_from new h (stays h (commits_to old h has))

  pub one_to : (disk : Disk) → CommitsOne v disk → sealed.CommitsOne disk
  one_to disk one c left h has = commits_to c h (one c left h (commits_from disk.seen h has))

  header_place_is : (h : SealedHeader) → header_at v h ≡ sealed.header_at h
  header_place_is h = ap (λ (w : Version). header_at w h) (sealed_is v is) ∙ omega arith

  gate_place_is : (h : SealedHeader) → gate_at v h ≡ sealed.gate_at h
  gate_place_is h = ap (λ (w : Version). gate_at w h) (sealed_is v is) ∙ omega arith

  pub spares_from : (h : SealedHeader) (old new : Image) → sealed.SparesRest h old new → SparesRest v h old new
  spares_from h old new spares i header gate = spares i (λ e. header (e ∙ sym (header_place_is h))) (λ e. gate (e ∙ sym (gate_place_is h)))

  pub new_from : (h : SealedHeader) (old new : Image) → sealed.HasNew h old new → HasNew v h old new
  new_from h old new has = record {
    written =
        ap (λ (i : ℕ). new i) (header_place_is h) ∙ has.written ∙ ap (λ (b : Bool). header_row b h) (sym is);
    elsewhere = spares_from h old new has.elsewhere;
    committed = commits_from new h has.committed;
  }

  old_from : (h : SealedHeader) (disk : Disk) (c : Image) → sealed.IsOld h disk c → IsOld v h disk c
  old_from h disk c has = record {
    could_be = (has.could_be.0, has.could_be.1, spares_from h has.could_be.0 c has.could_be.2);
    committed = stays_from disk.seen c has.committed;
  }

  pub either_from : (h : SealedHeader) (old new : Disk) → LeavesOnly old new (λ c. sealed.IsOldOrNew h old c) →
      LeavesOnly old new (λ c. IsOldOrNew v h old c)
  either_from h old new run =
      leaves_weaker {old = old} {new = new} {P = λ c. sealed.IsOldOrNew h old c} (λ c. IsOldOrNew v h old c)
      (λ c. ⊎_elim (λ has. inl (old_from h old c has)) (λ has. inr (new_from h old.seen c has))) run

  pub gate_from : (h : SealedHeader) (image : Image) → image (sealed.gate_at h) ≡ numbered_gate_bytes h.header.sequence →
      image (gate_at v h) ≡ gate_row (row v).sealed h
  gate_from h image opened =
      ap (λ (i : ℕ). image i) (gate_place_is h) ∙ opened ∙ ap (λ (b : Bool). gate_row b h) (sym is)

  -- closing
  spares_gates : (old new : Image) → ((i : ℕ) → ((k : ℕ) → k < 3 → i ≡ sealed_gate k → ⊥) → new i ≡ old i) →
      (i : ℕ) → ((k : ℕ) → k < (row v).header_slots → i ≡ gate_place v k → ⊥) → new i ≡ old i
  spares_gates old new spares i other =
      spares i (λ k lt e.
      let slots : (row v).header_slots ≡ 3 = ap (λ (w : Version). (row w).header_slots) (sealed_is v is) in
      let place : gate_place v k ≡ sealed_gate k = ap (λ (w : Version). gate_place w k) (sealed_is v is) ∙ omega arith in
      other k (omega (arith, lt, slots)) (e ∙ sym place))

  pub keeps_from : (old new : Image) → sealed_closing.KeepsOrHasNone old new → KeepsOrHasNone v old new
  keeps_from old new keeps = record {
    elsewhere = spares_gates old new keeps.elsewhere;
    committed = stays_from new old keeps.committed;
  }

  pub was_kept_from : (old new : Disk) → LeavesOnly old new (λ c. sealed_closing.WasKeptOrHasNone old c) →
      LeavesOnly old new (λ c. WasKeptOrHasNone v old c)
  was_kept_from old new run =
      leaves_weaker {old = old} {new = new} {P = λ c. sealed_closing.WasKeptOrHasNone old c} (λ c. WasKeptOrHasNone v old c)
      (λ c has. (has.0, has.1, keeps_from has.0 c has.2)) run

  -- directories
  pub touches_from : (at place n : ℕ) (old new : Disk) → at ≡ place → TouchesAt at ((n + 29) / 30) old new →
      TouchesAt place (directory_length v n) old new
  touches_from at place n old new e touches =
      subst (λ (k : ℕ). TouchesAt place k old new) (sym (sealed_length v n is))
      (subst (λ (i : ℕ). TouchesAt i ((n + 29) / 30) old new) e touches)

  pub inside_by : (at n most total sectors : ℕ) → n ≤ most → at + directory_length v most ≤ total → total ≤ sectors →
      at + (n + 29) / 30 ≤ sectors
  inside_by at n most total sectors few inside le =
      let fewer = fewer_entries v n most few in
      let all = sealed_length v n is in
      omega (arith, few, inside, le, fewer, all)

-- ---- without seals

module _ (v : Version) (is : (row v).sealed ≡ false) where
  pub plain_to : (image : Image) (h : SealedHeader) → Commits v image h → CommitsUnsealed image h
  plain_to image h has = subst (λ (b : Bool). CommitsIf b image h) is has

  pub plain_from : (image : Image) (h : SealedHeader) → CommitsUnsealed image h → Commits v image h
  plain_from image h has = subst (λ (b : Bool). CommitsIf b image h) (sym is) has

  plain_stays : (old new : Image) → committed_bytes new ≡ committed_bytes old → StaysCommitted v old new
  plain_stays old new same h has =
      let was = plain_to old h has in
      plain_from new h (record { spelt = same ∙ was.spelt; sums = was.sums; fits = was.fits })

  pub plain_one : (disk : Disk) (h : SealedHeader) → Precedes v disk.seen h → CommitsOne v disk → unsealed.CommitsOne disk
  plain_one disk h next one c left =
      (plain_to c next.0 (one c left next.0 next.1)).spelt ∙ sym (plain_to disk.seen next.0 next.1).spelt

  pub plain_precedes : (image : Image) (h : SealedHeader) → Precedes v image h → unsealed.Precedes image h.header
  plain_precedes image h next =
      let was = plain_to image next.0 next.1 in
      let small : next.0.header.sequence < 2 ^ 64 = was.fits 1 0 (omega arith) in
      (header_bytes next.0.header, was.spelt, ap (λ (n : ℕ). n + 1) (sequence_of next.0.header small) ∙ next.2)

plain_header_place : (v : Version) (h : SealedHeader) → (row v).sealed ≡ false → header_at v h ≡ unsealed.header_sector h.header
plain_header_place One h is = omega arith
plain_header_place Two h is = omega arith
plain_header_place Three h is = absurd (cc is)

plain_gate_place : (v : Version) (h : SealedHeader) → (row v).sealed ≡ false → gate_at v h ≡ unsealed.header_sector h.header + 1
plain_gate_place One h is = omega arith
plain_gate_place Two h is = omega arith
plain_gate_place Three h is = absurd (cc is)

plain_gates : (v : Version) (k : ℕ) → (row v).sealed ≡ false → k < 2 → (k < (row v).header_slots) × (gate_place v k ≡ 2 + 2 * k)
plain_gates One k is lt = (lt, omega arith)
plain_gates Two k is lt = (lt, omega arith)
plain_gates Three k is lt = absurd (cc is)

-- the two sectors of a slot
beside : (at i : ℕ) (d c : Image) → Elsewhere at 2 d c → (i ≡ at → ⊥) → (i ≡ at + 1 → ⊥) → c i ≡ d i
beside at i d c torn header gate =
    elim (cases_lt i at) [
      | inl lt ↦ torn.before i lt
      | inr ge ↦ torn.after i (omega (arith, ge, header, gate))
    ]

module _ (v : Version) (is : (row v).sealed ≡ false) where
  pub plain_spares : (h : SealedHeader) (old new : Image) → Elsewhere (unsealed.header_sector h.header) 2 old new → SparesRest v h old new
  plain_spares h old new e i header gate =
      beside (unsealed.header_sector h.header) i old new e (λ here. header (here ∙ sym (plain_header_place v h is)))
      (λ here. gate (here ∙ sym (plain_gate_place v h is)))

  pub plain_new : (h : SealedHeader) (old new : Image) → HasNoSums h → AreWords (header_numbers h) → unsealed.HasNew h.header old new →
      HasNew v h old new
  plain_new h old new sums fits has = record {
    written =
        ap (λ (i : ℕ). new i) (plain_header_place v h is) ∙ has.written ∙ ap (λ (b : Bool). header_row b h) (sym is);
    elsewhere = plain_spares h old new has.elsewhere;
    committed = plain_from v is new h (record { spelt = has.committed; sums = sums; fits = fits });
  }

  pub plain_gate : (h : SealedHeader) (image : Image) → image (unsealed.gate_sector h.header) ≡ gate_bytes Open →
      image (gate_at v h) ≡ gate_row (row v).sealed h
  plain_gate h image opened =
      let place : unsealed.header_sector h.header + 1 ≡ unsealed.gate_sector h.header = omega arith in
      ap (λ (i : ℕ). image i) (plain_gate_place v h is ∙ place) ∙ opened ∙ ap (λ (b : Bool). gate_row b h) (sym is)

  plain_old : (h : SealedHeader) (disk : Disk) (c : Image) → unsealed.IsOld h.header disk c → IsOld v h disk c
  plain_old h disk c has = record {
    could_be = (has.could_be.0, has.could_be.1, plain_spares h has.could_be.0 c has.could_be.2);
    committed = plain_stays v is disk.seen c has.committed;
  }

  pub plain_either : (h : SealedHeader) (old new : Disk) → HasNoSums h → AreWords (header_numbers h) →
      LeavesOnly old new (λ c. unsealed.IsOld h.header old c ⊎ unsealed.HasNew h.header old.seen c) →
      LeavesOnly old new (λ c. IsOldOrNew v h old c)
  plain_either h old new sums fits run =
      leaves_weaker {old = old} {new = new} {P = λ c. unsealed.IsOld h.header old c ⊎ unsealed.HasNew h.header old.seen c}
      (λ c. IsOldOrNew v h old c)
      (λ c. ⊎_elim (λ has. inl (plain_old h old c has)) (λ has. inr (plain_new h old.seen c sums fits has))) run

  -- closing
  no_header : (image : Image) (h : SealedHeader) → (committed_slot image ≡ None) → CommitsUnsealed image h → ⊥
  no_header image h none has =
      let lost : None ≡ Some (header_bytes h.header) = sym (ap (option_at image) none) ∙ has.spelt in
      cc

  kept_or_none : (old new : Image) → (committed_bytes new ≡ committed_bytes old) ⊎ (committed_slot new ≡ None) → StaysCommitted v new old
  kept_or_none old new how h has =
      elim how [
        | inl same ↦ plain_stays v is new old (sym same) h has
        | inr none ↦ absurd (no_header new h none (plain_to v is new h has))
      ]

  pub plain_keeps : (old new : Image) → unsealed_closing.KeepsOrHasNone old new → KeepsOrHasNone v old new
  plain_keeps old new keeps = record {
    elsewhere = λ i other.
        let first = plain_gates v 0 is (omega arith) in
        let second = plain_gates v 1 is (omega arith) in
        keeps.elsewhere i (λ e. other 0 first.0 (e ∙ sym first.1)) (λ e. other 1 second.0 (e ∙ sym second.1));
    committed = kept_or_none old new keeps.committed;
  }

  pub plain_was_kept : (old new : Disk) → LeavesOnly old new (λ c. unsealed_closing.WasKeptOrHasNone old c) →
      LeavesOnly old new (λ c. WasKeptOrHasNone v old c)
  plain_was_kept old new run =
      leaves_weaker {old = old} {new = new} {P = λ c. unsealed_closing.WasKeptOrHasNone old c} (λ c. WasKeptOrHasNone v old c)
      (λ c has. (has.0, has.1, plain_keeps has.0 c has.2)) run
