-- What a crash leaves while the gates of the old image are closed.
use Rattle.image_writer.proofs.Names.{ℕ, Bool, true, false, ap, sym, subst, refl, inl, inr, arith, ⊎_elim, Disk, Image, Elsewhere, LeavesOnly, leaves_on}
use Rattle.image_writer.proofs.Names.{leaves_weaker, agrees_is, Plan, IsPlan, Version, row, gate_place, GatesAreClosed, HasNoHeader, HasNoneBy, IsBeforeOrNone}
use Rattle.image_writer.proofs.Names.{IsClosedBy, IsNamed, IsShut, KeepsAs, KeepsImage, SameHeaderBy, SparesGates, superblock_bytes, List, cases_eq, false≢true}
use Rattle.image_writer.proofs.Names.{IsTorn, Narrows, Only, Elapses, Peeks, OnlyNow, goes_on, started, Err, Ok, OnOk, is_open, HasMark, IsPlanRefused}
use Rattle.image_writer.proofs.Names.{BadImage, SealedHeader, One, Two, Three, numbered_gate_bytes, Commits, gate_sector, one_commits, marked, one_plan}
use Rattle.image_writer.proofs.Names.{KeepsOrHasNone, WasKeptOrHasNone, commits_from, commits_to, plain_keeps, number, words_bytes, AreZeros, SparesAll}
use Rattle.std.proofs.Common.{◌≡◌, ◌⊎◌, ◌+◌, ◌*◌, ◌<◌, ◌∙◌}
use Rattle.std.specs.Prelude.{Result, if◌then◌else◌}
use Rattle.layout.specs.declared.bad_image.BadImage.TheVariants as bad
use Rattle.ckpt_log.specs.Closing.{AreClosed as AreClosedPlain, KeepsOrHasNone as KeepsPlain, WasKeptOrHasNone as WasKeptPlain}
use Rattle.ckpt_log.specs.sealed.Closing.{AreClosed as AreClosedSealed}
use Rattle.ckpt_log.proofs.Closings.{none_committed as none_plain}
use Rattle.ckpt_log.proofs.SealedClosings.{none_committed as none_sealed}
use Rattle.image_writer.proofs.CommittedOrNone.{commits_or_not}

-- ---- the gates of the versions

sealed_place : (k : ℕ) → gate_sector k ≡ gate_place Three k
sealed_place k = omega arith

-- with closed gates, no header is committed
pub none_by : (v : Version) (c : Image) → GatesAreClosed v c → HasNoneBy (row v).sealed c
none_by One c closed = none_plain c (record { first = closed 0 (omega arith); second = closed 1 (omega arith) })
none_by Two c closed = none_plain c (record { first = closed 0 (omega arith); second = closed 1 (omega arith) })
none_by Three c closed =
    none_sealed c (λ k lt. subst (λ (i : ℕ). c i ≡ numbered_gate_bytes 0) (sym (sealed_place k)) (closed k lt))

plain_closed : (c : Image) → AreClosedPlain c → (k : ℕ) → k < 2 → is_open (c (1 * (2 + 2 * k))) ≡ false
plain_closed c closed k lt = elim (cases_eq k 0) [
  | inl e ↦ subst (λ (j : ℕ). is_open (c (1 * (2 + 2 * j))) ≡ false) (sym e) closed.first
  | inr ne ↦
      let one : 1 ≡ k = omega (arith, lt, ne) in
      subst (λ (j : ℕ). is_open (c (1 * (2 + 2 * j))) ≡ false) one closed.second
]

-- the gates are closed, by what the log says
pub closed_from : (v : Version) (c : Image) → ((row v).sealed ≡ false → AreClosedPlain c) → ((row v).sealed ≡ true → AreClosedSealed c) →
    GatesAreClosed v c
closed_from One c plain sealed = plain_closed c (plain refl)
closed_from Two c plain sealed = plain_closed c (plain refl)
closed_from Three c plain sealed = λ k lt. subst (λ (i : ℕ). c i ≡ numbered_gate_bytes 0) (sealed_place k) (sealed refl k lt)

-- versions that both have seals, or both none, have the same gates
pub same_gates : (u v : Version) (c : Image) → (row u).sealed ≡ (row v).sealed → GatesAreClosed v c → GatesAreClosed u c
same_gates One One c e closed = closed
same_gates One Two c e closed = closed
same_gates One Three c e closed = absurd (cc e)
same_gates Two One c e closed = closed
same_gates Two Two c e closed = closed
same_gates Two Three c e closed = absurd (cc e)
same_gates Three One c e closed = absurd (cc e)
same_gates Three Two c e closed = absurd (cc e)
same_gates Three Three c e closed = closed

-- gates lie between the superblock and sector 56
pub gates_low : (v : Version) (k : ℕ) → k < (row v).header_slots → (0 < gate_place v k) × (gate_place v k < 56)
gates_low One k lt = (omega arith, omega (arith, lt))
gates_low Two k lt = (omega arith, omega (arith, lt))
gates_low Three k lt = (omega arith, omega (arith, lt))

-- one of two versions has seals, the other has none
pub record AreOther (v w : Version) : Type 0 where
  pub sealed : (row v).sealed ≡ false → (row w).sealed ≡ true
  pub plain : (row v).sealed ≡ true → (row w).sealed ≡ false

-- then they have no gate in common
gates_apart : (v w : Version) (j k : ℕ) → AreOther v w → j < (row v).header_slots → k < (row w).header_slots →
    gate_place v j ≡ gate_place w k → ⊥
gates_apart One One j k other lt lt' e = false≢true (other.sealed refl)
gates_apart One Two j k other lt lt' e = false≢true (other.sealed refl)
gates_apart One Three j k other lt lt' e = omega (arith, e, lt)
gates_apart Two One j k other lt lt' e = false≢true (other.sealed refl)
gates_apart Two Two j k other lt lt' e = false≢true (other.sealed refl)
gates_apart Two Three j k other lt lt' e = omega (arith, e, lt)
gates_apart Three One j k other lt lt' e = omega (arith, e, lt')
gates_apart Three Two j k other lt lt' e = omega (arith, e, lt')
gates_apart Three Three j k other lt lt' e = false≢true (sym (other.plain refl))

-- ---- a change of gates

pub superblock_stays : (v : Version) (old new : Image) → SparesGates v old new → new 0 ≡ old 0
superblock_stays v old new spares = spares 0 (λ k lt e. let low = (gates_low v k lt).0 in omega (arith, e, low))

pub gates_elsewhere : (v : Version) (old new : Image) → SparesGates v old new → Elsewhere 1 55 old new
gates_elsewhere v old new spares = record {
  before = λ i lt. spares i (λ k lt' e. let low = (gates_low v k lt').0 in omega (arith, e, low, lt));
  after = λ i le. spares i (λ k lt' e. let high = (gates_low v k lt').1 in omega (arith, e, high, le));
}

-- the same version is named
named_still : (v : Version) (old new : Image) → new 0 ≡ old 0 → IsNamed old v → IsNamed new v
named_still v old new same named p fits spelt = named p fits (sym same ∙ spelt)

-- if an image names a version, in which no header is committed, it has no header
none_named : (v : Version) (c : Image) → IsNamed c v → HasNoneBy (row v).sealed c → HasNoHeader c
none_named v c named none p fits spelt =
    subst (λ (w : Version). HasNoneBy (row w).sealed c) (sym (named p fits spelt)) none

-- ---- while the gates of the image's version are being closed

-- an image of a named version is kept
kept_named : (v : Version) (old new : Image) → IsNamed old v → KeepsAs v old new → KeepsImage old new
kept_named v old new named keeps = record {
  elsewhere = λ i other. keeps.elsewhere i (other v);
  kept = λ p fits spelt. subst (λ (w : Version). KeepsAs w old new) (sym (named p fits spelt)) keeps;
}

kept_plain : (v : Version) (image c : Image) → (row v).sealed ≡ false → IsNamed image v → KeepsPlain image c →
    KeepsImage image c ⊎ HasNoHeader c
kept_plain v image c plain named keeps =
    let spares = (plain_keeps v plain image c keeps).elsewhere in
    ⊎_elim (λ same. inl (kept_named v image c named (record {
      elsewhere = spares;
      committed = subst (λ (b : Bool). SameHeaderBy b image c) (sym plain) same;
    })))
    (λ none. inr (none_named v c (named_still v image c (superblock_stays v image c spares) named)
    (subst (λ (b : Bool). HasNoneBy b c) (sym plain) none)))
    keeps.committed

kept_sealed : (v : Version) (image c : Image) → (row v).sealed ≡ true → IsNamed image v → KeepsOrHasNone v image c →
    KeepsImage image c ⊎ HasNoHeader c
kept_sealed v image c sealed named keeps =
    let stays : (h : SealedHeader) → Commits c h → Commits image h =
    λ h is. commits_to v sealed image h (keeps.committed h (commits_from v sealed c h is)) in
    ⊎_elim (λ found. inl (kept_named v image c named (record {
      elsewhere = keeps.elsewhere;
      committed = subst (λ (b : Bool). SameHeaderBy b image c) (sym sealed)
          (λ h. (
            λ was. subst (λ (g : SealedHeader). Commits c g) (sym (one_commits image h found.0 was (stays found.0 found.1))) found.1,
            stays h,
          ));
    })))
    (λ none. inr (none_named v c (named_still v image c (superblock_stays v image c keeps.elsewhere) named)
    (subst (λ (b : Bool). HasNoneBy b c) (sym sealed) none)))
    (commits_or_not c)

module _ (v : Version) (disk : Disk) (durable : Only disk.seen disk) (named : IsNamed disk.seen v) where
  named_left : (d : Image) → disk.may_leave d → IsNamed d v
  named_left d left = subst (λ (i : Image). IsNamed i v) (sym (agrees_is d disk.seen (durable d left))) named

  pub before_plain : (row v).sealed ≡ false → (c : Image) → WasKeptPlain disk c → IsBeforeOrNone disk c
  before_plain plain c was =
      ⊎_elim (λ kept. inl (was.0, was.1, kept)) inr (kept_plain v was.0 c plain (named_left was.0 was.1) was.2)

  pub before_sealed : (row v).sealed ≡ true → (c : Image) → WasKeptOrHasNone v disk c → IsBeforeOrNone disk c
  before_sealed sealed c was =
      ⊎_elim (λ kept. inl (was.0, was.1, kept)) inr (kept_sealed v was.0 c sealed (named_left was.0 was.1) was.2)

-- ---- while the gates of other versions are being closed

module _ (v w : Version) (other : AreOther v w) (old new : Image) (spares : SparesGates w old new) (closed : GatesAreClosed v old) where
  pub still_closed : GatesAreClosed v new
  still_closed k lt =
      subst (IsClosedBy (row v).sealed) (sym (spares (gate_place v k) (λ j lt' e. gates_apart v w k j other lt lt' e))) (closed k lt)

  pub still_none : IsNamed old v → HasNoHeader new
  still_none named = none_named v new (named_still v old new (superblock_stays w old new spares) named) (none_by v new still_closed)

  -- the gates of all versions are closed
  pub all_closed : GatesAreClosed w new → (u : Version) → GatesAreClosed u new
  all_closed closed_w u = by (row u).sealed refl (row v).sealed refl where
    by : (a : Bool) → (row u).sealed ≡ a → (b : Bool) → (row v).sealed ≡ b → GatesAreClosed u new
    by true is true is' = same_gates u v new (is ∙ sym is') still_closed
    by false is false is' = same_gates u v new (is ∙ sym is') still_closed
    by true is false is' = same_gates u w new (is ∙ sym (other.sealed is')) closed_w
    by false is true is' = same_gates u w new (is ∙ sym (other.plain is')) closed_w

-- ---- the version of a superblock

pub version_found : (p s : Plan) (bytes : List ℕ) → IsPlan p → IsPlan s → bytes ≡ superblock_bytes s → bytes ≡ superblock_bytes p →
    p.version ≡ s.version
version_found p s bytes fits fits' is spelt = ap (λ (q : Plan). q.version) (one_plan p s fits fits' (sym spelt ∙ is))

pub none_named_by : (bytes : List ℕ) (e : BadImage) (p : Plan) → IsPlanRefused bytes e → IsPlan p → bytes ≡ superblock_bytes p → ⊥
none_named_by bytes bad.NotASuperblock p refused fits spelt =
    refused (subst HasMark (sym spelt) (marked p fits.few))
none_named_by bytes bad.BadGeometry p refused fits spelt = refused.1 p fits spelt
none_named_by bytes bad.Small p refused fits spelt = refused
none_named_by bytes bad.NoHeader p refused fits spelt = refused
none_named_by bytes bad.BadHeader p refused fits spelt = refused
none_named_by bytes bad.BadDirectory p refused fits spelt = refused
none_named_by bytes bad.BadFrame p refused fits spelt = refused
none_named_by bytes bad.BadCapability p refused fits spelt = refused
none_named_by bytes bad.BadProcess p refused fits spelt = refused
none_named_by bytes bad.BadBank p refused fits spelt = refused

-- ---- a run

same_header : (b : Bool) (i : Image) → SameHeaderBy b i i
same_header true i = λ h. (λ is. is, λ is. is)
same_header false i = refl

-- an unchanged image is kept
untouched : (c : Image) → KeepsImage c c
untouched c = record {
  elsewhere = λ i other. refl;
  kept = λ p fits spelt. record { elsewhere = λ i other. refl; committed = same_header (row p.version).sealed c };
}

-- what a crash could leave after a sync, it could leave before
pub before_sync : (old mid : Disk) → ((c : Image) → mid.may_leave c → old.may_leave c) → (c : Image) → IsBeforeOrNone mid c →
    IsBeforeOrNone old c
before_sync old mid narrows c is = ⊎_elim (λ was. inl (was.0, narrows was.0 was.1, was.2)) inr is

-- a shut image has no header
pub shut_none : (p : Plan) (c : Image) → IsPlan p → IsShut p c → HasNoHeader c
shut_none p c fits shut =
    none_named p.version c (λ q fits' spelt. ap (λ (r : Plan). r.version) (one_plan q p fits' fits (sym spelt ∙ shut.superblock)))
    (none_by p.version c shut.gates)

-- an image with all gates closed has no header, whatever its superblock is
pub all_none : (c : Image) → ((v : Version) → GatesAreClosed v c) → HasNoHeader c
all_none c closed p fits spelt = none_by p.version c (closed p.version)

module _ (old mid new : Disk) where
  -- a sync and then reads leave only images that a crash could leave before
  pub sync_read : OnlyNow old → Narrows old mid → Elapses old mid → Peeks mid new → LeavesOnly old new (λ c. IsBeforeOrNone old c)
  sync_read only_now narrows time peeks =
      leaves_on {old = old} {mid = mid} {new = new} {P = λ c. IsBeforeOrNone old c}
      (goes_on {old = old} {mid = old} {new = mid} {P = λ c. IsBeforeOrNone old c}
      (started old (λ c. IsBeforeOrNone old c) only_now (λ c left. inl (c, left, untouched c))) time
      (λ c left. inl (c, narrows c left, untouched c)))
      (leaves_weaker {old = mid} {new = new} {P = mid.may_leave} (λ c. IsBeforeOrNone old c)
      (λ c left. inl (c, narrows c left, untouched c)) peeks)

  -- the gates are closed after that
  pub closing_on : Narrows old mid → LeavesOnly old mid (λ c. IsBeforeOrNone old c) → LeavesOnly mid new (λ c. IsBeforeOrNone mid c) →
      LeavesOnly old new (λ c. IsBeforeOrNone old c)
  closing_on narrows first second =
      leaves_on {old = old} {mid = mid} {new = new} {P = λ c. IsBeforeOrNone old c} first
      (leaves_weaker {old = mid} {new = new} {P = λ c. IsBeforeOrNone mid c} (λ c. IsBeforeOrNone old c)
      (before_sync old mid narrows) second)

  -- once they are closed, no header is committed
  pub none_on : LeavesOnly old mid (λ c. IsBeforeOrNone old c) → LeavesOnly mid new (λ c. HasNoHeader c) →
      LeavesOnly old new (λ c. IsBeforeOrNone old c)
  none_on first second =
      leaves_on {old = old} {mid = mid} {new = new} {P = λ c. IsBeforeOrNone old c} first
      (leaves_weaker {old = mid} {new = new} {P = λ c. HasNoHeader c} (λ c. IsBeforeOrNone old c) (λ c none. inr none) second)

  -- while all gates are closed under a plan's superblock, no header is committed
  pub shut_after : (p : Plan) → IsPlan p → LeavesOnly old mid (λ c. IsBeforeOrNone old c) → LeavesOnly mid new (λ c. IsShut p c) →
      LeavesOnly old new (λ c. IsBeforeOrNone old c)
  shut_after p fits first second =
      none_on first
      (leaves_weaker {old = mid} {new = new} {P = λ c. IsShut p c} (λ c. HasNoHeader c) (λ c shut. shut_none p c fits shut) second)

-- ---- results

pub closed_ok : {T E : Type 0} (result : Result T E) (v : Version) (c : Image) →
    ((row v).sealed ≡ false → OnOk result (AreClosedPlain c)) → ((row v).sealed ≡ true → OnOk result (AreClosedSealed c)) →
    OnOk result (GatesAreClosed v c)
closed_ok (Ok t) v c plain sealed = closed_from v c plain sealed
closed_ok (Err e) v c plain sealed = tt

-- ---- the gates that a version doesn't have

spares_from : (b : Bool) (old new : Image) → SparesAll b old new → SparesGates (if b then Three else One) old new
spares_from true old new spares = λ i other.
    spares i (λ e. other 0 (omega arith) e) (λ e. other 1 (omega arith) e) (λ e. other 2 (omega arith) e)
spares_from false old new spares = λ i other. spares i (λ e. other 0 (omega arith) e) (λ e. other 1 (omega arith) e)

zero_shut : is_open (numbered_gate_bytes 0) ≡ false
unfolding numbered_gate_bytes words_bytes number
zero_shut = refl

zeros_closed : (b : Bool) (c : Image) → AreZeros b c → GatesAreClosed (if b then Three else One) c
zeros_closed true c zero_there = λ k lt. elim (cases_eq k 0) [
  | inl e ↦ subst (λ (j : ℕ). c (8 * (2 + 2 * j)) ≡ numbered_gate_bytes 0) (sym e) zero_there.0
  | inr some ↦ elim (cases_eq k 1) [
    | inl e ↦ subst (λ (j : ℕ). c (8 * (2 + 2 * j)) ≡ numbered_gate_bytes 0) (sym e) zero_there.1
    | inr more ↦
        let two : 2 ≡ k = omega (arith, lt, some, more) in
        subst (λ (j : ℕ). c (8 * (2 + 2 * j)) ≡ numbered_gate_bytes 0) two zero_there.2
  ]
]
zeros_closed false c zero_there =
    plain_closed c (record { first = ap is_open zero_there.0 ∙ zero_shut; second = ap is_open zero_there.1 ∙ zero_shut })

other_by : (v : Version) (b : Bool) → ((row v).sealed ≡ true → b ≡ false) → ((row v).sealed ≡ false → b ≡ true) →
    AreOther v (if b then Three else One)
other_by v true sealed plain = record { sealed = λ is. refl; plain = λ is. absurd (false≢true (sym (sealed is))) }
other_by v false sealed plain = record { sealed = λ is. absurd (false≢true (plain is)); plain = λ is. refl }

module _ (v : Version) (b : Bool) (other : AreOther v (if b then Three else One)) where
  pub others_closed : {T E : Type 0} (result : Result T E) (old new : Image) → SparesAll b old new → GatesAreClosed v old →
      OnOk result (AreZeros b new) → OnOk result ((u : Version) → GatesAreClosed u new)
  others_closed (Ok t) old new spares closed zero_there =
      all_closed v (if b then Three else One) other old new (spares_from b old new spares) closed (zeros_closed b new zero_there)
  others_closed (Err e) old new spares closed zero_there = tt

  -- while these gates are being closed, no header is committed
  pub others_run : (old new : Disk) → IsNamed old.seen v → GatesAreClosed v old.seen →
      LeavesOnly old new (λ c. SparesAll b old.seen c) → LeavesOnly old new (λ c. HasNoHeader c)
  others_run old new named closed run =
      leaves_weaker {old = old} {new = new} {P = λ c. SparesAll b old.seen c} (λ c. HasNoHeader c)
      (λ c spares. still_none v (if b then Three else One) other old.seen c (spares_from b old.seen c spares) closed named) run

  pub others_elsewhere : (old new : Image) → SparesAll b old new → Elsewhere 1 55 old new
  others_elsewhere old new spares = gates_elsewhere (if b then Three else One) old new (spares_from b old new spares)

pub other_plain : (v : Version) → (row v).sealed ≡ true → AreOther v One
other_plain v is = other_by v false (λ _. refl) (λ plain. absurd (false≢true (sym plain ∙ is)))

pub other_sealed : (v : Version) → (row v).sealed ≡ false → AreOther v Three
other_sealed v is = other_by v true (λ sealed. absurd (false≢true (sym is ∙ sealed))) (λ _. refl)

-- ---- while the superblock is being written

torn_superblock : (old : Disk) → Only old.seen old → ((v : Version) → GatesAreClosed v old.seen) → (c : Image) → IsTorn 0 1 old c →
    HasNoHeader c
torn_superblock old durable closed c torn =
    let change = subst (λ (i : Image). Elsewhere 0 1 i c) (agrees_is torn.0 old.seen (durable torn.0 torn.1)) torn.2 in
    all_none c (λ v k lt.
    let low = (gates_low v k lt).0 in
    subst (IsClosedBy (row v).sealed) (sym (change.after (gate_place v k) (omega (arith, low)))) (closed v k lt))

-- no header is committed, whatever a torn superblock says
pub superblock_run : (old new : Disk) → Only old.seen old → ((v : Version) → GatesAreClosed v old.seen) →
    LeavesOnly old new (λ c. IsTorn 0 1 old c) → LeavesOnly old new (λ c. HasNoHeader c)
superblock_run old new durable closed run =
    leaves_weaker {old = old} {new = new} {P = λ c. IsTorn 0 1 old c} (λ c. HasNoHeader c) (torn_superblock old durable closed) run
