-- While all gates are closed, no header is committed, whatever is written to other sectors.
use Rattle.image_writer.proofs.Names.{ℕ, true, sym, subst, arith, inl, inr, Disk, Image, Elsewhere, IsTorn, Tears, LeavesOnly, leaves_on, leaves_weaker, Plan}
use Rattle.image_writer.proofs.Names.{Version, row, gate_place, header_place, IsClosedBy, HaveHeaders, IsShut, LeavesShut, header_before, SealedHeader}
use Rattle.image_writer.proofs.Names.{sealed_header_bytes, cases_lt, One, Two, Three, first_some, opening_stays}
use Rattle.std.proofs.Common.{◌≡◌, ◌+◌, ◌-◌, ◌*◌, ◌<◌, ◌≤◌, ◌∙◌}

-- ---- writes beside the superblock and the gates

-- the superblock and all gates of a version are unchanged
pub record Spares (v : Version) (old new : Image) : Type 0 where
  pub superblock : new 0 ≡ old 0
  pub gates : (k : ℕ) → k < (row v).header_slots → new (gate_place v k) ≡ old (gate_place v k)

-- the n sectors from `at` on contain neither the superblock nor a gate
abbrev pub AreBeside : Version → ℕ → ℕ → Type 0
AreBeside v at n = (old new : Image) → Elsewhere at n old new → Spares v old new

-- homes and log lie so
pub behind_all : (v : Version) (at n : ℕ) → (row v).first_home ≤ at → AreBeside v at n
behind_all v at n behind old new change =
    let some = first_some v in
    record {
      superblock = change.before 0 (omega (arith, some, behind));
      gates = (opening_stays v at n old new behind change).gates;
    }

-- gates lie before the homes
pub gates_before : (v : Version) (k : ℕ) → k < (row v).header_slots → gate_place v k < (row v).first_home
gates_before One k lt = omega (arith, lt)
gates_before Two k lt = omega (arith, lt)
gates_before Three k lt = omega (arith, lt)

-- a sector that is neither
one_kept : (at i : ℕ) (old new : Image) → Elsewhere at 1 old new → (i ≡ at → ⊥) → new i ≡ old i
one_kept at i old new change other = elim (cases_lt i at) [
  | inl lt ↦ change.before i lt
  | inr le ↦ change.after i (omega (arith, le, other))
]

-- headers lie so
pub header_beside : (v : Version) (k : ℕ) → AreBeside v (header_place v k) 1
header_beside One k old new change = record {
  superblock = one_kept (1 * (1 + 2 * k)) 0 old new change (λ e. omega (arith, e));
  gates = λ j lt. one_kept (1 * (1 + 2 * k)) (1 * (2 + 2 * j)) old new change (λ e. omega (arith, e));
}
header_beside Two k old new change = record {
  superblock = one_kept (1 * (1 + 2 * k)) 0 old new change (λ e. omega (arith, e));
  gates = λ j lt. one_kept (1 * (1 + 2 * k)) (1 * (2 + 2 * j)) old new change (λ e. omega (arith, e));
}
header_beside Three k old new change = record {
  superblock = one_kept (8 * (1 + 2 * k)) 0 old new change (λ e. omega (arith, e));
  gates = λ j lt. one_kept (8 * (1 + 2 * k)) (8 * (2 + 2 * j)) old new change (λ e. omega (arith, e));
}

still_shut : (p : Plan) (old new : Image) → Spares p.version old new → IsShut p old → IsShut p new
still_shut p old new spares was = record {
  superblock = spares.superblock ∙ was.superblock;
  gates = λ k lt. subst (IsClosedBy (row p.version).sealed) (sym (spares.gates k lt)) (was.gates k lt);
}

torn_shut : (p : Plan) (at n : ℕ) (disk : Disk) → AreBeside p.version at n → LeavesShut p disk → (c : Image) →
    IsTorn at n disk c → IsShut p c
torn_shut p at n disk beside shut c torn = still_shut p torn.0 c (beside torn.0 c torn.2) (shut torn.0 torn.1)

-- a write of such sectors leaves the gates closed
pub leaves_shut : (p : Plan) (at n : ℕ) (old new : Disk) → AreBeside p.version at n → LeavesShut p old →
    Tears at n old new → LeavesShut p new
leaves_shut p at n old new beside shut crash = λ c left. torn_shut p at n old beside shut c (crash c left)

-- at each moment of such a write, a crash leaves the gates closed
pub shut_run : (p : Plan) (at n : ℕ) {old new : Disk} → AreBeside p.version at n → LeavesShut p old →
    LeavesOnly old new (λ c. IsTorn at n old c) → LeavesOnly old new (λ c. IsShut p c)
shut_run p at n {old} {new} beside shut run =
    leaves_weaker {old = old} {new = new} {P = λ c. IsTorn at n old c} (λ c. IsShut p c) (torn_shut p at n old beside shut) run

-- one more such write after a run leaves the gates closed
pub shut_on : (p : Plan) (at n : ℕ) {old mid new : Disk} → LeavesOnly old mid (λ c. IsShut p c) → AreBeside p.version at n →
    LeavesShut p mid → LeavesOnly mid new (λ c. IsTorn at n mid c) → LeavesOnly old new (λ c. IsShut p c)
shut_on p at n {old} {mid} {new} first beside shut run =
    leaves_on {old = old} {mid = mid} {new = new} {P = λ c. IsShut p c} first (shut_run p at n {old = mid} {new = new} beside shut run)

-- ---- headers

-- headers lie between the superblock and the homes, in the first 56 sectors
pub headers_low : (v : Version) (k : ℕ) → k < (row v).header_slots →
    (0 < header_place v k) × (header_place v k < (row v).first_home) × (header_place v k < 56)
headers_low One k lt = (omega arith, omega (arith, lt), omega (arith, lt))
headers_low Two k lt = (omega arith, omega (arith, lt), omega (arith, lt))
headers_low Three k lt = (omega arith, omega (arith, lt), omega (arith, lt))

-- so a change of one is a change before the homes
pub header_within : (v : Version) (k : ℕ) (old new : Image) → k < (row v).header_slots → Elsewhere (header_place v k) 1 old new →
    Elsewhere 1 ((row v).first_home - 1) old new
header_within v k old new lt change =
    let low = headers_low v k lt in
    record {
      before = λ i less. change.before i (omega (arith, less, low.0));
      after = λ i le. change.after i (omega (arith, le, low.1));
    }

-- with seals, the second header is written after the first
pub both_written : (v : Version) (mid new : Image) (h : SealedHeader) → (row v).sealed ≡ true →
    mid (header_place v 1) ≡ sealed_header_bytes (header_before h) → Elsewhere (header_place v 2) 1 mid new →
    new (header_place v 2) ≡ sealed_header_bytes h → HaveHeaders true h new
both_written One mid new h sealed first change second = absurd (cc sealed)
both_written Two mid new h sealed first change second = absurd (cc sealed)
both_written Three mid new h sealed first change second = (change.before 24 (omega arith) ∙ first, second)

pub some_slots : (v : Version) → 0 < (row v).header_slots
some_slots One = omega arith
some_slots Two = omega arith
some_slots Three = omega arith
