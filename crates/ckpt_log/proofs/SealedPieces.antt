-- A directory, sector by sector.
use Rattle.std.proofs.Common.{◌≡◌, ℕ, ◌+◌, ◌-◌, ◌*◌, ◌/◌, ◌<◌, ◌≤◌, List, length, take, drop, ap, refl, sym, ◌∙◌, inl, inr, arith}
use Rattle.std.proofs.lemmas.Bool.{cases_eq}
use Rattle.std.proofs.lemmas.List.{take_all, take_rest, length-drop}
use Rattle.device.specs.Calls.{Elsewhere, IsTorn}
use Rattle.device.specs.Disk.{Disk, Image}
use Rattle.device.proofs.Images.{elsewhere_on, elsewhere_same}
use Rattle.device.proofs.Moments.{OnlyNow, leaves_on, leaves_weaker, started}
use Rattle.layout.specs.Calls.{WritesAt}
use Rattle.layout.specs.declared.directory.Entry.{Entry}
use Rattle.layout.specs.sealed.Directory.{entries_bytes}
use Rattle.layout.specs.sealed.Root.{directory_sums}
use Rattle.layout.specs.sealed.Directory.{AreEntries, HaveEntries, piece, seals_of}
use Rattle.ckpt_log.specs.sealed.Directory.{TouchesAt}
use Rattle.ckpt_log.proofs.SealedCommits.{beside}

-- ---- which sectors change

widen : (at k n : ℕ) (old new : Image) → k < n → Elsewhere (at + k) 1 old new → Elsewhere at n old new
widen at k n old new lt e = record {
  before = λ i less. e.before i (omega (arith, less));
  after = λ i le. e.after i (omega (arith, le, lt));
}

pub touches_none : (at n : ℕ) (disk : Disk) → OnlyNow disk → TouchesAt at n disk disk
touches_none at n disk only_now = record {
  size = refl;
  elsewhere = elsewhere_same at n disk.seen disk.seen (λ i. refl);
  crash = λ c left. (c, left, elsewhere_same at n c c (λ i. refl));
  any_moment = started disk (λ c. IsTorn at n disk c) only_now (λ c left. (c, left, elsewhere_same at n c c (λ i. refl)));
}

torn_on : (at k n : ℕ) (old mid : Disk) (c : Image) → k < n → TouchesAt at n old mid → IsTorn (at + k) 1 mid c → IsTorn at n old c
torn_on at k n old mid c lt so_far torn =
    let before = so_far.crash torn.0 torn.1 in
    (before.0, before.1, elsewhere_on at n before.0 torn.0 c before.2 (widen at k n torn.0 c lt torn.2))

pub touches_on : (at k n : ℕ) (old mid new : Disk) → k < n → TouchesAt at n old mid → WritesAt (at + k) 1 mid new → TouchesAt at n old new
touches_on at k n old mid new lt so_far writes = record {
  size = writes.size ∙ so_far.size;
  elsewhere = elsewhere_on at n old.seen mid.seen new.seen so_far.elsewhere (widen at k n mid.seen new.seen lt writes.elsewhere);
  crash = λ c left. torn_on at k n old mid c lt so_far (writes.crash c left);
  any_moment =
      leaves_on {old = old} {mid = mid} {new = new} {P = λ c. IsTorn at n old c} so_far.any_moment
      (leaves_weaker {old = mid} {new = new} {P = λ c. IsTorn (at + k) 1 mid c} (λ c. IsTorn at n old c)
      (λ c torn. torn_on at k n old mid c lt so_far torn) writes.any_moment);
}

-- ---- one more sector

pub entries_on : (at k : ℕ) (es : List Entry) (mid new : Image) → HaveEntries mid at es k → Elsewhere (at + k) 1 mid new
    → new (at + k) ≡ entries_bytes (piece es k) → HaveEntries new at es (k + 1)
entries_on at k es mid new before torn written j lt =
    elim (cases_eq j k) [
      | inl e ↦ ap (λ (i : ℕ). new (at + i)) e ∙ written ∙ ap (λ (i : ℕ). entries_bytes (piece es i)) (sym e)
      | inr ne ↦ beside (at + k) (at + j) mid new torn (λ e. ne (omega (arith, e))) ∙ before j (omega (arith, lt, ne))
    ]

pub sums_none : (es : List Entry) → (record { a = 0; b = 0; c = 0 }) ≡ directory_sums (seals_of es 0)
unfolding directory_sums
sums_none es = refl

-- ---- the entries of a sector

pub short_piece : (es : List Entry) (k : ℕ) → length (drop (30 * k) es) ≤ 30 → drop (30 * k) es ≡ piece es k
short_piece es k few = sym (take_all 30 (drop (30 * k) es) few)

pub all_entries : (es : List Entry) (count k : ℕ) (image : Image) (at : ℕ) → count ≡ (length es + 30 - 1) / 30 → count ≤ k →
    HaveEntries image at es k → AreEntries image at es
all_entries es count k image at is past have j lt = have j (omega (arith, is, past, lt))

pub last_piece : (es : List Entry) (k : ℕ) → length es - 30 * k < 30 → take (length es - 30 * k) (drop (30 * k) es) ≡ piece es k
last_piece es k few = take_rest es (30 * k) ∙ short_piece es k (omega (arith, length-drop (30 * k) es, few))

pub full_piece : (es : List Entry) (k : ℕ) → take (30 * k + 30 - 30 * k) (drop (30 * k) es) ≡ piece es k
full_piece es k = let n : 30 * k + 30 - 30 * k ≡ 30 = omega arith in ap (λ (m : ℕ). take m (drop (30 * k) es)) n
