-- What a crash may have left in a run of device calls.
use Rattle.std.proofs.Common.{◌⊎◌, ◌≡◌, ◌<◌, ◌≤◌, ℕ, inl, inr, ⊎_elim, refl, arith, true, false, Result, Ok, Err, sym, subst}
use Rattle.std.proofs.lemmas.Bool.{cases_lt}
use Rattle.device.specs.Disk.{Image, Disk}
use Rattle.device.specs.Calls.{Narrows, Only, Counts}
use Rattle.device.proofs.Images.{agrees_is}
use Rattle.device.specs.Moments.{Elapses, LeavesOnly, Peeks}

-- a crash now is one of the crashes since each earlier moment
abbrev pub CountsNow : Disk → Type 0
CountsNow disk = (t : ℕ) (c : Image) → t ≤ disk.moment → disk.may_leave c → disk.left_since t c

-- a crash since this moment may leave only what a crash now may leave
abbrev pub OnlyNow : Disk → Type 0
OnlyNow disk = (c : Image) → disk.left_since disk.moment c → disk.may_leave c

-- without a call, a crash leaves only images with P if it now leaves only such
pub started : (disk : Disk) (P : Image → Type 0) → OnlyNow disk → ((c : Image) → disk.may_leave c → P c) → LeavesOnly disk disk P
started disk P only_now here = record {
  later = omega arith;
  each = λ c left. here c (only_now c left);
  before = λ t c le left. inl left;
  keeps = λ t c le left. left;
}

-- if a crash after one more call leaves only images with P, the longer run leaves only images with P
pub goes_on : {old mid new : Disk} {P : Image → Type 0} → LeavesOnly old mid P → Elapses mid new → ((c : Image) → new.may_leave c → P c) →
    LeavesOnly old new P
goes_on {old} {mid} {new} {P} so_far time here = record {
  later = omega (arith, so_far.later, time.later);
  each = λ c left. ⊎_elim (so_far.each c) (here c) (time.nothing_else old.moment c so_far.later left);
  before = λ t c le left. ⊎_elim (so_far.before t c le) (λ now. inr (here c now))
      (time.nothing_else t c (omega (arith, le, so_far.later)) left);
  keeps = λ t c le left. time.keeps t c (omega (arith, le, so_far.later)) (so_far.keeps t c le left);
}

-- a run that leaves only images with P leaves only images with Q, if P implies Q
pub leaves_weaker : {old new : Disk} {P : Image → Type 0} (Q : Image → Type 0) → ((c : Image) → P c → Q c) → LeavesOnly old new P →
    LeavesOnly old new Q
leaves_weaker Q weaker run = record {
  later = run.later;
  each = λ c left. weaker c (run.each c left);
  before = λ t c le left. ⊎_elim inl (λ has. inr (weaker c has)) (run.before t c le left);
  keeps = run.keeps;
}

-- if each of two runs in a row leaves only images with P, so do both together
pub leaves_on : {old mid new : Disk} {P : Image → Type 0} → LeavesOnly old mid P → LeavesOnly mid new P → LeavesOnly old new P
leaves_on {old} {mid} {new} {P} first second = record {
  later = omega (arith, first.later, second.later);
  each = λ c left. ⊎_elim (first.each c) (λ has. has) (second.before old.moment c first.later left);
  before = λ t c le left. ⊎_elim (first.before t c le) inr (second.before t c (omega (arith, le, first.later)) left);
  keeps = λ t c le left. second.keeps t c (omega (arith, le, first.later)) (first.keeps t c le left);
}

-- after a run a crash leaves only images with P
pub ends : {old new : Disk} {P : Image → Type 0} → LeavesOnly old new P → CountsNow new → (c : Image) → new.may_leave c → P c
ends {old} {new} run counts_now c left = run.each c (counts_now old.moment c run.later left)

-- a call after which a crash leaves nothing new, such as a read or a sync, may be added to a run
pub narrowed : {old mid new : Disk} {P : Image → Type 0} → LeavesOnly old mid P → CountsNow mid → Elapses mid new → Narrows mid new →
    LeavesOnly old new P
narrowed {old} {mid} {new} {P} so_far counts_now time narrows = goes_on {old = old} {mid = mid} {new = new} {P = P} so_far time
    (λ c left. ends so_far counts_now c (narrows c left))

-- a power cut may be added to a run: it leaves an image that a crash could have left before
pub goes_on_cut : {old mid new : Disk} {P : Image → Type 0} → LeavesOnly old mid P → CountsNow mid → Elapses mid new →
    mid.may_leave new.seen → Only new.seen new → LeavesOnly old new P
goes_on_cut {old} {mid} {new} {P} so_far counts_now time left only =
    goes_on {old = old} {mid = mid} {new = new} {P = P} so_far time
    (λ c now. subst P (sym (agrees_is c new.seen (only c now))) (ends so_far counts_now new.seen left))

-- without a call, nothing was written
pub peeks_started : (disk : Disk) → OnlyNow disk → Peeks disk disk
peeks_started disk only_now = started disk disk.may_leave only_now (λ c left. left)

-- a call that succeeds doesn't change the count of failures
pub counted_ok : {T E : Type 0} {old new : Disk} {value : T} → Counts {T = T} {E = E} old new (Ok value) → new.failures ≡ old.failures
counted_ok {old = old} {new = new} counts =
    ⊎_elim (λ rose. let never : false ≡ true = counts.cause.1 rose in cc) (λ le. omega (arith, le, counts.never_falls))
    (cases_lt old.failures new.failures)

-- if the earlier calls of a run don't raise the count of failures, it rises exactly if the last call fails
pub counts_on : {T E : Type 0} {old mid new : Disk} {result : Result T E} → mid.failures ≡ old.failures → Counts mid new result →
    Counts old new result
counts_on {old = old} {mid = mid} {new = new} same counts = record {
  never_falls = omega (arith, same, counts.never_falls);
  cause = (
    λ failed. let rose : mid.failures < new.failures = counts.cause.0 failed in omega (arith, same, rose),
    λ rose. counts.cause.1 (omega (arith, same, rose)),
  );
}
