-- Serving commands, one after another.
use Rattle.vezhnake.proofs.Names.{ℕ, List, [], Some, None, Option, take, drop, length, refl, sym, ap, subst, inl, inr, ⊎_elim, arith, nat_tests, Bool, true}
use Rattle.vezhnake.proofs.Names.{false, zero, suc, below_more, drop-drop, drop-set-lt, get_or-set_other, get_or-set_same, take_more, take_more_set, slice_set}
use Rattle.vezhnake.proofs.Names.{Contains, leaves_weaker, Disk, Image, Parts, View, Power, HasCode, IsCaused, Serves, disk_of, Served, Machine, Saved}
use Rattle.vezhnake.proofs.Names.{candidates, IsRun, Reported, Turn, second, takes_memory, Fits, spelling, Answer, Command, Geometry, Denotes, DenotesOne}
use Rattle.vezhnake.proofs.Names.{AreTurnsOf, IsLeftIn, IsReportedBy, IsRunOf, IsTurnOf, CrashesInRunsAreSurvived, RawReply, HostDevice, host_disk, AreNumbered}
use Rattle.vezhnake.proofs.Names.{ServesEach, ServesLine, numbers_of, refuses_at, is_refused, reply_of}
use Rattle.std.proofs.Common.{◌≡◌, ◌<◌, ◌+◌, ◌∷◌, ◌++◌, ◌∙◌, ◌≢◌}
use Rattle.std.specs.Prelude.{◌⊎◌, ◌&&◌, slice_index_or}
use Rattle.model.specs.declared.answer.Answer.TheVariants as answer
use Rattle.model.specs.declared.answer.Refusal.TheVariants as refusal
use Rattle.model.specs.declared.line.Line.TheVariants as line
use Rattle.vezhnake.proofs.Surviving.{runs_survive}

-- ---- what a crash leaves during one command

split_one : (g : Geometry) (size : ℕ) (c : Image) (ss ts : List Saved) → DenotesOne g size (ss ++ ts) c →
    DenotesOne g size ss c ⊎ DenotesOne g size ts c
split_one g size c [] ts one = inr one
split_one g size c (s ∷ ss) ts one = ⊎_elim (λ here. inl (inl here))
    (λ there. ⊎_elim (λ first. inl (inr first)) (λ last. inr last) (split_one g size c ss ts there)) one

denotes_this : (g : Geometry) (size : ℕ) (c : Image) (ss : List Saved) → DenotesOne g size ss c →
    (s : Saved) × Contains ss s × Denotes g size c s
denotes_this g size c [] one = absurd one
denotes_this g size c (s ∷ ss) one = ⊎_elim
    (λ here. (s, (zero, omega arith, refl), here))
    (λ there. let is = denotes_this g size c ss there in (is.0, (suc is.1.0, omega (arith, is.1.1), is.1.2), is.2))
    one

left_by : (g : Geometry) (size : ℕ) (t : Turn) (command : Command) → Fits command → t.line ≡ spelling command → (c : Image) →
    DenotesOne g size (candidates t.before ++ second t.before command) c → IsLeftIn g size t c
left_by g size t command fits spelt c one = ⊎_elim
    (λ first. let is = denotes_this g size c (candidates t.before) first in (is.0, inl is.1, is.2))
    (λ last. let is = denotes_this g size c (second t.before command) last in (is.0, inr (command, (fits, spelt), is.1), is.2))
    (split_one g size c (candidates t.before) (second t.before command) one)

answer_reported : (old new : Disk) (a : Answer) → IsCaused old new a → IsReportedBy old new (Reported a)
answer_reported old new a caused = record {
  never_falls = caused.later;
  cause = (λ is. caused.exact.0 (same_answer a is), λ rose. ap (λ (b : Answer). Reported b) (caused.exact.1 rose));
}
  where
    same_answer : (b : Answer) → Reported b ≡ Reported (answer.Refused refusal.Fault) → b ≡ answer.Refused refusal.Fault
    same_answer b is = cc

-- ---- one run after another

run_on : (g : Geometry) (m : Machine) (ts us : List Turn) (mid last : Machine) → IsRun g m ts mid → IsRun g mid us last →
    IsRun g m (ts ++ us) last
run_on g m [] us mid last first next = subst (λ (x : Machine). IsRun g x us last) first next
run_on g m (t ∷ ts) us mid last first next = (first.0, first.1, run_on g t.after ts us mid last first.2 next)

numbered_on : (g : Geometry) (ts us : List Turn) (cs ds : List (Option Command)) (rs qs : List RawReply) → AreNumbered g ts cs rs →
    AreNumbered g us ds qs → AreNumbered g (ts ++ us) (cs ++ ds) (rs ++ qs)
numbered_on g [] us [] ds [] qs first next = next
numbered_on g (t ∷ ts) us (c ∷ cs) ds (r ∷ rs) qs first next = (first.0, numbered_on g ts us cs ds rs qs first.1 next)
numbered_on g [] us [] ds (r ∷ rs) qs first next = absurd first
numbered_on g [] us (c ∷ cs) ds rs qs first next = absurd first
numbered_on g (t ∷ ts) us [] ds rs qs first next = absurd first
numbered_on g (t ∷ ts) us (c ∷ cs) ds [] qs first next = absurd first

-- writing reply i leaves the replies after it unchanged
pub behind_next : (rs before : List RawReply) (i : ℕ) (r : RawReply) → drop i rs ≡ drop i before →
    drop (i + 1) (slice_set rs i r) ≡ drop (i + 1) before
behind_next rs before i r same =
    drop-set-lt (i + 1) rs i r (omega arith) ∙ sym (drop-drop 1 i rs) ∙ ap (λ (xs : List RawReply). drop 1 xs) same ∙ drop-drop 1 i before

-- if refusals end the batch and this reply doesn't end it, no reply so far is a refusal
pub still_accepted : (stops ends : Bool) (rs : List RawReply) (i : ℕ) (r : RawReply) → i < length rs → ends ≡ (stops && is_refused r) →
    ends ≡ false → (stops ≡ true → (k : ℕ) → k < i → refuses_at rs k ≡ false) → stops ≡ true → (k : ℕ) → k < i + 1 →
    refuses_at (slice_set rs i r) k ≡ false
still_accepted stops ends rs i r within is off before on =
    let none : RawReply = reply_of answer.Done None in
    let last : is_refused r ≡ false = ap (λ (s : Bool). s && is_refused r) (sym on) ∙ sym is ∙ off in
    below_more (λ (k : ℕ). refuses_at (slice_set rs i r) k ≡ false) i
    (λ k h. let other : k ≢ i = omega arith in ap is_refused (get_or-set_other rs i k r none other) ∙ before on k h)
    (ap is_refused (get_or-set_same rs i r none within) ∙ last)

module _ {S : Type 0} (view : S → View HostDevice) (parts : S → Parts) where
  turns_on : (g : Geometry) (ts us : List Turn) (a b c : Power HostDevice S) → AreTurnsOf host_disk view parts g a b ts →
      AreTurnsOf host_disk view parts g b c us → AreTurnsOf host_disk view parts g a c (ts ++ us)
  turns_on g [] us a b c first next = subst (λ (x : Power HostDevice S). AreTurnsOf host_disk view parts g x c us) first next
  turns_on g (t ∷ ts) us a b c first next = (first.0, first.1, turns_on g ts us first.0 b c first.2 next)

  pub line_served : CrashesInRunsAreSurvived host_disk view parts → (p q : Power HostDevice S) (c : Command) (s : Served) → Fits c →
      Serves host_disk view parts p c s.answer q → IsCaused (disk_of host_disk view parts p) (disk_of host_disk view parts q) s.answer →
      HasCode host_disk view parts p c s → (s.answer ≡ answer.Refused refusal.NoMemory → takes_memory c ≡ true) →
      ServesLine view parts p q c s
  line_served all p q c s fits serves caused coded memory = record {
    turn = λ g m stands.
        let v = serves g m stands in
        let old = disk_of host_disk view parts p in
        let new = disk_of host_disk view parts q in
        let t : Turn = record { line = spelling c; before = m; reply = Reported s.answer; after = v.after } in
        let turn : IsTurnOf host_disk view parts g p q t = record {
          stands = v.stands;
          size = v.leaves.size;
          any_moment = leaves_weaker {old = old} {new = new} {P = DenotesOne g old.sectors (candidates m ++ second m c)}
              (IsLeftIn g old.sectors t) (left_by g old.sectors t c fits refl) v.leaves.any_moment;
          faults = answer_reported old new s.answer caused;
        } in
        let run : IsRunOf host_disk view parts g m p q (t ∷ []) = record {
          after = v.after;
          run = (refl, (line.Command c, (fits, refl), (s.answer, refl, v.step)), refl);
          stands = v.stands;
          each = (q, turn, refl);
        } in
        (t, run, record { line = refl; reply = refl; code = coded g m stands; memory = memory });
    survives = runs_survive view parts all p q;
  }

  -- a command that was served, with its numbers, is a batch of one
  pub numbered : (p q : Power HostDevice S) (c : Command) (s : Served) (r : RawReply) → ServesLine view parts p q c s → r ≡ numbers_of s
      → ServesEach view parts p q (Some c ∷ []) (r ∷ [])
  numbered p q c s r serves is = record {
    turns = λ g m stands. let t = serves.turn g m stands in (t.0 ∷ [], t.1, ((s, t.2, is), tt));
    survives = serves.survives;
  }

  -- doing nothing serves an empty list of commands
  pub none_served : CrashesInRunsAreSurvived host_disk view parts → (p : Power HostDevice S) → ServesEach view parts p p [] []
  none_served all p = record {
    turns = λ g m stands. ([], record { after = m; run = refl; stands = stands; each = refl }, tt);
    survives = runs_survive view parts all p p;
  }

  -- serving some commands and then others serves all
  pub more_served : CrashesInRunsAreSurvived host_disk view parts → (a b c : Power HostDevice S) (cs ds : List (Option Command))
      (rs qs : List RawReply) → ServesEach view parts a b cs rs → ServesEach view parts b c ds qs →
      ServesEach view parts a c (cs ++ ds) (rs ++ qs)
  more_served all a b c cs ds rs qs first next = record {
    turns = λ g m stands.
        let f = first.turns g m stands in
        let n = next.turns g f.1.after f.1.stands in
        let run : IsRunOf host_disk view parts g m a c (f.0 ++ n.0) = record {
          after = n.1.after;
          run = run_on g m f.0 n.0 f.1.after n.1.after f.1.run n.1.run;
          stands = n.1.stands;
          each = turns_on g f.0 n.0 a b c f.1.each n.1.each;
        } in
        (f.0 ++ n.0, run, numbered_on g f.0 n.0 cs ds rs qs f.2 n.2);
    survives = runs_survive view parts all a c;
  }

  -- serving the next command of a list, and writing its reply, extends the batch by one
  pub served_next : CrashesInRunsAreSurvived host_disk view parts → (start now next : Power HostDevice S) (cs : List (Option Command))
      (rs : List RawReply) (i : ℕ) (c : Command) (r : RawReply) → i < length cs → i < length rs → slice_index_or cs i None ≡ Some c →
      ServesEach view parts start now (take i cs) (take i rs) → ServesEach view parts now next (Some c ∷ []) (r ∷ [])
      → ServesEach view parts start next (take (i + 1) cs) (take (i + 1) (slice_set rs i r))
  served_next all start now next cs rs i c r in_cs in_rs is first last =
      let both = more_served all start now next (take i cs) (Some c ∷ []) (take i rs) (r ∷ []) first last in
      let front : take (i + 1) cs ≡ take i cs ++ Some c ∷ [] = take_more cs i None in_cs
      ∙ ap (λ (x : Option Command). take i cs ++ x ∷ []) is in
      subst (λ (xs : List (Option Command)). ServesEach view parts start next xs (take (i + 1) (slice_set rs i r))) (sym front)
      (subst (λ (ys : List RawReply). ServesEach view parts start next (take i cs ++ Some c ∷ []) ys) (sym (take_more_set rs i r in_rs))
      both)
