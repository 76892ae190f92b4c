-- Steps of the machine: which refusal applies, and what is carried out, over present frames.
use Rattle.kernel.proofs.Names.{ℕ, Bool, true, false, List, Option, None, Some, refl, sym, ap, subst, inl, arith, nat_tests, Answer, Refusal, Command}
use Rattle.kernel.proofs.Names.{Invocation, Geometry, Object, Effect, invoke, Running, Machine, Up, renewing, touching, touched_count, object_count, Step}
use Rattle.kernel.proofs.Names.{refusal_of, carried_out, writing, shown, is_process, is_running_process, IsEarly, length, Result, Ok, Err, ResultCode}
use Rattle.kernel.proofs.Names.{IsSoundFrames, Frozen, Saved, none_given_up, renewing_none}
use Rattle.kernel.proofs.Names.{Parts, Renews, frames_of, objects_in, keepable_count, IsErr, IsErrOf, Invoked, Invokes, KeepsSoundFrames, TellsState, Failed}
use Rattle.kernel.proofs.Names.{renews_none, Performs, machine_at, renewed_by, IsUnread, AreSameUnlessFailed, unrisen}
use Rattle.kernel.specs.Machine.{StaysSound}
use Rattle.std.proofs.Common.{◌≡◌, ◌+◌, ◌^◌, ◌<◌, ◌≤◌, ◌∙◌, ◌↔◌}
use Rattle.model.specs.declared.answer.Answer.TheVariants as answer
use Rattle.model.specs.declared.answer.Refusal.TheVariants as refusal
use Rattle.model.specs.declared.command.Command.TheVariants as command

-- the answer is the refusal that applies; or, if none does, the command is carried out
abbrev AnswersBy : Geometry → Running → Command → Answer → Machine → Option Refusal → Type 0
AnswersBy g s c a after r = elim r [
  | Some why ↦ (a ≡ answer.Refused why) × (after ≡ Up s)
  | None ↦ (a ≡ (carried_out g s c).answer) × (after ≡ Up (carried_out g s c).after)
]

pub refused_step : (g : Geometry) (s : Running) (c : Command) (why : Refusal) → refusal_of g s c ≡ Some why →
    Step g (Up s) c (answer.Refused why) (Up s)
refused_step g s c why is = inl (subst (AnswersBy g s c (answer.Refused why) (Up s)) (sym is) (refl, refl))

pub done_step : (g : Geometry) (s : Running) (c : Command) (a : Answer) (after : Machine) → refusal_of g s c ≡ None →
    a ≡ (carried_out g s c).answer → after ≡ Up (carried_out g s c).after → Step g (Up s) c a after
done_step g s c a after none reported then = inl (subst (AnswersBy g s c a after) (sym none) (reported, then))

-- how an invocation steps, from its process, the age and its effect
module _ (g : Geometry) (s : Running) (i : Invocation) where
  -- if a process can't act, its invocation is refused for that reason
  pub early_step : (why : Refusal) → IsEarly s.now.objects i.process (Some why) →
      Step g (Up s) (command.Invoke i) (answer.Refused why) (Up s)
  unfolding refusal_of
  early_step why early = search (arith, nat_tests, refused_step)

  module _ (process : is_process s.now.objects i.process ≡ true) (running : is_running_process s.now.objects i.process ≡ true) where
    pub worn_step : 2 ^ 62 ≤ s.now.age → Step g (Up s) (command.Invoke i) (answer.Refused refusal.Worn) (Up s)
    unfolding refusal_of
    worn_step old = search (arith, nat_tests, refused_step)

    module _ (young : s.now.age < 2 ^ 62) where
      pub stalled_step : invoke g s.now.objects i ≡ None → Step g (Up s) (command.Invoke i) (answer.Refused refusal.Stalled) (Up s)
      unfolding refusal_of
      stalled_step none = search (arith, nat_tests, refused_step)

      pub full_step : (e : Effect) → invoke g s.now.objects i ≡ Some e → g.log < touched_count (touching s.touched e.written) →
          Step g (Up s) (command.Invoke i) (answer.Refused refusal.LogFull) (Up s)
      unfolding refusal_of
      full_step e is over = search (arith, nat_tests, refused_step)

      pub invoke_step : (e : Effect) → invoke g s.now.objects i ≡ Some e → touched_count (touching s.touched e.written) ≤ g.log →
          Step g (Up s) (command.Invoke i) answer.Done (Up (writing s e.objects (s.now.age + 1) e.written
          (renewing s.renewed s.now.objects e.objects)))
      unfolding refusal_of carried_out
      invoke_step e is within = search (arith, nat_tests, done_step)

-- `show` answers with the object's parts
module _ (g : Geometry) (s : Running) (n : ℕ) where
  pub show_step : n < object_count g → (a : Answer) → a ≡ shown s.now.objects n → Step g (Up s) (command.Show n) a (Up s)
  unfolding refusal_of carried_out
  show_step within a reported = search (arith, nat_tests, done_step)

  pub bad_number_step : object_count g ≤ n → Step g (Up s) (command.Show n) (answer.Refused refusal.BadNumber) (Up s)
  unfolding refusal_of
  bad_number_step past = search (arith, nat_tests, refused_step)

  pub show_no_memory : n < object_count g → Step g (Up s) (command.Show n) (answer.Refused refusal.NoMemory) (Up s)
  unfolding refusal_of
  show_no_memory within = search (arith, nat_tests)

-- the reason why a process can't act is never `Fault`
pub early_fine : (os : List Object) (p : ℕ) (why : Refusal) → IsEarly os p (Some why) → why ≡ refusal.Fault → ⊥
early_fine os p why early is = search (arith, nat_tests)

-- if there is no reason why a process can't act, it is running
pub early_none : (os : List Object) (p : ℕ) (o : Option Refusal) → ((why : Refusal) → o ≡ Some why → ⊥) → IsEarly os p o → IsEarly os p None
early_none os p o other early = search (arith, nat_tests)

none_renewed : (p : Parts) (renewed : List Bool) → renewed_by renewed p p ≡ renewed
none_renewed p renewed = search (arith, nat_tests, renewing_none, none_given_up)

-- if the parts stay the same, the machine does
module _ {old new : Parts} (same : new ≡ old) where
  pub still_machine : (age : ℕ) (renewed : List Bool) (frozen : Option Frozen) (saved : Saved) (to_move : ℕ) →
      machine_at age new (renewed_by renewed old new) frozen saved to_move ≡ machine_at age old renewed frozen saved to_move
  still_machine age renewed frozen saved to_move =
      ap (λ (p : Parts). machine_at age p (renewed_by renewed old p) frozen saved to_move) same
      ∙ ap (λ (rs : List Bool). machine_at age old rs frozen saved to_move) (none_renewed old renewed)

  pub still_sound : {age : ℕ} → IsSoundFrames old.geometry age (frames_of old) → StaysSound old new age
  still_sound {age} sound = subst (λ (p : Parts). StaysSound old p age) (sym same)
      (record { renews = renews_none old old (λ n. refl) (λ n used. used); sound = sound; geometry = refl })

-- a refusal that changes nothing is performed, if the frames are sound
pub refused_serves : {age : ℕ} {old new : Parts} {c : Command} {why : Refusal} → AreSameUnlessFailed old new →
    IsSoundFrames old.geometry age (frames_of old) → old.failures ≤ new.failures → ((why ≡ refusal.Fault) ↔ (old.failures < new.failures)) →
    ((renewed : List Bool) (frozen : Option Frozen) (saved : Saved) (to_move : ℕ) → (why ≡ refusal.Fault → ⊥) →
    Step old.geometry (machine_at age old renewed frozen saved to_move) c (answer.Refused why)
    (machine_at age old renewed frozen saved to_move)) → Performs age old c (answer.Refused why) age new
refused_serves {age} {old} {new} {c} {why} unless sound later cause step = record {
  step = λ renewed frozen saved to_move other.
      subst (λ (m : Machine). Step old.geometry (machine_at age old renewed frozen saved to_move) c (answer.Refused why) m)
      (sym (still_machine (same other) age renewed frozen saved to_move)) (step renewed frozen saved to_move
      (λ e. other (ap answer.Refused e)));
  stays = λ other. still_sound (same other) sound;
  later = later;
  cause = (λ e. let f : why ≡ refusal.Fault = cc in cause.0 f, λ rose. ap answer.Refused (cause.1 rose));
}
  where
    same : (answer.Refused why ≡ answer.Refused refusal.Fault → ⊥) → new ≡ old
    same other = unless (unrisen old.failures new.failures later (λ rose. other (ap answer.Refused (cause.1 rose))))

-- if no call failed, a refusal other than `Fault` reports the cause correctly
pub reported_cause : (why : Refusal) {X : Type 0} → (why ≡ refusal.Fault → ⊥) → (X → ⊥) → (why ≡ refusal.Fault) ↔ X
reported_cause why other stayed = (λ e. absurd (other e), λ x. absurd (stayed x))

abbrev pub standing : ℕ → List Bool → Option Frozen → Saved → ℕ → List Object → List Bool → Machine
standing age renewed frozen saved to_move os ts = Up
    (record {
      now = record { objects = os; age = age };
      touched = ts;
      renewed = renewed;
      frozen = frozen;
      saved = saved;
      to_move = to_move;
    })

-- if an invocation had its effect, the process performs it, with the answer `Done`
done_serves : {age : ℕ} {old new : Parts} {i : Invocation} → age < 2 ^ 62 → is_process (objects_in old) i.process ≡ true →
    is_running_process (objects_in old) i.process ≡ true → IsSoundFrames old.geometry age (frames_of old) →
    Invokes old.geometry i (objects_in old) old.touched (objects_in new) new.touched → KeepsSoundFrames old new → Renews old new →
    new.geometry ≡ old.geometry → old.failures ≤ new.failures → (old.failures < new.failures → ⊥) →
    Performs age old (command.Invoke i) answer.Done (age + 1) new
done_serves {age} {old} {new} {i} young process running sound invokes keeps renews geometry later stayed = record {
  step = λ renewed frozen saved to_move other.
      subst (Step old.geometry (machine_at age old renewed frozen saved to_move) (command.Invoke i) answer.Done)
      (made renewed frozen saved to_move)
      (invoke_step old.geometry _ i process running young invokes.0 invokes.1
      (subst (λ (ts : List Bool). touched_count ts ≤ old.geometry.log) invokes.3 invokes.4));
  stays = λ other. record {
    renews = renews;
    sound = subst (λ (g : Geometry). IsSoundFrames g (age + 1) (frames_of new)) (sym geometry) (keeps age young sound);
    geometry = geometry;
  };
  later = later;
  cause = (λ e. cc, λ rose. absurd (stayed rose));
}
  where
    made : (renewed : List Bool) (frozen : Option Frozen) (saved : Saved) (to_move : ℕ) →
        standing (age + 1) (renewing renewed (objects_in old) invokes.0.objects) frozen saved to_move invokes.0.objects
        (touching old.touched invokes.0.written)
        ≡ machine_at (age + 1) new (renewed_by renewed old new) frozen saved to_move
    made renewed frozen saved to_move =
        λ k. standing (age + 1) (renewing renewed (objects_in old) (sym invokes.2 k)) frozen saved to_move (sym invokes.2 k)
        (sym invokes.3 k)

-- an invocation of a number that is no process is refused with `NoProcess`
pub no_process_serves : (p : Parts) (age : ℕ) (i : Invocation) → IsSoundFrames p.geometry age (frames_of p) →
    is_process (objects_in p) i.process ≡ false → Performs age p (command.Invoke i) (answer.Refused refusal.NoProcess) age p
no_process_serves p age i sound none =
    refused_serves (λ stayed. refl) sound
    (omega arith) (reported_cause refusal.NoProcess (λ e. cc) (λ rose. absurd (omega (arith, rose))))
    (λ renewed frozen saved to_move other. early_step p.geometry _ i refusal.NoProcess none)

-- what a refused invocation answers
module _ {S : Type 0} (parts : S → Parts) (Continues : S → S → Type 0) (age : ℕ) (old new : S) (i : Invocation)
    (process : is_process (objects_in (parts old)) i.process ≡ true) (sound :
    IsSoundFrames (parts old).geometry age (frames_of (parts old)))
    (young : age < 2 ^ 62) where
  module _ (f : Refusal) (said : Invoked parts Continues old new i (Err f)) where
    refused : (why : Refusal) → ((why ≡ refusal.Fault) ↔ (f ≡ refusal.Fault)) →
        ((renewed : List Bool) (frozen : Option Frozen) (saved : Saved) (to_move : ℕ) → (why ≡ refusal.Fault → ⊥) →
        Step (parts old).geometry (machine_at age (parts old) renewed frozen saved to_move) (command.Invoke i) (answer.Refused why)
        (machine_at age (parts old) renewed frozen saved to_move)) →
        Performs age (parts old) (command.Invoke i) (answer.Refused why) age (parts new)
    refused why same step =
        refused_serves said.same sound said.later (
          λ e. said.cause.0 (ap (λ (k : Refusal). let r : Result (Option ResultCode) Refusal = Err k in r) (same.0 e)),
          λ rose. let failed = said.cause.1 rose in same.1 cc,
        ) step

  pub fault_serves : (f : Refusal) → TellsState (objects_in (parts old)) i (Err f) → Invoked parts Continues old new i (Err f) →
      Performs age (parts old) (command.Invoke i) (answer.Refused f) age (parts new)
  fault_serves refusal.NotRunning tells said =
      refused refusal.NotRunning said refusal.NotRunning (λ e. cc, λ e. cc)
      (λ renewed frozen saved to_move other. early_step (parts old).geometry _ i refusal.NotRunning (process, tells))
  fault_serves refusal.Stalled tells said =
      refused refusal.Stalled said refusal.Stalled (λ e. cc, λ e. cc)
      (λ renewed frozen saved to_move other. stalled_step (parts old).geometry _ i process tells young (said.stalled refl))
  fault_serves refusal.LogFull tells said =
      let over = said.full refl in
      refused refusal.LogFull said refusal.LogFull (λ e. cc, λ e. cc)
      (λ renewed frozen saved to_move other. full_step (parts old).geometry _ i process tells young over.0 over.1 over.2)
  fault_serves refusal.Fault tells said =
      refused refusal.Fault said refusal.Fault (λ e. cc, λ e. cc) (λ renewed frozen saved to_move other. absurd (other refl))
  fault_serves c tells said = absurd tells

  -- if an invocation returned a result code, the process performs it
  pub invoked_serves : (code : Option ResultCode) → TellsState (objects_in (parts old)) i (Ok code) →
      Invoked parts Continues old new i (Ok code) → Performs age (parts old) (command.Invoke i) answer.Done (age + 1) (parts new)
  invoked_serves code runs said =
      done_serves young process runs sound said.done said.sound said.renews said.geometry said.later
      (λ rose. let failed = said.cause.1 rose in cc)

-- `show` is performed if the answer has the object's parts and nothing changed
pub shown_serves : (age : ℕ) (old new : Parts) (n : ℕ) (a : Answer) → n < length old.headers → new ≡ old →
    IsSoundFrames old.geometry age (frames_of old) → a ≡ shown (objects_in old) n → Performs age old (command.Show n) a age new
shown_serves age old new n a known same sound reported = record {
  step = λ renewed frozen saved to_move other.
      subst (λ (m : Machine). Step old.geometry (machine_at age old renewed frozen saved to_move) (command.Show n) a m)
      (sym (still_machine same age renewed frozen saved to_move))
      (show_step old.geometry _ n (subst (λ (m : ℕ). n < m) (keepable_count old.geometry age old sound.keepable) known) a reported);
  stays = λ other. still_sound same sound;
  later = omega (arith, ap (λ (p : Parts). p.failures) same);
  cause = (
    λ e. let d : shown (objects_in old) n ≡ answer.Refused refusal.Fault = sym reported ∙ e in cc,
    λ rose. absurd (omega (arith, rose, ap (λ (p : Parts). p.failures) same)),
  );
}

module _ (age : ℕ) (old new : Parts) (n : ℕ) (same : AreSameUnlessFailed old new) (sound : IsSoundFrames old.geometry age (frames_of old))
    (later : old.failures ≤ new.failures) where
  pub bad_number_serves : length old.headers ≤ n → (old.failures < new.failures → ⊥) →
      Performs age old (command.Show n) (answer.Refused refusal.BadNumber) age new
  bad_number_serves past stayed =
      refused_serves same sound later (reported_cause refusal.BadNumber (λ e. cc) stayed)
      (λ renewed frozen saved to_move other. bad_number_step old.geometry _ n
      (subst (λ (m : ℕ). m ≤ n) (keepable_count old.geometry age old sound.keepable) past))

  show_no_memory_serves : n < length old.headers → (old.failures < new.failures → ⊥) →
      Performs age old (command.Show n) (answer.Refused refusal.NoMemory) age new
  show_no_memory_serves known stayed =
      refused_serves same sound later (reported_cause refusal.NoMemory (λ e. cc) stayed)
      (λ renewed frozen saved to_move other. show_no_memory old.geometry _ n
      (subst (λ (m : ℕ). n < m) (keepable_count old.geometry age old sound.keepable) known))

  -- a refused `show` is performed if nothing changed
  pub unshown_serves : n < length old.headers → (why : Refusal) → IsUnread why →
      (let r : Result Answer Refusal = Err why in IsErrOf r refusal.Fault ↔ (old.failures < new.failures)) →
      Performs age old (command.Show n) (answer.Refused why) age new
  unshown_serves known refusal.NoMemory of cause = show_no_memory_serves known (λ rose. let failed = cause.1 rose in cc)
  unshown_serves known refusal.Fault of cause =
      refused_serves same sound later (λ e. cause.0 refl, λ rose. refl) (λ renewed frozen saved to_move other. absurd (other refl))
  unshown_serves known why of cause = absurd of

-- if a call succeeded, the count of failures didn't rise
pub ok_stayed : {X : Type 0} (early : Option Refusal) → (let r : Result (Option Refusal) Failed = Ok early in IsErr r ↔ X) → X → ⊥
ok_stayed early cause x = let never : false ≡ true = cause.1 x in cc

-- the answer with an object's parts isn't `Fault`
pub shown_fine : (os : List Object) (n : ℕ) (a : Answer) → a ≡ shown os n → a ≡ answer.Refused refusal.Fault → ⊥
shown_fine os n a reported e = let d : shown os n ≡ answer.Refused refusal.Fault = sym reported ∙ e in cc
