-- Loads and stores as steps of the machine, over present frames.
use Rattle.kernel.proofs.Names.{ℕ, Bool, true, [], Option, None, Some, Result, Ok, Err, refl, sym, ap, arith, nat_tests, Answer, MemoryFault, Refusal, Command}
use Rattle.kernel.proofs.Names.{Geometry, Running, Up, touching, touched_count, Step, refusal_of, carried_out, reached, writable, writing, is_process}
use Rattle.kernel.proofs.Names.{is_running_process, with_word, IsLoaded, IsEarly, List, subst, IsErrOf, ObjectHeader, Object, header_at, IsSoundFrames, Frozen}
use Rattle.kernel.proofs.Names.{Saved, Machine, none_in_frame, renewing_none, word_frame, SameFrame, frame_refl, tests_at, IsUnprepared}
use Rattle.kernel.proofs.Names.{OnlyFetches, Parts, frames_of, objects_in, IsStored, KeepsSound, OverfillsStore, renews_none, Performs, machine_at, renewed_by}
use Rattle.kernel.proofs.Names.{AreSameUnlessFailed, ok_no_failure, AreCounted, BanksState, counted_on, length, IfOk, shown, answer_of, OnlyReads}
use Rattle.std.proofs.Common.{◌≡◌, ◌≢◌, ◌%◌, ◌<◌, ◌≤◌, ◌∷◌, ◌∙◌, ◌↔◌}
use Rattle.model.specs.declared.answer.Answer.TheVariants as answer
use Rattle.model.specs.declared.answer.Refusal.TheVariants as refusal
use Rattle.model.specs.declared.command.Command.TheVariants as command
use Rattle.kernel.proofs.Performing.{done_step, refused_step, refused_serves, standing, still_sound}
use Rattle.kernel.proofs.Performing.{still_machine, reported_cause, early_fine, shown_fine, shown_serves, unshown_serves}

-- the answer to a load
abbrev pub loaded_answer : Result ℕ MemoryFault → Answer
loaded_answer (Ok word) = answer.Value word
loaded_answer (Err why) = answer.MemoryFault why

-- what a load answers: a refusal, or the word or memory fault at its address
module _ (g : Geometry) (s : Running) (p address : ℕ) where
  pub load_early : (why : Refusal) → IsEarly s.now.objects p (Some why) →
      Step g (Up s) (command.Load p address) (answer.Refused why) (Up s)
  unfolding refusal_of
  load_early why early = search (arith, nat_tests, refused_step)

  module _ (process : is_process s.now.objects p ≡ true) (running : is_running_process s.now.objects p ≡ true) where
    pub load_step : (loaded : Result ℕ MemoryFault) → IsLoaded s.now.objects p address loaded →
        Step g (Up s) (command.Load p address) (loaded_answer loaded) (Up s)
    unfolding refusal_of carried_out
    load_step loaded is = search (arith, nat_tests, done_step)

-- what a store answers: a refusal, `Done` or a memory fault
module _ (g : Geometry) (s : Running) (p address word : ℕ) where
  pub store_early : (why : Refusal) → IsEarly s.now.objects p (Some why) →
      Step g (Up s) (command.Store p address word) (answer.Refused why) (Up s)
  unfolding refusal_of
  store_early why early = search (arith, nat_tests, refused_step)

  module _ (process : is_process s.now.objects p ≡ true) (running : is_running_process s.now.objects p ≡ true) where
    pub store_step : (page : ℕ) → writable (reached s.now.objects p address) ≡ Ok page →
        touched_count (touching s.touched (page ∷ [])) ≤ g.log → Step g (Up s) (command.Store p address word) answer.Done
        (Up (writing s (with_word s.now.objects page (address % 512) word) s.now.age (page ∷ []) s.renewed))
    unfolding refusal_of carried_out
    store_step page is within = search (arith, nat_tests, done_step)

    pub store_fault_step : (why : MemoryFault) → writable (reached s.now.objects p address) ≡ Err why →
        Step g (Up s) (command.Store p address word) (answer.MemoryFault why) (Up s)
    unfolding refusal_of carried_out
    store_fault_step why is = search (arith, nat_tests, done_step)

    pub store_full_step : (page : ℕ) → writable (reached s.now.objects p address) ≡ Ok page →
        g.log < touched_count (touching s.touched (page ∷ [])) → Step g (Up s) (command.Store p address word)
        (answer.Refused refusal.LogFull) (Up s)
    unfolding refusal_of
    store_full_step page is over = search (arith, nat_tests, refused_step)

-- the answer to a store
abbrev pub stored_answer : Result (Unit {0}) MemoryFault → Answer
stored_answer (Ok done) = answer.Done
stored_answer (Err why) = answer.MemoryFault why

loaded_unfailed : (loaded : Result ℕ MemoryFault) → loaded_answer loaded ≡ answer.Refused refusal.Fault → ⊥
loaded_unfailed loaded e = search (arith, nat_tests)

stored_unfailed : (stored : Result (Unit {0}) MemoryFault) → stored_answer stored ≡ answer.Refused refusal.Fault → ⊥
stored_unfailed stored e = search (arith, nat_tests)

-- two machines are equal if their objects, touched numbers and age are
machine_is : (age : ℕ) (new : Parts) (renewed now : List Bool) (frozen : Option Frozen) (saved : Saved) (to_move : ℕ) (os : List Object)
    (ts : List Bool) → objects_in new ≡ os → new.touched ≡ ts → renewed ≡ now →
    standing age renewed frozen saved to_move os ts ≡ machine_at age new now frozen saved to_move
machine_is age new renewed now frozen saved to_move os ts objects touched same = search (arith, nat_tests)

-- if a process can't act, a load or store of it is refused and changes nothing
module _ {S : Type 0} {parts : S → Parts} {Continues : S → S → Type 0} {age : ℕ} {old new : S} (p address : ℕ) (why : Refusal)
    (sound : IsSoundFrames (parts old).geometry age (frames_of (parts old))) (early : IsEarly (objects_in (parts old)) p (Some why))
    (snapshots : OnlyFetches parts Continues old new) (stayed : (parts old).failures < (parts new).failures → ⊥) where
  why_cause : (why ≡ refusal.Fault) ↔ ((parts old).failures < (parts new).failures)
  why_cause = reported_cause why (early_fine (objects_in (parts old)) p why early) stayed

  pub early_load : Performs age (parts old) (command.Load p address) (answer.Refused why) age (parts new)
  early_load =
      refused_serves snapshots.same sound snapshots.later
      why_cause (λ renewed frozen saved to_move other. load_early (parts old).geometry _ p address why early)

  pub early_store : (word : ℕ) → Performs age (parts old) (command.Store p address word) (answer.Refused why) age (parts new)
  early_store word =
      refused_serves snapshots.same sound snapshots.later
      why_cause (λ renewed frozen saved to_move other. store_early (parts old).geometry _ p address word why early)

-- the outcome of a load or store of a running process, once a read has fetched its objects
module _ {age : ℕ} {old mid : Parts} (new : Parts) (p address : ℕ) (sound : IsSoundFrames old.geometry age (frames_of old))
    (acts : IsEarly (objects_in old) p None) (same : mid ≡ old) where
  -- a command performed after a read that changed nothing is performed from the state before the read
  back : {c : Command} {a : Answer} → Performs age mid c a age new → Performs age old c a age new
  back {c} {a} performs = subst (λ (q : Parts). Performs age q c a age new) same performs

  process : is_process (objects_in mid) p ≡ true
  process = ap (λ (q : Parts). is_process (objects_in q) p) same ∙ acts.0

  running : is_running_process (objects_in mid) p ≡ true
  running = ap (λ (q : Parts). is_running_process (objects_in q) p) same ∙ acts.1

  mid_sound : IsSoundFrames mid.geometry age (frames_of mid)
  mid_sound = subst (λ (q : Parts). IsSoundFrames q.geometry age (frames_of q)) (sym same) sound

  pub load_answers : (loaded reported : Result ℕ MemoryFault) → loaded ≡ reported → IsLoaded (objects_in mid) p address loaded → new ≡ mid →
      Performs age old (command.Load p address) (loaded_answer reported) age new
  load_answers loaded reported is found read =
      subst (λ (r : Result ℕ MemoryFault). Performs age old (command.Load p address) (loaded_answer r) age new) is (back (record {
        step = λ renewed frozen saved to_move other.
            subst (λ (m : Machine). Step mid.geometry (machine_at age mid renewed frozen saved to_move) (command.Load p address)
            (loaded_answer loaded) m)
            (sym (still_machine read age renewed frozen saved to_move)) (load_step mid.geometry _ p address process running loaded found);
        stays = λ other. still_sound read mid_sound;
        later = omega (arith, ap (λ (q : Parts). q.failures) read);
        cause = (λ e. absurd (loaded_unfailed loaded e), λ rose. absurd (omega (arith, rose, ap (λ (q : Parts). q.failures) read)));
      }))

  -- if a store can't be prepared, it is refused and nothing changes
  pub store_refused : (word : ℕ) (why : Refusal) → IsUnprepared why → AreSameUnlessFailed mid new → mid.failures ≤ new.failures →
      (let r : Result (Result (Unit {0}) MemoryFault) Refusal = Err why in IsErrOf r refusal.Fault ↔ (mid.failures < new.failures)) →
      (let r : Result (Result (Unit {0}) MemoryFault) Refusal = Err why in IsErrOf r refusal.LogFull →
      OverfillsStore mid.geometry.log (objects_in mid) mid.touched p address) →
      Performs age old (command.Store p address word) (answer.Refused why) age new
  store_refused word refusal.LogFull of unchanged later cause full =
      let over = full refl in
      back (refused_serves unchanged mid_sound later (reported_cause refusal.LogFull (λ e. cc) (λ rose. let failed = cause.1 rose in cc))
      (λ renewed frozen saved to_move other. store_full_step mid.geometry _ p address word process running over.0 over.1 over.2))
  store_refused word refusal.Fault of unchanged later cause full =
      back (refused_serves unchanged mid_sound later (λ e. cause.0 refl, λ rose. refl)
      (λ renewed frozen saved to_move other. absurd (other refl)))
  store_refused word c of unchanged later cause full = absurd of

  -- the parameters: the word to store, and a preparation that left sizes and headers unchanged
  module _ (word : ℕ) (geometry : new.geometry ≡ mid.geometry) (headers : new.headers ≡ mid.headers) (later : mid.failures ≤ new.failures)
    where
      -- a store changes at most one page, and sound frames stay sound
      stored_frame : (stored : Result (Unit {0}) MemoryFault) →
          IsStored mid.geometry.log (objects_in mid) mid.touched p address word (objects_in new) new.touched stored →
          SameFrame (objects_in mid) (objects_in new)
      stored_frame (Ok done) is = subst (λ (us : List Object). SameFrame (objects_in mid) us) (sym is.2)
          (word_frame (objects_in mid) is.0 (address % 512) word)
      stored_frame (Err why) is = subst (λ (us : List Object). SameFrame (objects_in mid) us) (sym is.1) (frame_refl (objects_in mid))

      none_renewed : (renewed : List Bool) → SameFrame (objects_in mid) (objects_in new) → renewed_by renewed mid new ≡ renewed
      none_renewed renewed frame = search (arith, nat_tests, renewing_none, none_in_frame)

      stored_step : (stored : Result (Unit {0}) MemoryFault) →
          IsStored mid.geometry.log (objects_in mid) mid.touched p address word (objects_in new) new.touched stored →
          (renewed : List Bool) (frozen : Option Frozen) (saved : Saved) (to_move : ℕ) →
          Step mid.geometry (machine_at age mid renewed frozen saved to_move) (command.Store p address word) (stored_answer stored)
          (machine_at age new (renewed_by renewed mid new) frozen saved to_move)
      stored_step (Ok done) is renewed frozen saved to_move =
          subst (λ (m : Machine). Step mid.geometry (machine_at age mid renewed frozen saved to_move) (command.Store p address word)
          answer.Done m)
          (machine_is age new renewed (renewed_by renewed mid new) frozen saved to_move
          (with_word (objects_in mid) is.0 (address % 512) word)
          (touching mid.touched (is.0 ∷ [])) is.2 is.3 (sym (none_renewed renewed (stored_frame (Ok done) is))))
          (store_step mid.geometry _ p address word process running is.0 is.1
          (subst (λ (ts : List Bool). touched_count ts ≤ mid.geometry.log) is.3 is.4))
      stored_step (Err why) is renewed frozen saved to_move =
          subst (λ (m : Machine). Step mid.geometry (machine_at age mid renewed frozen saved to_move) (command.Store p address word)
          (answer.MemoryFault why) m)
          (machine_is age new renewed (renewed_by renewed mid new) frozen saved to_move (objects_in mid) mid.touched is.1 is.2
          (sym (none_renewed renewed (stored_frame (Err why) is)))) (store_fault_step mid.geometry _ p address word process running why
          is.0)

      pub store_answers : (stored reported : Result (Unit {0}) MemoryFault) → stored ≡ reported →
          IsStored mid.geometry.log (objects_in mid) mid.touched p address word (objects_in new) new.touched stored →
          KeepsSound mid new →
          (let r : Result (Result (Unit {0}) MemoryFault) Refusal = Ok stored in IsErrOf r refusal.Fault ↔ (mid.failures < new.failures)) →
          Performs age old (command.Store p address word) (stored_answer reported) age new
      store_answers stored reported is found keeps cause =
          subst (λ (r : Result (Unit {0}) MemoryFault). Performs age old (command.Store p address word) (stored_answer r) age new) is
          (back (record {
            step = λ renewed frozen saved to_move other. stored_step stored found renewed frozen saved to_move;
            stays = λ other. record {
              renews = renews_none mid new (λ n. ap (λ (hs : List ObjectHeader). (header_at hs n).allocations) headers)
                  (λ n used. (tests_at (objects_in mid) (objects_in new) (stored_frame stored found) n).free ∙ used);
              sound = subst (λ (g : Geometry). IsSoundFrames g age (frames_of new)) (sym geometry) (keeps age mid_sound);
              geometry = geometry;
            };
            later = later;
            cause = (λ e. absurd (stored_unfailed stored e), λ rose. absurd (ok_no_failure stored (cause.1 rose)));
          }))

abbrev IsCountedAt : Parts → BanksState → Type 0
IsCountedAt p s = AreCounted p.geometry (objects_in p) s

-- after a store the banks' counts still match the objects
pub stored_counted : (before after : Parts) (s : BanksState) (p address word : ℕ) (r : Result (Unit {0}) MemoryFault) →
    after.geometry ≡ before.geometry → IsStored before.geometry.log (objects_in before) before.touched p address word (objects_in after)
    after.touched r → IsCountedAt before s → IsCountedAt after s
stored_counted before after s p address word (Ok done) geometry stored h =
    subst (λ (X : Type 0). X) (λ k. AreCounted (sym geometry k) (sym stored.2 k) s)
    (counted_on (word_frame (objects_in before) stored.0 _ word) h)
stored_counted before after s p address word (Err why) geometry stored h = search (arith, nat_tests)

-- what `show` answers, for the objects before and after it
module _ {S : Type 0} {parts : S → Parts} {Continues : S → S → Type 0} (before after : S) (n : ℕ) where
  pub shows : (age : ℕ) (r : Result Answer Refusal) → n < length (parts before).headers →
      IsSoundFrames (parts before).geometry age (frames_of (parts before)) → IfOk r (λ a. a ≡ shown (objects_in (parts before)) n) →
      OnlyReads parts Continues before after r → Performs age (parts before) (command.Show n) (answer_of r) age (parts after)
  shows age (Ok a) known sound reported reads = shown_serves age (parts before) (parts after) n a known reads.same sound reported
  shows age (Err why) known sound reported reads =
      unshown_serves age (parts before) (parts after) n reads.snapshots.same sound reads.snapshots.later known why reads.refusals
      reads.cause

pub shows_fine : (os : List Object) (n : ℕ) (r : Result Answer Refusal) → IfOk r (λ a. a ≡ shown os n) →
    IfOk r (λ a. a ≢ answer.Refused refusal.Fault)
shows_fine os n (Ok a) reported = shown_fine os n a reported
shows_fine os n (Err why) reported = tt
