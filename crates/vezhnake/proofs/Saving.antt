-- What a call does to a session, from what its kernel did and which device calls were collected.
use Rattle.vezhnake.proofs.Names.{ℕ, List, Option, Ok, Err, Result, Vec, Global, arith, drop, false, inl, inr, length, map, subst, sym, take, true, ⊎_elim}
use Rattle.vezhnake.proofs.Names.{nat_tests, length-map, nat_lt, Served, Command, RunFault, CallsFault, HostKernel, RawCommand, RawObject, RawReply, Session}
use Rattle.vezhnake.proofs.Names.{Status, command_of, save_stages, shown_object, shown_words, EndsAt, numbers_of, kept_status, status_for, [], RunsKernel}
use Rattle.vezhnake.proofs.Names.{CollectsCalls, CopiesOut, RunsSession, StepsSession, SavesSession, ServesBatch, ServesEachOver, ServesFront, ServesLineOver}
use Rattle.vezhnake.proofs.Names.{ShowsObject, ShowsPage, ShowsSession, ServesOne, refl, None}
use Rattle.std.proofs.Common.{◌≡◌, ◌∷◌}
use Rattle.model.specs.declared.command.Command.TheVariants as command
use Rattle.script.specs.declared.fault.RunFault.TheVariants as run
use Rattle.vezhnake.specs.declared.session.CallsFault.TheVariants as lost
use Rattle.vezhnake.specs.declared.status.Status.TheVariants as status

-- The parameters: a session before and after a call, and its kernel after the call.
module _ (old new : Session) (kernel : HostKernel) (same : new.kernel ≡ kernel) where
  -- ---- running a text

  module _ (answer : Vec ℕ Global) (answers : new.answer ≡ answer) (text : List ℕ) where
    ran_over : (ran : Result (Unit {0}) RunFault) → RunsKernel old.kernel kernel text [] answer.items ran →
        (kept : Result (Unit {0}) CallsFault) → CollectsCalls old new kept → RunsSession old new text ran kept
    ran_over ran runs kept collects = record {
      kernel = subst (λ (k : HostKernel). RunsKernel old.kernel k text [] new.answer.items ran) (sym same)
          (subst (λ (v : Vec ℕ Global). RunsKernel old.kernel kernel text [] v.items ran) (sym answers) runs);
      calls = collects;
    }

    module _ (buffer copied : List ℕ) (size : ℕ) where
      pub step_done : RunsKernel old.kernel kernel text [] answer.items (Ok tt) → CollectsCalls old new (Ok tt) →
          CopiesOut new.answer.items buffer copied size true → StepsSession old new text buffer copied size status.Done
      step_done runs collects copies = (ran_over (Ok tt) runs (Ok tt) collects, copies)

      pub step_small : RunsKernel old.kernel kernel text [] answer.items (Ok tt) → CollectsCalls old new (Ok tt) →
          CopiesOut new.answer.items buffer copied size false → StepsSession old new text buffer copied size status.SmallBuffer
      step_small runs collects copies = (ran_over (Ok tt) runs (Ok tt) collects, copies)

      pub step_short : RunsKernel old.kernel kernel text [] answer.items (Err run.Write) → CollectsCalls old new (Ok tt) → copied ≡ buffer →
          StepsSession old new text buffer copied size status.NoMemory
      step_short runs collects as_before = (inl (ran_over (Err run.Write) runs (Ok tt) collects), as_before)

      pub step_kept : (ran : Result (Unit {0}) RunFault) → RunsKernel old.kernel kernel text [] answer.items ran → (why : CallsFault) →
          CollectsCalls old new (Err why) → copied ≡ buffer → (result : Status) → result ≡ status_for why →
          StepsSession old new text buffer copied size result
      step_kept ran runs lost.NoMemory collects as_before result is = subst (StepsSession old new text buffer copied size) (sym is)
          (inr (ran, ran_over ran runs (Err lost.NoMemory) collects), as_before)
      step_kept ran runs lost.CallsLost collects as_before result is = subst (StepsSession old new text buffer copied size) (sym is)
          ((ran, ran_over ran runs (Err lost.CallsLost) collects), as_before)

  -- ---- serving commands

  module _ (before after : List RawReply) (n : ℕ) (rest : drop n after ≡ drop n before) (answers : new.answer ≡ old.answer) where
    front : (commands : List (Option Command)) → ServesEachOver old.kernel kernel (take n commands) (take n after) →
        (kept : Result (Unit {0}) CallsFault) → CollectsCalls old new kept → ServesFront old new commands before after n kept
    front commands serves kept collects = record {
      kernel = subst (λ (k : HostKernel). ServesEachOver old.kernel k (take n commands) (take n after)) (sym same) serves;
      rest = rest;
      answer = answers;
      calls = collects;
    }

    saved_all : ServesEachOver old.kernel kernel (take n save_stages) (take n after) → EndsAt true save_stages after n →
        (kept : Result (Unit {0}) CallsFault) → CollectsCalls old new kept → SavesSession old new before after n (kept_status kept)
    saved_all serves ends (Ok done) collects = (front save_stages serves (Ok done) collects, ends)
    saved_all serves ends (Err lost.NoMemory) collects = (front save_stages serves (Err lost.NoMemory) collects, ends)
    saved_all serves ends (Err lost.CallsLost) collects = (front save_stages serves (Err lost.CallsLost) collects, ends)

    pub saved : (commands : List (Option Command)) → commands ≡ save_stages →
        ServesEachOver old.kernel kernel (take n commands) (take n after) → EndsAt true commands after n →
        (kept : Result (Unit {0}) CallsFault) → CollectsCalls old new kept → (result : Status) → result ≡ kept_status kept →
        SavesSession old new before after n result
    saved commands are serves ends kept collects result is = subst (SavesSession old new before after n) (sym is)
        (saved_all (subst (λ (cs : List (Option Command)). ServesEachOver old.kernel kernel (take n cs) (take n after)) are serves)
        (subst (λ (cs : List (Option Command)). EndsAt true cs after n) are ends) kept collects)

    module _ (raws : List RawCommand) (serves : ServesEachOver old.kernel kernel (take n (map command_of raws)) (take n after))
        (ends : EndsAt false (map command_of raws) after n) where
      pub batch_done : CollectsCalls old new (Ok tt) → nat_lt n (length raws) ≡ false → ServesBatch old new raws before after n status.Done
      batch_done collects all =
          let most = ends.most in
          let each = length-map raws command_of in
          (front (map command_of raws) serves (Ok tt) collects, grind (arith, nat_tests))

      pub batch_bad : CollectsCalls old new (Ok tt) → nat_lt n (length raws) ≡ true →
          ServesBatch old new raws before after n status.BadCommand
      batch_bad collects some = (
        front (map command_of raws) serves (Ok tt) collects,
        grind (arith, nat_tests),
        ⊎_elim (λ none. none) (λ last. let never : false ≡ true = last.0 in cc) ends.ends,
      )

      pub batch_kept : (why : CallsFault) → CollectsCalls old new (Err why) → (result : Status) → result ≡ status_for why →
          ServesBatch old new raws before after n result
      batch_kept lost.NoMemory collects result is =
          subst (ServesBatch old new raws before after n) (sym is) (front (map command_of raws) serves (Err lost.NoMemory) collects, ends)
      batch_kept lost.CallsLost collects result is =
          subst (ServesBatch old new raws before after n) (sym is) (front (map command_of raws) serves (Err lost.CallsLost) collects, ends)

  -- ---- one command

  module _ (raw : RawCommand) (before after : RawReply) (answers : new.answer ≡ old.answer) where
    ends_behind : EndsAt false (map command_of (raw ∷ [])) (after ∷ []) 1
    ends_behind = record { most = omega arith; goes_on = λ on k below. absurd (omega (arith, below)); ends = inl refl }

    one_of : ServesEachOver old.kernel kernel (command_of raw ∷ []) (after ∷ []) → (kept : Result (Unit {0}) CallsFault) →
        CollectsCalls old new kept → ServesOne old new raw before after (kept_status kept)
    one_of serves (Ok done) collects =
        (1, (front (before ∷ []) (after ∷ []) 1 refl answers (map command_of (raw ∷ [])) serves (Ok done) collects, refl))
    one_of serves (Err lost.NoMemory) collects =
        (1, (front (before ∷ []) (after ∷ []) 1 refl answers (map command_of (raw ∷ [])) serves (Err lost.NoMemory) collects, ends_behind))
    one_of serves (Err lost.CallsLost) collects =
        (1, (front (before ∷ []) (after ∷ []) 1 refl answers (map command_of (raw ∷ [])) serves (Err lost.CallsLost) collects, ends_behind))

    pub one_served : ServesEachOver old.kernel kernel (command_of raw ∷ []) (after ∷ []) → (kept : Result (Unit {0}) CallsFault) →
        CollectsCalls old new kept → (result : Status) → result ≡ kept_status kept → ServesOne old new raw before after result
    one_served serves kept collects result is = subst (ServesOne old new raw before after) (sym is) (one_of serves kept collects)

  -- the numbers encode no command
  module _ (raw : RawCommand) (reply : RawReply) (answers : new.answer ≡ old.answer) (none : command_of raw ≡ None)
      (serves : ServesEachOver old.kernel kernel [] []) where
    ends_before : EndsAt false (map command_of (raw ∷ [])) (reply ∷ []) 0
    ends_before = record { most = omega arith; goes_on = λ on k below. absurd (omega (arith, below)); ends = inl none }

    none_of : (kept : Result (Unit {0}) CallsFault) → CollectsCalls old new kept
        → ServesFront old new (map command_of (raw ∷ [])) (reply ∷ []) (reply ∷ []) 0 kept
    none_of = front (reply ∷ []) (reply ∷ []) 0 refl answers (map command_of (raw ∷ [])) serves

    pub one_bad : CollectsCalls old new (Ok tt) → ServesOne old new raw reply reply status.BadCommand
    one_bad collects = (0, (none_of (Ok tt) collects, omega arith, none))

    pub one_kept : (why : CallsFault) → CollectsCalls old new (Err why) → (result : Status) → result ≡ status_for why →
        ServesOne old new raw reply reply result
    one_kept lost.NoMemory collects result is =
        subst (ServesOne old new raw reply reply) (sym is) (0, (none_of (Err lost.NoMemory) collects, ends_before))
    one_kept lost.CallsLost collects result is =
        subst (ServesOne old new raw reply reply) (sym is) (0, (none_of (Err lost.CallsLost) collects, ends_before))

  -- ---- shows

  module _ (number : ℕ) (reply : RawReply) (served : Served) (serves : ServesLineOver old.kernel kernel (command.Show number) served)
      (numbers : reply ≡ numbers_of served) (answers : new.answer ≡ old.answer) (kept : Result (Unit {0}) CallsFault)
      (collects : CollectsCalls old new kept) (result : Status) (is : result ≡ kept_status kept) where
    shown : ShowsSession old new number served reply result
    shown = record {
      kernel = subst (λ (k : HostKernel). ServesLineOver old.kernel k (command.Show number) served) (sym same) serves;
      numbers = numbers;
      answer = answers;
      kept = kept;
      calls = collects;
      is = is;
    }

    pub page_shown : (before after : List ℕ) → after ≡ shown_words served.answer before → ShowsPage old new number before after reply result
    page_shown before after words = (served, shown, words)

    pub object_shown : (before after : RawObject) → after ≡ shown_object served.answer before →
        ShowsObject old new number before after reply result
    object_shown before after object = (served, shown, object)
