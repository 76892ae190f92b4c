-- Journaling a page: the machine after it, what a crash leaves, and its outcomes.
use Rattle.kernel.proofs.Names.{ℕ, Bool, true, false, not, Option, None, Some, List, [], map, length, set, length-set, refl, sym, ap, subst, arith, nat_lt}
use Rattle.kernel.proofs.Names.{slice_index_or, All, get_or-map, map-set_same, nat_tests, get_or_past, map-set, All-nil, Refusal, NotPage, Renewed, Cap}
use Rattle.kernel.proofs.Names.{Capability, Frame, ObjectHeader, Geometry, Content, Object, Role, blank_frame, conveyed, frame_at, header_at, headers, held_at}
use Rattle.kernel.proofs.Names.{object_of, objects_of, AreKeepable, AreKeptWords, IsCurrent, IsKeepable, IsSoundFrames, MayBeKept, caps_in, Frozen, Running}
use Rattle.kernel.proofs.Names.{Saved, Up, is_page, map_content, role_of, words_in, IsOfKind, IsSound, object_count, Step, carried_out, refusal_of, second}
use Rattle.kernel.proofs.Names.{unjournaled, unless, World, content_at, owner_at, with_content, journal_keeps_sound, journaled_saved, with_words, SavedFrames}
use Rattle.kernel.proofs.Names.{maps_same, Parts, frames_of, objects_in, at_set, frame_in, keepable_count, is_page_now, is_page_role, is_still_saved, Snapshots}
use Rattle.kernel.proofs.Names.{journaled, FrozenFrames, next_journaled, words_now, BanksState, saved_of, IsSoundSaved, AreSoundTogether, base_of}
use Rattle.kernel.proofs.Names.{renewed_since, running_of, allocations_at, base_saved, renewed_at, Ok, Err, IsErrOf, Image, Disk, Holds, LeavesOneOf, left_in}
use Rattle.kernel.proofs.Names.{whole, IsJournalAnswer, IsRefused, IsTurnedAway, View, MakesNoDeviceCall, Live, LeavesOne, IsUp, disk_at, running, IsCaused, ServesUp}
use Rattle.kernel.proofs.Names.{ltb-false, ltb-true}
use Rattle.std.proofs.Common.{◌≡◌, ◌+◌, ◌^◌, ◌<◌, ◌≤◌, ◌&&◌, ◌∷◌, ◌∙◌, ◌==◌, ◌⊎◌}
use Rattle.std.specs.Prelude.{if◌then◌else◌}
use Rattle.model.specs.declared.answer.Answer.TheVariants as answer
use Rattle.model.specs.declared.answer.Refusal.TheVariants as refusal
use Rattle.model.specs.declared.command.Command.TheVariants as command
use Rattle.model.specs.declared.object.Content.TheVariants as content
use Rattle.model.specs.declared.object.Role.TheVariants as role
use Rattle.model.specs.Step as machine
use Rattle.kernel.proofs.Performing.{done_step, refused_step}
use Rattle.kernel.proofs.Machines.{header_in, leaves_along, leaves_either}
use Rattle.kernel.proofs.Stages.{frames_later, frozen_none, frozen_some, none_there, same_running, some_there, stays_sound}
use Rattle.kernel.proofs.Acts.{failed, failed_cause, is_up, other_cause, refused, refused_again, with_store}

-- ---- steps

module _ (g : Geometry) (s : Running) (n : ℕ) where
  pub journal_worn : 2 ^ 62 ≤ s.now.age → refusal_of g s (command.Journal n) ≡ Some refusal.Worn
  unfolding refusal_of
  journal_worn old = search (arith, nat_tests)

  module _ (young : s.now.age < 2 ^ 62) where
    is_young : nat_lt s.now.age (2 ^ 62) ≡ true
    is_young = grind (arith, nat_tests)

    pub journal_running : (f : Frozen) → s.frozen ≡ Some f → refusal_of g s (command.Journal n) ≡ Some refusal.CheckpointRunning
    unfolding refusal_of
    journal_running f is = search (arith, nat_tests)

    module _ (none : s.frozen ≡ None) where
      pub journal_pending : (s.saved.entries ≡ 0 → ⊥) → refusal_of g s (command.Journal n) ≡ Some refusal.MigrationPending
      unfolding refusal_of
      journal_pending more = search (arith, nat_tests)

      module _ (home : s.saved.entries ≡ 0) where
        is_home : (s.saved.entries == 0) ≡ true
        is_home = grind (arith, nat_tests)

        pub journal_unknown : object_count g ≤ n → refusal_of g s (command.Journal n) ≡ Some refusal.BadNumber
        unfolding refusal_of
        journal_unknown past = search (arith, nat_tests)

        module _ (known : n < object_count g) where
          pub journal_no_page : is_page (content_at s.now.objects n) ≡ false →
              refusal_of g s (command.Journal n) ≡ Some (refusal.NotJournaled NotPage)
          unfolding refusal_of
          journal_no_page other = search (arith, nat_tests)

          module _ (page : is_page (content_at s.now.objects n) ≡ true) where
            pub journal_renewed : machine.is_saved_page s n ≡ false → refusal_of g s (command.Journal n)
                ≡ Some (refusal.NotJournaled Renewed)
            unfolding refusal_of
            journal_renewed other = search (arith, nat_tests)

            pub journal_step : machine.is_saved_page s n ≡ true →
                Step g (Up s) (command.Journal n) (answer.Journaled (s.saved.generation + 2))
                (let now : World = record { objects = s.now.objects; age = s.now.age + 1 } in Up
                (record s { now = now; saved = machine.journaled s n; to_move = 1 }))
            unfolding refusal_of carried_out
            journal_step saved = search (arith, nat_tests, done_step)

        -- the states that `journal` may save: the journaled one, or none if a refusal applies
        abbrev seconds : Bool → Option Frozen → Bool → Bool → Bool → List Saved
        seconds young frozen home page saved = elim (unless young refusal.Worn (elim frozen [
          | Some f ↦ Some refusal.CheckpointRunning
          | None ↦ unless home refusal.MigrationPending (unless page (refusal.NotJournaled NotPage)
              (unless saved (refusal.NotJournaled Renewed) None))
        ])) [ None ↦ machine.journaled s n ∷ [] | Some why ↦ [] ]

        pub second_of_journal : is_page (content_at s.now.objects n) ≡ true → machine.is_saved_page s n ≡ true →
            second (Up s) (command.Journal n) ≡ machine.journaled s n ∷ []
        second_of_journal page saved = λ k. seconds (is_young k) (none k) (is_home k) (page k) (saved k)

-- ---- pages

page_by_role : (r : Role) (c : Content Cap) → r ≡ role_of c → is_page_role r ≡ is_page c
page_by_role r c is = search (arith, nat_tests)

page_through : (f : Cap → Capability) (c : Content Cap) → is_page (map_content f c) ≡ is_page c
page_through f c = search (arith, nat_tests)

words_through : (f : Cap → Capability) (c : Content Cap) → is_page c ≡ true → map_content f c ≡ content.Page (words_in c)
words_through f c is = search (arith, nat_tests)

role_of_page : (c : Content Cap) → is_page c ≡ true → role_of c ≡ role.Page
role_of_page c is = search (arith, nat_tests)

kind_of_page : (g : Geometry) (n : ℕ) (words : List ℕ) (c : Content Cap) → is_page c ≡ true → IsOfKind g n c →
    IsOfKind {C = Cap} g n (content.Page words)
kind_of_page g n words c is kind = search (arith, nat_tests)

kept_words : (g : Geometry) (age : ℕ) (c : Content Cap) → is_page c ≡ true → MayBeKept g age c → AreKeptWords 512 (words_in c)
kept_words g age c is kept = search (arith, nat_tests)

content_is : (fs : List Frame) (n : ℕ) → content_at (objects_of fs) n ≡ map_content (conveyed (headers fs)) (frame_at fs n).content
unfolding objects_of
content_is fs n = ap (λ (o : Object). o.content) (get_or-map (object_of (headers fs)) fs n blank_frame)

-- an object is a page exactly if its frame's content is one
module _ (g : Geometry) (age : ℕ) (fs : List Frame) (n : ℕ) (keepable : AreKeepable g age fs) where
  content_page : is_page (frame_at fs n).content ≡ is_page (content_at (objects_of fs) n)
  content_page = sym (page_through (conveyed (headers fs)) (frame_at fs n).content) ∙ ap is_page (sym (content_is fs n))

  pub page_at : is_page_role (frame_at fs n).header.role ≡ is_page (content_at (objects_of fs) n)
  page_at = search (arith, nat_tests, page_by_role, content_page, get_or_past)

  pub page_known : is_page (content_at (objects_of fs) n) ≡ true → n < object_count g
  page_known page = search (arith, nat_tests, get_or_past, content_page)

-- ---- frames, one with other words

module _ (fs : List Frame) (n : ℕ) (words : List ℕ) where
  abbrev page : Frame
  page = with_words words (frame_at fs n)

  same_headers : headers (set fs n (with_words words (frame_at fs n))) ≡ headers fs
  same_headers = map-set_same (λ (f : Frame). f.header) fs n page blank_frame refl

  header_is : (xs : List Frame) (m : ℕ) → (frame_at xs m).header ≡ header_at (headers xs) m
  header_is xs m = sym (get_or-map (λ (f : Frame). f.header) xs m blank_frame)

  same_header : (m : ℕ) → (frame_at (set fs n (with_words words (frame_at fs n))) m).header ≡ (frame_at fs m).header
  same_header m = header_is (set fs n page) m ∙ ap (λ (hs : List ObjectHeader). header_at hs m) same_headers ∙ sym (header_is fs m)

  owner_is : owner_at (map (object_of (headers fs)) fs) n ≡ (frame_at fs n).header.owner
  owner_is = ap (λ (o : Object). o.owner) (get_or-map (object_of (headers fs)) fs n blank_frame)

  pub objects_after : objects_of (set fs n (with_words words (frame_at fs n))) ≡ with_content (objects_of fs) n (content.Page words)
  unfolding objects_of with_content
  objects_after = search (arith, nat_tests, same_headers, map-set, headers, owner_is)

  has_risen : List Frame → List Frame → ℕ → Bool
  has_risen base gs m = not ((frame_at gs m).header.allocations == (frame_at base m).header.allocations)

  pub renewed_after : (gs : List Frame) → renewed_since (set fs n (with_words words (frame_at fs n))) gs ≡ renewed_since fs gs
  unfolding renewed_since has_risen
  renewed_after gs = search (arith, nat_tests, length-set, maps_same, same_header)

  pub allocations_after : (m : ℕ) → allocations_at (set fs n (with_words words (frame_at fs n))) m ≡ allocations_at fs m
  allocations_after m = ap (λ (h : ObjectHeader). h.allocations) (same_header m)

  module _ (g : Geometry) (age : ℕ) (sound : IsSoundFrames g age fs) (is : is_page (frame_at fs n).content ≡ true) (lt : n < object_count g)
      (kept : AreKeptWords 512 words) where
    page_keepable : IsKeepable g age n page
    page_keepable = search (arith, nat_tests, kind_of_page, role_of_page)

    pub sound_after : IsSound g (record { objects = with_content (objects_of fs) n (content.Page words); age = age }) →
        IsSoundFrames g age (set fs n (with_words words (frame_at fs n)))
    sound_after world = record {
      keepable = record {
        count = length-set fs n page ∙ sound.keepable.count;
        each = λ m within. at_set (λ k f. k < object_count g → IsKeepable g age k f) fs n m page blank_frame (λ _. page_keepable)
            (λ less. sound.keepable.each m less) within;
      };
      current = λ m. subst (λ (hs : List ObjectHeader). All (IsCurrent hs) (caps_in (frame_at (set fs n page) m).content))
          (sym same_headers)
          (at_set (λ k f. All (IsCurrent (headers fs)) (caps_in f.content)) fs n m page blank_frame (All-nil (IsCurrent (headers fs)))
          (sound.current m));
      sound = subst (λ (os : List Object). IsSound g (record { objects = os; age = age })) (sym objects_after) world;
    }

-- ---- a store whose page is journaled

not_twice : (b : Bool) → not (not b) ≡ b
not_twice b = search (arith, nat_tests)

module _ {g : Geometry} {p : Parts} {a : Snapshots FrozenFrames} {banks : BanksState} {age frozen_age : ℕ}
    (s : AreSoundTogether g p a banks age frozen_age)
    (n : ℕ) where
  abbrev r : Running
  r = running_of p a age frozen_age

  pub now_is : is_page_now p n ≡ is_page (content_at (objects_in p) n)
  now_is = ap (λ (h : ObjectHeader). is_page_role h.role) (sym (header_in p.headers p.contents n))
      ∙ page_at g age (frames_of p) n s.now.keepable

  module _ (none : a.frozen ≡ None) where
    same_count : n < object_count g → ((header_at p.headers n).allocations == (frame_at a.saved.frames n).header.allocations) ≡ not
        (slice_index_or (renewed_since (base_of a) (frames_of p)) n false)
    same_count lt = search (arith, nat_tests, base_saved, renewed_at, not_twice, header_in)

    pub saved_is : n < object_count g → is_still_saved p a.saved n ≡ machine.is_saved_page (running_of p a age frozen_age) n
    saved_is lt = λ k. page_at g a.saved.age a.saved.frames n s.saved.sound.keepable k && same_count lt k

    module _ (is : is_page_now p n ≡ true) where
      pub page_now : is_page (content_at (objects_in p) n) ≡ true
      page_now = sym now_is ∙ is

      pub known_now : n < object_count g
      known_now = page_known g age (frames_of p) n s.now.keepable page_now

      here : frame_at (frames_of p) n ≡ record { header = header_at p.headers n; content = held_at p.contents n }
      here = frame_in p.headers p.contents n (omega (arith, known_now, keepable_count g age p s.now.keepable))

      held_page : is_page (held_at p.contents n) ≡ true
      held_page = ap (λ (f : Frame). is_page f.content) (sym here) ∙ content_page g age (frames_of p) n s.now.keepable ∙ page_now

      pub words_are : content_at (objects_in p) n ≡ content.Page (words_now p n)
      words_are = search (arith, nat_tests, content_is, headers, here, words_through, held_page)

      words_kept : AreKeptWords 512 (words_now p n)
      words_kept = search (arith, nat_tests, kept_words, held_page, here, known_now)

      module _ (saved : is_still_saved p a.saved n ≡ true) (young : age < 2 ^ 62) where
        pub saved_too : machine.is_saved_page (running_of p a age frozen_age) n ≡ true
        saved_too = sym (saved_is known_now) ∙ saved

        none_refuses : unjournaled r n ≡ None
        none_refuses = λ k. unless (page_now k) (refusal.NotJournaled NotPage) (unless (saved_too k) (refusal.NotJournaled Renewed) None)

        saved_page : is_page (frame_at a.saved.frames n).content ≡ true
        saved_page = search (arith, nat_tests, content_page, saved_too)

        pub saved_next : saved_of (journaled_saved (a.saved.age + 1) n (words_now p n) a.saved)
            ≡ machine.journaled (running_of p a age frozen_age) n
        saved_next = search (arith, nat_tests, objects_after, words_are)

        world_next : IsSound g (record {
          objects = with_content (objects_of a.saved.frames) n (content.Page (words_now p n));
          age = a.saved.age + 1;
        })
        world_next = subst (λ (c : Content Capability). IsSound g (record {
          objects = with_content (objects_of a.saved.frames) n c;
          age = a.saved.age + 1;
        }))
            words_are (journal_keeps_sound g r n s.now.sound s.saved.sound.sound (omega (arith, s.order, young)) none_refuses)

        frames_next : IsSoundFrames g (a.saved.age + 1) a.saved.frames
        frames_next = frames_later g a.saved.age (a.saved.age + 1) a.saved.frames (omega arith) (omega (arith, s.order, young))
            s.saved.sound

        pub sound_next : IsSoundSaved g (journaled_saved (a.saved.age + 1) n (words_now p n) a.saved)
        sound_next = search (arith, nat_tests, sound_after, frames_next, saved_page, known_now, words_kept, world_next)

        base_next : base_of (journaled (a.saved.age + 1) n (words_now p n) a)
            ≡ set a.saved.frames n (with_words (words_now p n) (frame_at a.saved.frames n))
        base_next = base_saved (journaled (a.saved.age + 1) n (words_now p n) a) none

        pub together_next : AreSoundTogether g p (journaled (a.saved.age + 1) n (words_now p n) a) banks (age + 1) frozen_age
        together_next = record {
          geometry = s.geometry;
          now = frames_later g age (age + 1) (frames_of p) (omega arith) (omega (arith, young)) s.now;
          counted = s.counted;
          frozen = λ f some. absurd (let never : None ≡ Some f = sym none ∙ some in cc);
          saved = sound_next;
          order = omega (arith, s.order);
          risen = λ m.
              subst (λ (k : ℕ). k ≤ allocations_at (frames_of p) m)
              (sym (ap (λ (fs : List Frame). allocations_at fs m) base_next ∙ allocations_after a.saved.frames n (words_now p n) m) ∙ refl)
              (subst (λ (fs : List Frame). allocations_at fs m ≤ allocations_at (frames_of p) m) (base_saved a none) (s.risen m));
        }

        pub running_next : running_of p (journaled (a.saved.age + 1) n (words_now p n) a) (age + 1) frozen_age
            ≡ (let now : World = record { objects = objects_in p; age = age + 1 } in let x : Running = record
            (running_of p a age frozen_age) { now = now; saved = machine.journaled (running_of p a age frozen_age) n; to_move = 1 } in x)
        running_next = search (arith, nat_tests, base_next, renewed_after, base_saved, saved_next)

-- if no refusal applies, `journal` saves the state with the page's present words
pub next_is : {F : Type 0} (age n : ℕ) (words : List ℕ) (o : Option F) (s : SavedFrames) (page saved b : Bool) → o ≡ None → s.entries ≡ 0 →
    page ≡ true → saved ≡ b →
    next_journaled age n words o s page saved ≡ (if b then Some (journaled_saved age n words s) else None)
next_is age n words o s page saved b none home is_page is_saved = search (arith, nat_tests)

-- the state of a kernel after its store and its age changed
abbrev pub with_age : {S : Type 0} → Live S → S → ℕ → Live S
with_age l s age = record { store = s; banks = l.banks; age = age; frozen_age = l.frozen_age }

-- a `journal` that succeeded isn't `Fault`, so the other case holds
pub done_usable : {P : Type 0} (n : ℕ) → IsErrOf {T = ℕ} (Ok n) refusal.Fault ⊎ P → P
done_usable n either = search (arith, nat_tests)

still_usable : {P : Type 0} → IsErrOf {T = ℕ} (Err (refusal.NotJournaled Renewed)) refusal.Fault ⊎ P → P
still_usable either = search (arith, nat_tests)

-- a refusal that needs no device call leaves the store unchanged
pub unlooked_same : {S : Type 0} (was now : Disk) (left : Option ℕ) (s : SavedFrames) (known page saved : Bool) (why : Refusal)
    {old new : S} → IsJournalAnswer was now left s known page saved (Err why) → (IsTurnedAway (Err why) → new ≡ old) →
    MakesNoDeviceCall (answer.Refused why) → new ≡ old
unlooked_same was now left s known paged saved why reported same is = search (arith, nat_tests)

module _ {D S : Type 0} (disk : D → Disk) (view : S → View D) (parts : S → Parts)
    (only_now : (d : D) (c : Image) → (disk d).left_since (disk d).moment c → (disk d).may_leave c)
    (sound_holds : (s : S) (c : Image) → (view s).usable → (disk (view s).beneath).may_leave c →
    Holds (disk (view s).beneath).sectors c (view s).snapshots.saved) where
  pub too_old : (l : Live S) (n : ℕ) → 2 ^ 62 ≤ l.age → ServesUp disk view parts l (command.Journal n) (answer.Refused refusal.Worn) l
  too_old l n old = refused disk view parts only_now sound_holds l (command.Journal n) refusal.Worn
      (λ g up. journal_worn g (running disk view parts l) n old)

  module _ (l : Live S) (s : S) (n : ℕ) (young : l.age < 2 ^ 62) where
    abbrev a : Snapshots FrozenFrames
    a = (view l.store).snapshots

    abbrev age : ℕ
    age = a.saved.age + 1

    abbrev old : Disk
    old = disk (view l.store).beneath

    abbrev new : Disk
    new = disk (view s).beneath

    -- a refusal that leaves the store unchanged is served
    turned_away : (why : Refusal) → s ≡ l.store →
        ((g : Geometry) → IsUp disk view parts g l → machine.refusal_of g (running disk view parts l) (command.Journal n) ≡ Some why) →
        ServesUp disk view parts l (command.Journal n) (answer.Refused why) (with_store l s)
    turned_away why same applies = refused_again disk view parts only_now sound_holds l s (command.Journal n) why same applies

    module _ (size : new.sectors ≡ old.sectors)
        (run : LeavesOneOf (disk (view l.store).beneath) (disk (view s).beneath) (view l.store).snapshots.saved
        (next_journaled ((view l.store).snapshots.saved.age + 1) n (words_now (parts l.store) n) (view l.store).snapshots.frozen
        (view l.store).snapshots.saved
        (is_page_now (parts l.store) n) (is_still_saved (parts l.store) (view l.store).snapshots.saved n)))
        (none : (view l.store).snapshots.frozen ≡ None) (home : (view l.store).snapshots.saved.entries ≡ 0)
        (page : is_page_now (parts l.store) n ≡ true) where
      run_by : (b : Bool) → is_still_saved (parts l.store) a.saved n ≡ b →
          LeavesOneOf old new a.saved (if b then Some (journaled_saved age n (words_now (parts l.store) n) a.saved) else None)
      run_by b is = search (arith, nat_tests, next_is)

      -- after a crash at any moment of `journal` the image denotes the old saved state or the new one
      along : (b : Bool) → is_still_saved (parts l.store) a.saved n ≡ b → (g : Geometry) → IsUp disk view parts g l →
          LeavesOne g (disk_at disk view parts l) (disk (view s).beneath)
          (saved_of (view l.store).snapshots.saved ∷ second (Up (running disk view parts l)) (command.Journal n))
      along false is g up = leaves_along up.sound.saved size (run_by false is)
      along true is g up =
          let sound = up.sound in
          subst (λ (ss : List Saved). LeavesOne g old new (saved_of a.saved ∷ ss))
          (ap (λ (x : Saved). x ∷ []) (saved_next sound n none page is young)
          ∙ sym (second_of_journal g (running disk view parts l) n young (frozen_none a.frozen l.frozen_age none) home
          (page_now sound n none page) (saved_too sound n none page is young)))
          (leaves_either sound.saved (sound_next sound n none page is young) size (run_by true is))

      pub journal_failed : ServesUp disk view parts l (command.Journal n) (answer.Refused refusal.Fault) (with_store l s)
      journal_failed = failed disk view parts only_now sound_holds l (with_store l s) (command.Journal n)
          (along (is_still_saved (parts l.store) a.saved n) refl)

      -- `journal` refuses a page with `Renewed` if no page is saved at its number, or the saved one was freed since
      pub not_saved : parts s ≡ parts l.store → is_still_saved (parts l.store) (view l.store).snapshots.saved n ≡ false →
          (view s).snapshots ≡ (view l.store).snapshots → (view s).usable →
          ServesUp disk view parts l (command.Journal n) (answer.Refused (refusal.NotJournaled Renewed)) (with_store l s)
      not_saved same other beside usable g up =
          let r = running disk view parts l in
          let known = known_now up.sound n none page in
          record {
            step = λ not_fault.
                subst (λ (x : Running). Step g (Up r) (command.Journal n) (answer.Refused (refusal.NotJournaled Renewed)) (Up x))
                (sym (same_running same beside l.age l.frozen_age)) (refused_step g r (command.Journal n) (refusal.NotJournaled Renewed)
                (journal_renewed g r n young (frozen_none a.frozen l.frozen_age none) home known (page_now up.sound n none page)
                (sym (saved_is up.sound n none known) ∙ other)));
            up = λ not_fault. is_up disk view parts only_now sound_holds g (with_store l s) usable (stays_sound same beside up.sound);
            leaves = along false other g up;
          }

      -- `journal` of a page that is still saved is served
      pub journal_went : parts s ≡ parts l.store → is_still_saved (parts l.store) (view l.store).snapshots.saved n ≡ true →
          (generation : ℕ) → generation ≡ (view l.store).snapshots.saved.generation + 2 →
          (view s).snapshots ≡ journaled ((view l.store).snapshots.saved.age + 1) n (words_now (parts l.store) n) (view l.store).snapshots →
          (view s).usable → ServesUp disk view parts l (command.Journal n) (answer.Journaled generation) (with_age l s (l.age + 1))
      journal_went same is generation reported beside usable g up =
          let r = running disk view parts l in
          record {
            step = λ not_fault.
                subst (λ (x : Running). Step g (Up r) (command.Journal n) (answer.Journaled generation) (Up x))
                (sym (same_running same beside (l.age + 1) l.frozen_age ∙
                running_next up.sound n none page is young)) (subst (λ (k : ℕ). Step g (Up r) (command.Journal n) (answer.Journaled k)
                (let now : World = record { objects = r.now.objects; age = r.now.age + 1 } in Up
                (record r { now = now; saved = machine.journaled r n; to_move = 1 }))) (sym reported)
                (journal_step g r n young (frozen_none a.frozen l.frozen_age none) home (known_now up.sound n none page)
                (page_now up.sound n none page) (saved_too up.sound n none page is young)));
            up = λ not_fault. is_up disk view parts only_now sound_holds g (with_age l s (l.age + 1)) usable
                (stays_sound same beside (together_next up.sound n none page is young));
            leaves = along true is g up;
          }

    -- a refused or failed `journal` is served
    pub journal_refused : (why : Refusal) → (disk (view s).beneath).sectors ≡ (disk (view l.store).beneath).sectors →
        IsJournalAnswer (disk (view l.store).beneath) (disk (view s).beneath) (left_in whole (view l.store).snapshots)
        (view l.store).snapshots.saved
        (nat_lt n (length (parts l.store).headers)) (is_page_now (parts l.store) n)
        (is_still_saved (parts l.store) (view l.store).snapshots.saved n)
        (Err why) →
        (IsTurnedAway (Err why) → s ≡ l.store) → (IsRefused {T = ℕ} (Err why) → (view s).snapshots ≡ (view l.store).snapshots) →
        ((disk (view s).beneath).failures ≡ (disk (view l.store).beneath).failures → parts s ≡ parts l.store) →
        (IsErrOf {T = ℕ} (Err why) refusal.Fault ⊎ (view s).usable) →
        LeavesOneOf (disk (view l.store).beneath) (disk (view s).beneath) (view l.store).snapshots.saved
        (next_journaled ((view l.store).snapshots.saved.age + 1) n (words_now (parts l.store) n) (view l.store).snapshots.frozen
        (view l.store).snapshots.saved
        (is_page_now (parts l.store) n) (is_still_saved (parts l.store) (view l.store).snapshots.saved n)) →
        ServesUp disk view parts l (command.Journal n) (answer.Refused why) (with_store l s)
    journal_refused refusal.CheckpointRunning size reported away beside same usable run =
        let f = some_there a.frozen reported.1 in
        turned_away refusal.CheckpointRunning (away tt)
        (λ g up. journal_running g (running disk view parts l) n young _ (frozen_some a.frozen f.0 l.frozen_age f.1))
    journal_refused refusal.MigrationPending size reported away beside same usable run =
        turned_away refusal.MigrationPending (away tt)
        (λ g up. journal_pending g (running disk view parts l) n young (frozen_none a.frozen l.frozen_age (none_there a.frozen reported.1))
        reported.2)
    journal_refused refusal.BadNumber size reported away beside same usable run =
        turned_away refusal.BadNumber (away tt)
        (λ g up. journal_unknown g (running disk view parts l) n young (frozen_none a.frozen l.frozen_age (none_there a.frozen reported.1))
        reported.2
        (subst (λ (m : ℕ). m ≤ n) (keepable_count g l.age (parts l.store) up.sound.now.keepable)
        (ltb-false n (length (parts l.store).headers) reported.3)))
    journal_refused (refusal.NotJournaled NotPage) size reported away beside same usable run =
        turned_away (refusal.NotJournaled NotPage) (away tt)
        (λ g up. journal_no_page g (running disk view parts l) n young (frozen_none a.frozen l.frozen_age (none_there a.frozen reported.1))
        reported.2
        (subst (λ (m : ℕ). n < m) (keepable_count g l.age (parts l.store) up.sound.now.keepable)
        (ltb-true n (length (parts l.store).headers) reported.3))
        (sym (now_is up.sound n) ∙ reported.4))
    journal_refused (refusal.NotJournaled Renewed) size reported away beside same usable run =
        not_saved size run (none_there a.frozen reported.1) reported.2 reported.3 (same reported.0) reported.4 (beside tt)
        (still_usable usable)
    journal_refused refusal.Fault size reported away beside same usable run =
        journal_failed size run (none_there a.frozen reported.1) reported.2 reported.3
    journal_refused why size reported away beside same usable run = absurd reported

-- `journal` answers `Fault` exactly if the device failed
pub journal_cause : (old new : Disk) (left : Option ℕ) (s : SavedFrames) (known page saved : Bool) (why : Refusal) →
    IsJournalAnswer old new left s known page saved (Err why) → IsCaused old new (answer.Refused why)
journal_cause old new left s known page saved why reported = search (arith, nat_tests, failed_cause, other_cause)
