-- A page is saved after reads: the result of a call that journals it.
use Rattle.object_cache.proofs.Names.{ℕ, Bool, true, List, Option, Some, None, option_map, Result, Ok, Err, refl, sym, ap, subst, arith, inl, inr, Disk, Entry}
use Rattle.object_cache.proofs.Names.{Frame, ObjectHeader, frame_at, words_in, SavedFrames, Holds, LeavesEither, LeavesOneOf, journaled_saved, leaves_weaker}
use Rattle.object_cache.proofs.Names.{DurableState, GoesOn, ReadsStore, stored_of, is_sound, left_of, on_snapshots, journaled, next_journaled, is_page_role}
use Rattle.object_cache.proofs.Names.{Refusal, IsJournalAnswer, SavesPage, held_now, counted_ok, counts_on, on_err_weaker, on_ok_weaker, role_is_page, IfOk}
use Rattle.object_cache.proofs.Names.{is_same_page, IsTurnedAway, LeavesSaved, JournalsPage, MaySave, is_saved_page, IsErrAnd, Counts, err_counts}
use Rattle.std.proofs.Common.{◌≡◌, ◌⊎◌, ◌+◌, ◌<◌, ◌≤◌, ◌^◌, ◌∙◌}
use Rattle.model.specs.declared.answer.Refusal.TheVariants as refusal
use Rattle.model.specs.declared.object.Role.TheVariants as role
use Rattle.object_cache.proofs.Journaling.{read_first}

-- each crash that leaves the saved state leaves this or the next one
leaves_one : {old new : Disk} {saved : SavedFrames} (o : Option SavedFrames) → LeavesSaved old new saved → LeavesOneOf old new saved o
leaves_one None leaves = leaves
leaves_one {old} {new} {saved} (Some next) leaves = leaves_weaker {old = old} {new = new} {P = λ c. Holds old.sectors c saved}
    (λ c. Holds old.sectors c saved ⊎ Holds old.sectors c next) (λ c holds. inl holds) leaves

next_is : {F : Type 0} (age n : ℕ) (ws : List ℕ) (o : Option F) (saved : SavedFrames) (p q : Bool) → o ≡ None → saved.entries ≡ 0 →
    p ≡ true → q ≡ true → Some (journaled_saved age n ws saved) ≡ next_journaled {F = F} age n ws o saved p q
next_is {F} age n ws o saved p q free home page same = search arith

one_saved : {F : Type 0} {old new : Disk} {saved : SavedFrames} (age n : ℕ) (ws : List ℕ) (o : Option F) (p q : Bool) → o ≡ None →
    saved.entries ≡ 0 → p ≡ true → q ≡ true → LeavesEither old new saved (journaled_saved age n ws saved) →
    LeavesOneOf old new saved (next_journaled {F = F} age n ws o saved p q)
one_saved {old = old} {new = new} {saved = saved} age n ws o p q free home page same =
    subst (LeavesOneOf old new saved) (next_is age n ws o saved p q free home page same)

same_role : (a : ℕ) (f : Frame) → is_same_page a f ≡ true → f.header.role ≡ role.Page
same_role a f same = search (arith, role_is_page)

module _ {D : Type 0} (disk : D → Disk) {s t : DurableState D} (reads : ReadsStore disk s t) (sound : is_sound disk s) where
  pub saves_after : {E : Type 0} {u : DurableState D} {n age : ℕ} {ws : List ℕ} {r : Result ℕ E} →
      (disk t.beneath).failures ≡ (disk s.beneath).failures → SavesPage disk t u n age ws r → SavesPage disk s u n age ws r
  saves_after {u = u} {n = n} {age = age} {ws = ws} {r = r} same saves = record {
    stored = on_ok_weaker r (λ is. is ∙ ap (on_snapshots (journaled age n ws)) reads.stored) saves.stored;
    unchanged = on_err_weaker r (λ is. is ∙ reads.stored) saves.unchanged;
    plan = saves.plan ∙ ap (λ b. b.plan) reads.books;
    generation = subst (λ x. IfOk r (λ g. g ≡ x.saved.generation + 2)) reads.stored saves.generation;
    sound = saves.sound;
    size = saves.size ∙ reads.goes_on.size;
    any_moment = read_first disk s t (disk u.beneath) age n ws ws reads sound refl saves.any_moment;
    cause = counts_on same saves.cause;
  }

  -- if an earlier call failed, `SavesPage` holds: the device was only read
  pub not_saved : {T E : Type 0} {n age : ℕ} {ws : List ℕ} {e : E} (r : Result ℕ E) (Q : E → Type 0) → IsErrAnd r Q →
      Counts {T = T} (disk s.beneath) (disk t.beneath) (Err e) → SavesPage disk s t n age ws r
  not_saved {n = n} {age = age} {ws = ws} (Ok g) Q failed counts = absurd failed
  not_saved {n = n} {age = age} {ws = ws} (Err e) Q failed counts = record {
    stored = tt;
    unchanged = reads.stored;
    plan = ap (λ b. b.plan) reads.books;
    generation = tt;
    sound = tt;
    size = reads.goes_on.size;
    any_moment = leaves_one (Some (journaled_saved age n ws (stored_of disk s).saved)) (reads.goes_on.any_moment sound);
    cause = err_counts refl counts;
  }

  -- if the page was saved with the words that were read, it was saved with its present words
  pub held_after : {E : Type 0} {u : DurableState D} {n age : ℕ} (es : List (Option Entry)) {r : Result ℕ E} →
      (disk t.beneath).failures ≡ (disk s.beneath).failures → SavesPage disk t u n age (words_in (held_now es (stored_of disk t) n)) r →
      SavesPage disk s u n age (words_in (held_now es (stored_of disk s) n)) r
  held_after {u = u} {n = n} {age = age} es {r = r} same saves =
      saves_after same (subst (λ x. SavesPage disk t u n age (words_in (held_now es x n)) r) reads.stored saves)

  -- after the reads, the page may be saved
  pub may_save : (h : ObjectHeader) (n age : ℕ) → (stored_of disk s).frozen ≡ None → (stored_of disk s).saved.entries ≡ 0 →
      is_saved_page (stored_of disk s) h n ≡ true → (stored_of disk s).saved.age < age → age ≤ 2 ^ 62 → {x : ObjectHeader} →
      x ≡ (frame_at (stored_of disk s).saved.frames n).header → MaySave disk t x n age
  may_save h n age free home same later most x_is = record {
    free = ap (λ x. x.frozen) reads.stored ∙ free;
    home = ap (λ x. x.saved.entries) reads.stored ∙ home;
    page = ap (λ x. (frame_at x.saved.frames n).header.role) reads.stored ∙ same_role h.allocations
        (frame_at (stored_of disk s).saved.frames n) same;
    saved = x_is ∙ ap (λ x. (frame_at x.saved.frames n).header) (sym reads.stored);
    sound = reads.goes_on.sound sound;
    later = subst (λ x. x.saved.age < age) (sym reads.stored) later;
    most = most;
  }

module _ {D : Type 0} (disk : D → Disk) {s : DurableState D} (sound : is_sound disk s) (es : List (Option Entry)) (h : ObjectHeader)
    (is_known : Bool)
    (n age : ℕ) where
  -- `JournalsPage` also holds for an equal header, and an equal answer to whether the number is known
  pub journals_as : {t : DurableState D} {g : ObjectHeader} {k : Bool} {r : Result ℕ Refusal} → h ≡ g → is_known ≡ k →
      JournalsPage disk s t es h is_known n age r → JournalsPage disk s t es g k n age r
  journals_as {t = t} {g = g} {r = r} h_is k_is is =
      subst (λ x. JournalsPage disk s t es g x n age r) k_is (subst (λ x. JournalsPage disk s t es x is_known n age r) h_is is)

  -- a refusal that changes no stored frame satisfies `JournalsPage`
  pub refuses : {t : DurableState D} {why : Refusal} {r : Result ℕ Refusal} → (e : Refusal) × (r ≡ Err e) × (e ≡ why) →
      stored_of disk t ≡ stored_of disk s → GoesOn disk s t → (IsTurnedAway (Err why) → t ≡ s) →
      IsJournalAnswer (disk s.beneath) (disk t.beneath) (option_map left_of (stored_of disk s).frozen) (stored_of disk s).saved is_known
      (is_page_role h.role)
      (is_saved_page (stored_of disk s) h n) (Err why) → JournalsPage disk s t es h is_known n age r
  refuses {t = t} why_is same goes turned answer = subst (JournalsPage disk s t es h is_known n age) (sym (why_is.1 ∙ ap Err why_is.2))
      (record {
        journaled = tt;
        unchanged = same;
        turned_away = turned;
        plan = goes.plan;
        answer = answer;
        sound = inr (goes.sound sound);
        size = goes.size;
        any_moment = leaves_one (next_journaled age n (words_in (held_now es (stored_of disk s) n)) (stored_of disk s).frozen
            (stored_of disk s).saved
            (is_page_role h.role) (is_saved_page (stored_of disk s) h n)) (goes.any_moment sound);
      })

  module _ (free : (stored_of disk s).frozen ≡ None) (page : is_page_role h.role ≡ true) where
    -- a refusal after the device was read satisfies `JournalsPage`
    pub refuses_late : {t : DurableState D} {why : Refusal} {r : Result ℕ Refusal} → (e : Refusal) × (r ≡ Err e) × (e ≡ why) →
        ReadsStore disk s t → (IsTurnedAway (Err why) → ⊥) →
        IsJournalAnswer (disk s.beneath) (disk t.beneath) None (stored_of disk s).saved is_known true (is_saved_page (stored_of disk s) h n)
        (Err why) → JournalsPage disk s t es h is_known n age r
    refuses_late {t = t} {why = why} why_is reads late answer = refuses why_is reads.stored reads.goes_on (λ away. absurd (late away))
        (subst (λ p. IsJournalAnswer (disk s.beneath) (disk t.beneath) (option_map left_of (stored_of disk s).frozen)
        (stored_of disk s).saved is_known p
        (is_saved_page (stored_of disk s) h n) (Err why)) (sym page)
        (subst (λ o. IsJournalAnswer (disk s.beneath) (disk t.beneath) (option_map left_of o) (stored_of disk s).saved is_known true
        (is_saved_page (stored_of disk s) h n) (Err why)) (sym free) answer))

    module _ (home : (stored_of disk s).saved.entries ≡ 0) (same : is_saved_page (stored_of disk s) h n ≡ true) where
      pub journals : {E : Type 0} {u : DurableState D} {g : ℕ} →
          SavesPage {E = E} disk s u n age (words_in (held_now es (stored_of disk s) n)) (Ok g) →
          JournalsPage disk s u es h is_known n age (Ok g)
      journals saves = record {
        journaled = saves.stored;
        unchanged = tt;
        turned_away = λ never. absurd never;
        plan = saves.plan;
        answer = (counted_ok saves.cause, ap (option_map left_of) free, home, page, same, saves.generation);
        sound = inr saves.sound;
        size = saves.size;
        any_moment = one_saved age n (words_in (held_now es (stored_of disk s) n)) (stored_of disk s).frozen (is_page_role h.role)
            (is_saved_page (stored_of disk s) h n) free home page same saves.any_moment;
      }

      pub fails : {E : Type 0} {u : DurableState D} {e : E} {r : Result ℕ Refusal} → (e : Refusal) × (r ≡ Err e) × (e ≡ refusal.Fault) →
          SavesPage {E = E} disk s u n age (words_in (held_now es (stored_of disk s) n)) (Err e) →
          JournalsPage disk s u es h is_known n age r
      fails {u = u} why_is saves = subst (JournalsPage disk s u es h is_known n age) (sym (why_is.1 ∙ ap Err why_is.2)) (record {
        journaled = tt;
        unchanged = saves.unchanged;
        turned_away = λ never. absurd never;
        plan = saves.plan;
        answer = (saves.cause.cause.0 refl, ap (option_map left_of) free, home, page);
        sound = inl refl;
        size = saves.size;
        any_moment = one_saved age n (words_in (held_now es (stored_of disk s) n)) (stored_of disk s).frozen (is_page_role h.role)
            (is_saved_page (stored_of disk s) h n) free home page same saves.any_moment;
      })
