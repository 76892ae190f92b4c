-- When a page may be journaled, and what is saved then.
use Rattle.std.proofs.Common.{◌≡◌, ◌⊎◌, inl, inr, ℕ, ◌<◌, Bool, true, List, length, refl, sym, ap, ◌∙◌, Option, Some, None, Result, Ok, Err, OnOk}
use Rattle.std.specs.Prelude.{option_map}
use Rattle.std.proofs.lemmas.Bool.{cases_lt}
use Rattle.std.proofs.lemmas.List.{get_or_past}
use Rattle.model.specs.declared.capability.Cap.{Cap}
use Rattle.model.specs.declared.frame.ObjectHeader.{ObjectHeader}
use Rattle.model.specs.declared.object.Content.{Content}
use Rattle.model.specs.declared.object.Content.TheVariants as content
use Rattle.model.specs.declared.object.Role.{Role}
use Rattle.model.specs.declared.object.Role.TheVariants as role
use Rattle.model.specs.Frame.{blank_header, header_at}
use Rattle.model.specs.Object.{is_page, role_of, words_in}
use Rattle.device.specs.Disk.{Image, Disk}
use Rattle.device.proofs.Moments.{leaves_weaker}
use Rattle.checkpoint.specs.Saved.{SavedFrames, Holds, LeavesSaved, LeavesOneOf}
use Rattle.model.specs.declared.answer.Refusal.{Refusal}
use Rattle.checkpoint.specs.Refused.{IsJournalAnswer}
use Rattle.checkpoint.specs.Journal as journal
use Rattle.checkpoint.specs.Journal.{is_page_role}

pub page_is : (c : Content Cap) → is_page c ≡ true → c ≡ content.Page (words_in c)
page_is (content.Page words) is = refl
page_is c is = cc

pub role_is_page : (r : Role) → is_page_role r ≡ true → r ≡ role.Page
role_is_page role.Page is = refl
role_is_page r is = cc

pub content_is_page : (c : Content Cap) → role_of c ≡ role.Page → is_page c ≡ true
content_is_page (content.Page words) is = refl
content_is_page other is = absurd cc

-- if the header of a number has the role of a page, the number has an object
pub known_page : (hs : List ObjectHeader) (n : ℕ) → (header_at hs n).role ≡ role.Page → n < length hs
known_page hs n page = elim (cases_lt n (length hs)) [
  | inl lt ↦ lt
  | inr past ↦
      let never : role.Free ≡ role.Page = ap (λ (h : ObjectHeader). h.role) (sym (get_or_past hs n blank_header past)) ∙ page in absurd cc
]

-- the result of a journal depends on whether a checkpoint is frozen, not on which one
pub next_same : (age n : ℕ) {F H : Type 0} (f : F → H) (ws : List ℕ) (o : Option F) (saved : SavedFrames) (is_page is_saved : Bool) →
    journal.next_journaled age n ws (option_map f o) saved is_page is_saved ≡ journal.next_journaled age n ws o saved is_page is_saved
next_same age n f ws None saved is_page is_saved = refl
next_same age n f ws (Some x) saved is_page is_saved = refl

-- if a journal is answered with `Ok`, no checkpoint is frozen and the object is a page
pub journal_there : (old new : Disk) (left : Option ℕ) (saved : SavedFrames) (is_known is_page is_saved : Bool) (r : Result ℕ Refusal) →
    IsJournalAnswer old new left saved is_known is_page is_saved r →
    OnOk r ((left ≡ None) × (is_page ≡ true))
journal_there old new left saved is_known is_page is_saved (Ok generation) reported = (reported.1, reported.3)
journal_there old new left saved is_known is_page is_saved (Err why) reported = tt
