-- A saved world stays sound when a page of it gets other words.
use Rattle.model_laws.proofs.Names.{nat_tests, ℕ, Bool, true, false, Option, None, List, length, refl, sym, ap, subst, arith, slice_index, slice_index_or}
use Rattle.model_laws.proofs.Names.{Refusal, Capability, Geometry, Content, Object, Available, is_page, is_waiting, root_in, words_in, HasShape, IsSound}
use Rattle.model_laws.proofs.Names.{unjournaled, unless, World, content_at, owner_at, with_content, JournalKeepsSound}
use Rattle.std.proofs.Common.{◌≡◌, ◌+◌, ◌^◌, ◌<◌, ◌≤◌, ◌∙◌}
use Rattle.model.specs.Machine.{Running}
use Rattle.model.specs.declared.object.Content.TheVariants as content
use Rattle.model_laws.proofs.SoundEdits.{IsEdited, at_content, frame_content, nearly_content}
use Rattle.model_laws.proofs.SoundParts.{IsFilled, IsNearlySound, Waits, nearly_from, nearly_to, nearly_weaken, state_at}
use Rattle.model_laws.proofs.Usage.{AreAlike}

alike_page : (b : ℕ) (words : List ℕ) (c : Content Capability) → is_page c ≡ true
    → AreAlike (record { owner = b; content = c }) (record { owner = b; content = content.Page words })
alike_page b words c is = grind (arith, nat_tests)

-- a page is no process
state_of_page : (c : Content Capability) → is_page c ≡ true → Available ≡ (root_in c).state
state_of_page c is = grind (arith, nat_tests)

pub page_is : {C : Type 0} (c : Content C) → is_page c ≡ true → c ≡ content.Page (words_in c)
page_is {C} c is = grind (arith, nat_tests)

filled_page : (os : List Object) (W : ℕ → Type 0) (words : List ℕ) → length words ≡ 512 → ((i : ℕ) → slice_index words i < 2 ^ 64) →
    IsFilled os W (content.Page words)
filled_page os W words count fit = grind (arith, nat_tests)

-- objects that satisfy `IsNearlySound` still do after the words of a page are replaced
pub edited_page : (g : Geometry) (W : ℕ → Type 0) (os : List Object) (n : ℕ) (words : List ℕ) → IsNearlySound g W os →
    is_page (content_at os n) ≡ true → length words ≡ 512 → ((i : ℕ) → slice_index words i < 2 ^ 64) →
    IsEdited g W os (with_content os n (content.Page words))
edited_page g W os n words h is count fit =
    let c = content.Page words in
    let a = alike_page (owner_at os n) words (content_at os n) is in
    record {
      frame = frame_content os n c a;
      sound = nearly_content g W os n c h a (filled_page os W words count fit);
      states = λ q. at_content (λ m d. (root_in d).state ≡ state_at os m) os n q c (state_of_page (content_at os n) is) refl;
    }

-- a sound world stays sound if the words of a page are replaced, at any age up to 2^62
pub world_with_page : (g : Geometry) (w : World) (n age : ℕ) (words : List ℕ) → IsSound g w → is_page (content_at w.objects n) ≡ true
    → length words ≡ 512 → ((i : ℕ) → slice_index words i < 2 ^ 64) → age ≤ 2 ^ 62
    → IsSound g (record { objects = with_content w.objects n (content.Page words); age = age })
world_with_page g w n age words sound is count fit most =
    let us = with_content w.objects n (content.Page words) in
    let edited = edited_page g (Waits w.objects) w.objects n words (nearly_from g w sound) is count fit in
    nearly_to g us age
    (nearly_weaken g (Waits w.objects) (Waits us) us (λ p waits. ap is_waiting (edited.states p) ∙ waits) edited.sound)
    most

-- if `unless` refuses nothing, its check passes, and so does the next
pub unless_passes : (b : Bool) (why : Refusal) (next : Option Refusal) → unless b why next ≡ None → (b ≡ true) × (next ≡ None)
unless_passes b why next e = grind (arith, nat_tests)

-- if nothing refuses the journaling of n, it is a page now and in the saved state
pub both_pages : (s : Running) (n : ℕ) → unjournaled s n ≡ None →
    (is_page (content_at s.now.objects n) ≡ true) × (is_page (content_at s.saved.world.objects n) ≡ true)
    × (slice_index_or s.renewed n false ≡ false)
both_pages s n none = grind (arith, nat_tests)

page_shape : (c : Content Capability) → is_page c ≡ true → HasShape c → length (words_in c) ≡ 512
page_shape c is shape = grind (arith, nat_tests)

pub journal_keeps_sound : JournalKeepsSound
journal_keeps_sound g s n now saved young none =
    let c = content_at s.now.objects n in
    let pages = both_pages s n none in
    subst (λ (d : Content Capability). IsSound g (record { objects = with_content s.saved.world.objects n d; age = s.saved.world.age + 1 }))
    (sym (page_is c pages.0))
    (world_with_page g s.saved.world n (s.saved.world.age + 1) (words_in c) saved pages.1 (page_shape c pages.0 (now.shapes n))
    (now.words n) (omega arith))
