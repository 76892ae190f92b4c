-- The notes of the roots of processes.
use Rattle.recovery.proofs.Names.{nat_tests, ℕ, List, Option, None, Some, length, arith, get_or_past, Frame, Content, Root, frame_at, Noted, IsRootOf, AreNoted}
use Rattle.recovery.proofs.Names.{note_at, noted_in}
use Rattle.std.proofs.Common.{◌≡◌, ◌<◌}
use Rattle.model.specs.declared.object.Content.TheVariants as content

-- an object that isn't a root has no note
pub unnoted : {C : Type 0} (c : Content C) → ((x : Root C) → c ≡ content.Root x → ⊥) → noted_in c ≡ None
unnoted {C} c other = grind (arith, nat_tests)

-- the annex in a note, if there is a note
annex_of_note : Option Noted → Option ℕ
annex_of_note None = None
annex_of_note (Some note) = Some note.annex

module _ (fs : List Frame) (notes : List (Option Noted)) (noted : AreNoted fs notes) where
  pub root_noted : (p : ℕ) (note : Noted) → note_at notes p ≡ Some note → IsRootOf fs p note.annex
  unfolding annex_of_note
  root_noted p note is = grind (arith, nat_tests, annex_of_note)

  pub none_noted : (p a : ℕ) → note_at notes p ≡ None → IsRootOf fs p a → ⊥
  unfolding annex_of_note
  none_noted p a is root = grind (arith, nat_tests)

-- if each of the n frames has its note, all notes are right
pub noted_whole : (fs : List Frame) (notes : List (Option Noted)) (n : ℕ) → length notes ≡ n → length fs ≡ n →
    ((m : ℕ) → m < n → note_at notes m ≡ noted_in (frame_at fs m).content) → AreNoted fs notes
noted_whole fs notes n count whole each = grind (arith, nat_tests, get_or_past)
