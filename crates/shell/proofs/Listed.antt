-- Listing objects, one after another.
use Rattle.std.proofs.Common.{◌≡◌, ◌+◌, ◌∷◌, ◌++◌, ℕ, suc, Result, List, [], Ok, Err, arith, inr, length, refl, subst, sym}
use Rattle.capability.specs.Parts.{Parts}
use Rattle.checkpoint.specs.Store.{View}
use Rattle.device.specs.Disk.{Disk}
use Rattle.kernel.specs.Power.{Power}
use Rattle.model.specs.declared.answer.Answer.{Answer}
use Rattle.model.specs.Text.{line_of, refusal_text}
use Rattle.model.specs.declared.answer.Refusal.{Refusal}
use Rattle.model.specs.declared.answer.Refusal.TheVariants as refusal
use Rattle.model.specs.declared.command.Command.TheVariants as command
use Rattle.runs.specs.Saving.{CarriesOut}
use Rattle.script.specs.Writing.{Writes, Written, Wrote}
use Rattle.script.specs.declared.fault.RunFault.{RunFault}
use Rattle.shell.specs.Listing.{AreListed, Lists, end_text, shown_text}
use Rattle.std.proofs.lemmas.List.{length-append}

module _ {D S : Type 0} (disk : D → Disk) (view : S → View D) (parts : S → Parts) where
  listed_more : (n m : ℕ) (more : List Answer) (a : Answer) (old mid new : Power D S) (output between output_left : Written) →
      m ≡ n + length more → AreListed disk view parts n more old mid output between →
      CarriesOut disk view parts mid (command.Show m) new (Ok a) → Wrote between output_left (shown_text a) →
      AreListed disk view parts n (more ++ a ∷ []) old new output output_left
  listed_more n m [] a old mid new output between output_left at are carries wrote =
      let here : m ≡ n = omega (arith, at) in (
        new,
        output_left,
        subst (λ (k : ℕ). CarriesOut disk view parts old (command.Show k) new (Ok a)) here
            (subst (λ (p : Power D S). CarriesOut disk view parts p (command.Show m) new (Ok a)) are.0 carries),
        subst (λ (w : Written). Wrote w output_left (shown_text a)) are.1 wrote,
        (refl, refl),
      )
  listed_more n m (b ∷ bs) a old mid new output between output_left at (next, first, shown, wrote_first, are) carries wrote =
      let later : m ≡ suc n + length bs = omega (arith, at) in
      (next, first, shown, wrote_first, listed_more (suc n) m bs a next mid new first between output_left later are carries wrote)

  -- the first n objects were listed
  abbrev pub ListedTo : ℕ → Power D S → Power D S → Written → Written → Type 0
  ListedTo n old new output output_left = (answers : List Answer) × (length answers ≡ n)
      × AreListed disk view parts 0 answers old new output output_left

  pub none_listed : (old : Power D S) (output : Written) → ListedTo 0 old old output output
  none_listed old output = ([], refl, (refl, refl))

  pub more_listed : (n : ℕ) (a : Answer) (old mid new : Power D S) (output between output_left : Written) →
      ListedTo n old mid output between → CarriesOut disk view parts mid (command.Show n) new (Ok a) →
      Wrote between output_left (shown_text a) → ListedTo (n + 1) old new output output_left
  more_listed n a old mid new output between output_left (answers, count, are) carries wrote = (
    answers ++ a ∷ [],
    omega (arith, count, length-append answers (a ∷ [])),
    listed_more 0 n answers a old mid new output between output_left (omega (arith, count)) are carries wrote,
  )

  -- if the line of object n couldn't be written whole, the list ended there
  pub list_cut : (n : ℕ) (a : Answer) (e : RunFault) (old mid new : Power D S) (output between output_left : Written)
      (r : Result (Unit {0}) RunFault) → ListedTo n old mid output between → CarriesOut disk view parts mid (command.Show n) new (Ok a) →
      r ≡ Err e → Writes between output_left r (shown_text a) → Lists disk view parts old new output output_left r
  list_cut n a e old mid new output between output_left r (answers, count, are) carries failed wrote = (
    answers,
    mid,
    between,
    are,
    inr (inr (a, e, subst (λ (m : ℕ). CarriesOut disk view parts mid (command.Show m) new (Ok a)) (sym count) carries, failed, wrote)),
  )

-- if `show` is refused for a reason other than `BadNumber`, the refusal is the last line
pub end_other : (why : Refusal) → (why ≡ refusal.BadNumber → ⊥) → line_of (refusal_text why) ≡ end_text why
end_other refusal.BadNumber other = absurd (other refl)
end_other why other = refl
