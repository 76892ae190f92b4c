-- What remains unchanged through several changes of present frames.
use Rattle.capability.proofs.Names.{arith, ℕ, nat_tests, KeepsRest, OnlyFetches, Parts, ap, subst}
use Rattle.capability.specs.Parts.{OnlyReads}
use Rattle.capability.specs.Names.{Refusal, Result, OnOk, IsErrOf}
use Rattle.std.specs.Prelude.{Ok, Err}
use Rattle.std.proofs.Common.{◌≡◌, ◌∙◌, ◌↔◌, ◌<◌}
use Rattle.model.specs.declared.answer.Refusal.TheVariants as refusal

module _ {S : Type 0} (parts : S → Parts) (Fetched Announced : S → ℕ → Type 0) (Continues : S → S → Type 0)
    (twice : (s t u : S) → Continues s t → Continues t u → Continues s u) where
  -- two changes in a row leave unchanged what each of them leaves unchanged
  pub keeps_twice : (s t u : S) → KeepsRest parts Fetched Announced Continues s t → KeepsRest parts Fetched Announced Continues t u →
      KeepsRest parts Fetched Announced Continues s u
  keeps_twice s t u a b = grind (arith, nat_tests)

module _ {S : Type 0} (parts : S → Parts) (Continues : S → S → Type 0) (twice : (s t u : S) → Continues s t → Continues t u → Continues s u)
  where
    -- two calls in a row that only fetch are together such a call
    pub only_reads_twice : (s t u : S) → OnlyFetches parts Continues s t → OnlyFetches parts Continues t u → OnlyFetches parts Continues s u
    only_reads_twice s t u a b = record {
      same = λ stayed. b.same (omega (arith, stayed, a.later, b.later)) ∙ a.same (omega (arith, stayed, a.later, b.later));
      touched = b.touched ∙ a.touched;
      later = omega (arith, a.later, b.later);
      continues = twice s t u a.continues b.continues;
    }

-- a step that doesn't change the parts counts as a call that only fetches
module _ {S : Type 0} {parts : S → Parts} {Continues : S → S → Type 0} {s t : S} (is : parts t ≡ parts s) (continues : Continues s t) where
  pub only_fetched : OnlyFetches parts Continues s t
  only_fetched = record {
    same = λ stayed. is;
    touched = ap (λ (p : Parts). p.touched) is;
    later = omega (arith, ap (λ (p : Parts). p.failures) is);
    continues = continues;
  }

  pub read_well : {T : Type 0} {x : T} → OnlyReads {T = T} parts Continues s t (Ok x)
  read_well = record {
    same = is;
    snapshots = only_fetched;
    refusals = tt;
    cause = (λ never. cc, λ rose. absurd (omega (arith, rose, ap (λ (p : Parts). p.failures) is)));
  }

  pub out_of_memory : {T : Type 0} → OnlyReads {T = T} parts Continues s t (Err refusal.NoMemory)
  out_of_memory = record {
    same = tt;
    snapshots = only_fetched;
    refusals = tt;
    cause = (λ never. cc, λ rose. absurd (omega (arith, rose, ap (λ (p : Parts). p.failures) is)));
  }

  module _ (twice : (s t u : S) → Continues s t → Continues t u → Continues s u) {u : S} where
    pub only_on : OnlyFetches parts Continues t u → OnlyFetches parts Continues s u
    only_on then = only_reads_twice parts Continues twice s t u only_fetched then

    pub reads_on : {T : Type 0} {r : Result T Refusal} → OnlyReads parts Continues t u r → OnlyReads parts Continues s u r
    reads_on {T} {r} then = record {
      same = subst (λ (p : Parts). OnOk r (parts u ≡ p)) is then.same;
      snapshots = only_on then.snapshots;
      refusals = then.refusals;
      cause = subst (λ (p : Parts). IsErrOf r refusal.Fault ↔ (p.failures < (parts u).failures)) is then.cause;
    }
