-- What a tracer does at each turn.
use Rattle.runs.proofs.Names.{arith, nat_tests, ℕ, min, Bool, Option, Some, List, [], codes, sym, subst, IfNone, IfSome, Answer, Command, Geometry, ResultCode}
use Rattle.runs.proofs.Names.{BadLine, Reported, Turn, Says, line_of, spaced, says_one, LineFault, command_name, IsFaultOf, Cause, Stop, Tracer, reported_code}
use Rattle.runs.proofs.Names.{Ends, EndsIf, IsCauseIn, IsCauseOf, IsOutcome, IsTrace, Notes, Sees, cause_text, place_text, Written}
use Rattle.std.proofs.Common.{◌≡◌, ◌+◌, ◌-◌, ◌^◌, ◌∷◌, ◌++◌, ◌∙◌}
use Rattle.model.specs.declared.line.Line.TheVariants as line
use Rattle.runs.specs.declared.cause.Cause.TheVariants as cause

-- ---- where a strict run ends

ended : (g : Geometry) (t : Turn) (strict : Bool) (why : Option Cause) (place : ℕ) (on : Bool) (stop : Option Stop) →
    EndsIf strict why place on stop → IfSome why (IsCauseOf g t) → IfNone why ((w : Cause) → IsCauseOf g t w → ⊥) →
    Ends g place t strict on stop
ended g t strict why place on stop ends some none = search (arith, nat_tests)

-- ---- what a tracer does at a turn

module _ {V : Type 0} (written : V → Written) (g : Geometry) (t : Turn) (old new : Tracer V) (on : Bool) where
  module _ (place : ℕ) (text : List ℕ) (why : Option Cause) (noted : Notes written place text why old new on)
      (next : place ≡ min (old.line + 1) (2 ^ 64 - 1))
    where
      seen : IsTrace g place t t.reply (line_of text) → IfSome why (IsCauseOf g t) → IfNone why ((w : Cause) → IsCauseOf g t w → ⊥) →
          Sees written g t old new on
      seen trace some none = search (arith, nat_tests, ended)

      -- the parameters: a turn with a command, its answer and its result code
      module _ (c : Command) (a : Answer) (reported : Option ResultCode) (says : Says t.line (line.Command c))
          (reply : t.reply ≡ Reported a)
          (coded : reported_code g t.before c a ≡ reported) where
        causes : (w : Cause) → IsCauseIn a reported w → IsCauseOf g t w
        causes w is = search (arith, nat_tests)

        some_causes : (w : Option Cause) → IfSome w (IsCauseIn a reported) → IfSome w (IsCauseOf g t)
        some_causes w is = search (arith, nat_tests, causes)

        same_command : (d : Command) → Says t.line (line.Command d) → d ≡ c
        same_command d said = let is = says_one t.line (line.Command d) (line.Command c) said says in cc

        same_answer : (b : Answer) → t.reply ≡ Reported b → b ≡ a
        same_answer b is = let same : Reported b ≡ Reported a = sym is ∙ reply in cc

        is_cause_in : (w : Cause) → IsCauseOf g t w → IsCauseIn a reported w
        is_cause_in (cause.BadLine fault) is = let never : Reported a ≡ BadLine = sym reply ∙ is.0 in absurd cc
        is_cause_in (cause.Refused r) is = sym (same_answer is.2 is.3) ∙ is.4
        is_cause_in (cause.Code k) is = (
          sym coded ∙ subst (λ (d : Command). reported_code g t.before d a ≡ Some k) (same_command is.0 is.1)
              (subst (λ (b : Answer). reported_code g t.before is.0 b ≡ Some k) (same_answer is.2 is.3) is.4.0),
          is.4.1,
        )

        no_causes : (w : Option Cause) → IfNone w ((v : Cause) → IsCauseIn a reported v → ⊥) → IfNone w ((v : Cause) → IsCauseOf g t v → ⊥)
        no_causes w none = search (arith, nat_tests, is_cause_in)

        pub answer_seen : (outcome : List ℕ) → IsOutcome reported a outcome →
            text ≡ spaced (place_text place ∷ (command_name c ++ codes ":") ∷ outcome ∷ []) → IfSome why (IsCauseIn a reported) →
            IfNone why ((w : Cause) → IsCauseIn a reported w → ⊥) → Sees written g t old new on
        answer_seen outcome is spelt some none = search (arith, nat_tests, seen, some_causes, no_causes)

  -- if a bad line was noted, the tracer saw its turn
  pub bad_seen : (place : ℕ) (text : List ℕ) (fault : LineFault) → Notes written place text (Some (cause.BadLine fault)) old new on →
      place ≡ min (old.line + 1) (2 ^ 64 - 1) →
      t.reply ≡ BadLine → IsFaultOf t.line fault → text ≡ spaced (place_text place ∷ cause_text (cause.BadLine fault) ∷ []) →
      Sees written g t old new on
  bad_seen place text fault noted next reply is spelt = search (arith, nat_tests, seen)
