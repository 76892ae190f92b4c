-- Which fault an error from clap becomes.
use Rattle.command_line.proofs.Names.{nat_tests, arith, inl, inr, refl, subst, Bool, true, false, List, [], App, HasKind, Text, fault_of, is_simple_and_free}
use Rattle.command_line.proofs.Names.{kind_of, Command, Error, OutOfMemory, ValueValidation, eros_app, Explains, IsFaultOf, IsRefused, AsksForSame, JobFault}
use Rattle.std.proofs.Common.{◌≡◌, ◌⊎◌}
use Rattle.clap.specs.Words.{app_of, subcommand_of, takes}

-- if memory ran out or the error explains why the words are refused, the fault does
pub refused : (words : List Text) (e : Error) (f : JobFault) → IsFaultOf e f → (kind_of e ≡ OutOfMemory) ⊎ Explains words e →
    IsRefused words f
refused words e f is reported = grind (arith, nat_tests)

-- if a parse fails, its error explains why the words are refused, unless memory ran out
parse_explains : (words : List Text) (e : Error) → (takes eros_app words ≡ true → kind_of e ≡ OutOfMemory) →
    HasKind (fault_of eros_app words) e → (kind_of e ≡ OutOfMemory) ⊎ Explains words e
unfolding Explains
parse_explains words e passes kinds = go (takes eros_app words) refl
  where
    go : (b : Bool) → takes eros_app words ≡ b → (kind_of e ≡ OutOfMemory) ⊎ Explains words e
    go true taken = inl (passes taken)
    go false not_taken = elim kinds [ inl memory ↦ inl memory | inr among ↦ inr (inl (not_taken, among)) ]

-- the same as `parse_explains`, for any command equal to that of `eros`
pub parse_refused : (words : List Text) (command : Command) (e : Error) → app_of command ≡ eros_app →
    (takes (app_of command) words ≡ true → kind_of e ≡ OutOfMemory)
    → (is_simple_and_free (app_of command) ≡ true → HasKind (fault_of (app_of command) words) e) →
    (kind_of e ≡ OutOfMemory) ⊎ Explains words e
parse_refused words command e is passes kinds =
    parse_explains words e (subst (λ (a : App). takes a words ≡ true → kind_of e ≡ OutOfMemory) is passes)
    (subst (λ (a : App). is_simple_and_free a ≡ true → HasKind (fault_of a words) e) is kinds refl)

-- if clap returned matches, it finds no fault in the words
pub nothing_against : (words : List Text) (command : Command) → app_of command ≡ eros_app
    → (is_simple_and_free (app_of command) ≡ true → fault_of (app_of command) words ≡ []) → fault_of eros_app words ≡ []
nothing_against words command is none = subst (λ (a : App). is_simple_and_free a ≡ true → fault_of a words ≡ []) is none refl

-- if clap accepts an upgrade or copy of a file to itself, `ValueValidation` explains why it is refused
pub value_refused : (words : List Text) (e : Error) → kind_of e ≡ ValueValidation → fault_of eros_app words ≡ []
    → (takes eros_app words ≡ true → AsksForSame (subcommand_of eros_app words)) → (kind_of e ≡ OutOfMemory) ⊎ Explains words e
unfolding Explains
value_refused words e kind none same = inr (inr (none, same, kind))
