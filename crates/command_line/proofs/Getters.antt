-- What the getters of clap's matches return.
use Rattle.command_line.proofs.Names.{nat_tests, arith, ap, subst, sym, Bool, false, Option, Some, None, List, codes, map, option_map, Bor, IfSome, unwrap_or}
use Rattle.command_line.proofs.Names.{bytes_eq, bytes_eq-Decides, Row, Text, all_of, first_of, first_value, matched_of, raw_values, rows_of, subcommand_name_of}
use Rattle.command_line.proofs.Names.{subcommand_rows, subcommand_rows_of, ArgMatches, out-ArgMatches, Found, first_value-rows, raw_values-rows, IsFlag}
use Rattle.command_line.proofs.Names.{IsGiven, All, IsUnsignedIn, greatest_number, inl, number_of, ℕ, Result, Ok, Err, Vec, IfOk, IsNone, Global, AllocError}
use Rattle.command_line.proofs.Names.{AreNumbersIfAny, GivesNoNumbers}
use Rattle.std.proofs.Common.{◌≡◌, ◌∙◌}

-- if the name and the rows of the subcommand are these, the matches have this subcommand
pub met : (m : ArgMatches) (name : Text) (rows : List Row) → Some name ≡ subcommand_name_of m
    → Some rows ≡ option_map (λ p. p.1) (subcommand_rows (out-ArgMatches m).subcommand) → subcommand_rows_of m ≡ Some (name, rows)
met m name rows named rowed = grind (arith, nat_tests)

-- if a getter returned a text, the argument was given as this text
pub given : (f : Found) (id : Text) (o : Option (Bor Text)) (text : Bor Text) → option_map (λ s. s.now) o ≡ first_value f id → o ≡ Some text
    → IsGiven (rows_of f) id text.now
given f id o text got is = sym (first_value-rows f id) ∙ (sym got ∙ ap (option_map (λ s. s.now)) is)

pub missing : (f : Found) (id : Text) (o : Option (Bor Text)) → option_map (λ s. s.now) o ≡ first_value f id → o ≡ None →
    first_of id (rows_of f) ≡ None
missing f id o got is = sym (first_value-rows f id) ∙ (sym got ∙ ap (option_map (λ s. s.now)) is)

pub given_or_not : (f : Found) (id : Text) (o : Option (Bor Text)) → option_map (λ s. s.now) o ≡ first_value f id →
    first_of id (rows_of f) ≡ option_map (λ s. s.now) o
given_or_not f id o got = sym (first_value-rows f id) ∙ sym got

pub given_all : (f : Found) (id : Text) (o : Option (Bor (List (Bor Text)))) (words : Bor (List (Bor Text)))
    → option_map (λ s. map (λ v. v.now) s.now) o ≡ option_map raw_values (matched_of f id) → o ≡ Some words →
    all_of id (rows_of f) ≡ Some (map (λ v. v.now) words.now)
given_all f id o words got is = sym (raw_values-rows f id) ∙ (sym got ∙ ap (option_map (λ s. map (λ v. v.now) s.now)) is)

pub missing_all : (f : Found) (id : Text) (o : Option (Bor (List (Bor Text)))) →
    option_map (λ s. map (λ v. v.now) s.now) o ≡ option_map raw_values (matched_of f id)
    → o ≡ None → all_of id (rows_of f) ≡ None
missing_all f id o got is = sym (raw_values-rows f id) ∙ (sym got ∙ ap (option_map (λ s. map (λ v. v.now) s.now)) is)

-- if P holds of an option's value, and the option is `Some x`, P holds of x
pub held : {X : Type 0} (P : X → Type 0) (o : Option X) (x : X) → IfSome o P → o ≡ Some x → P x
held P None x holds is = let bad : None ≡ Some x = is in cc
held P (Some y) x holds is = let same : y ≡ x = ap (λ (o : Option _). unwrap_or o y) is in subst P same holds

-- a flag is given if its value is `true`
pub flagged : (rows : List Row) (id word : Text) (b : Bool) → IsGiven rows id word → bytes_eq word (codes "true") ≡ b → IsFlag rows id b
flagged rows id word b given e = grind (arith, nat_tests, bytes_eq-Decides)

pub unflagged : (rows : List Row) (id : Text) → first_of id rows ≡ None → IsFlag rows id false
unflagged rows id none = λ set. let bad : None ≡ Some (codes "true") = sym none ∙ set in cc

-- if all words were read, these are the numbers; if one wasn't, the argument was given a word that is no number
pub numbers_given : (rows : List Row) (name : Text) (words : List Text) (r : Result (Option (Vec ℕ Global)) AllocError) →
    all_of name rows ≡ Some words → IfOk r (λ o. IfSome o (λ numbers. (numbers.items ≡ map number_of words)
    × All (IsUnsignedIn 0 greatest_number) words))
    → IfOk r (λ o. IfSome o (λ numbers. AreNumbersIfAny rows name numbers.items))
numbers_given rows name words (Ok (Some numbers)) given is = inl (words, given, is.1, is.0)
numbers_given rows name words (Ok None) given is = tt
numbers_given rows name words (Err e) given is = tt

pub numbers_not_given : (rows : List Row) (name : Text) (words : List Text) (r : Result (Option (Vec ℕ Global)) AllocError) →
    all_of name rows ≡ Some words → IfOk r (λ o. IsNone o → All (IsUnsignedIn 0 greatest_number) words → ⊥) →
    IfOk r (λ o. IsNone o → GivesNoNumbers rows name)
numbers_not_given rows name words (Ok o) given bad = λ none. (words, given, bad none)
numbers_not_given rows name words (Err e) given bad = tt
