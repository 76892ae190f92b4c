-- If rows lack an argument, or have a wrong one, they name no job.
use Rattle.command_line.proofs.Names.{nat_tests, ap, refl, subst, sym, Bool, ℕ, suc, arith, not, Option, Some, None, List, [], length, option_map, true, false}
use Rattle.command_line.proofs.Names.{true≢false, inl, codes, ⊤, cond, find, nat_lt, option_and_then, slice_get, unwrap_or, All, list_all, list_any}
use Rattle.command_line.proofs.Names.{slice_index_or, option_map_or, bytes_eq, eqb-true, AllPass-from_list_all, bytes_eq-Decides, parser_of_value, Shape, built}
use Rattle.command_line.proofs.Names.{label_of, values_pass, accepts, answers_to, arg_by_id, is_empty, IsUnsignedIn, Row, Rule, Text, all_of, first_of}
use Rattle.command_line.proofs.Names.{ValueParser, Unsigned, accepts-Accepts, both, GivesNoNumber, has_all, is_whole, subcommand_named, subcommand_name}
use Rattle.command_line.proofs.Names.{subcommands, eros_app, IsNoJob, IsSameOf, IsSameTwice, Found, Bor, first_value, rows_of, drop}
use Rattle.std.proofs.Common.{◌≡◌, ◌≢◌, ◌<◌, ◌∙◌, ◌&&◌, ◌||◌, ◌⊎◌, ◌∷◌}
use Rattle.command_line.specs.declared.subcommands.Subcommand.TheVariants as sub
use Rattle.command_line.proofs.Getters.{missing}

-- an item that was found passes its test, and every test that all items pass
pub found : {X : Type 0} (p q : X → Bool) (xs : List X) (x : X) → find p xs ≡ Some x → list_all q xs ≡ true → (p x ≡ true) × (q x ≡ true)
found p q [] x is all = let bad : None ≡ Some x = is in cc
found p q (y ∷ ys) x is all = grind (arith, nat_tests, found p q ys x)

-- the rule of an argument of a subcommand, by their names
abbrev pub rule_named : Text → Text → Option Rule
rule_named name id = option_and_then (λ s. arg_by_id s.rules id) (subcommand_named name)

-- the row has values that are valid for the argument; or it is missing, and the argument isn't required
abbrev fills : Rule → Option Row → Bool
fills a o = option_map_or (λ r. nat_lt 0 (length r.values) && values_pass a r.values) o (not a.required)

abbrev row_named : Text → List Row → Option Row
row_named id rows = find (λ r. bytes_eq r.id id) rows

module _ (name id : Text) (rows : List Row) where
  filled_in : (o : Option Shape) (a : Rule) → option_and_then (λ s. arg_by_id s.rules id) o ≡ Some a →
      option_map_or (λ s. is_whole s.rules rows) o false ≡ true → fills a (row_named id rows) ≡ true
  filled_in o a is has = grind (arith, nat_tests, found, bytes_eq-Decides)

  -- if a required argument has no value, the rows don't have all arguments
  lacks_row : (o : Option Rule) → rule_named name id ≡ o → option_map_or (λ a. a.required) o false ≡ true
      → option_map_or (λ (r : Row). nat_lt 0 (length r.values)) (row_named id rows) false ≡ false → has_all name rows ≡ true → ⊥
  lacks_row None is required none has = true≢false (sym required)
  lacks_row (Some a) is required none has = go (row_named id rows) none (filled_in (subcommand_named name) a is has)
    where
      go : (o : Option Row) → option_map_or (λ (r : Row). nat_lt 0 (length r.values)) o false ≡ false → fills a o ≡ true → ⊥
      go None none full = let bad : not true ≡ true = subst (λ b. not b ≡ true) required full in true≢false (sym bad)
      go (Some r) none full = true≢false (sym (both _ _ full).0 ∙ none)

  pub lacks : option_map_or (λ a. a.required) (rule_named name id) false ≡ true → first_of id rows ≡ None → IsNoJob name rows
  lacks required none has = absurd (lacks_row (rule_named name id) refl required (go (row_named id rows) none) has)
    where
      empty : (vs : List Text) → slice_get vs 0 ≡ None → nat_lt 0 (length vs) ≡ false
      empty [] e = refl
      empty (v ∷ vs) e = let bad : Some v ≡ None = e in cc

      go : (o : Option Row) → option_and_then (λ (r : Row). slice_get r.values 0) o ≡ None →
          option_map_or (λ (r : Row). nat_lt 0 (length r.values)) o false ≡ false
      go None e = refl
      go (Some r) e = empty r.values e

  -- if the rows have all arguments, the values of each pass its parser
  passing : (p : ValueParser) (o : Option Rule) → rule_named name id ≡ o → option_map (λ a. parser_of_value a.parser) o ≡ Some p →
      has_all name rows ≡ true → (r : Row) → row_named id rows ≡ Some r → (ignore_case : Bool)
      × (list_all (accepts ignore_case p) r.values ≡ true)
  passing p None is parser has r at = let bad : None ≡ Some p = parser in cc
  passing p (Some a) is parser has r at =
      let full : fills a (Some r) ≡ true = subst (λ o. fills a o ≡ true) at (filled_in (subcommand_named name) a is has) in
      let same : parser_of_value a.parser ≡ p = ap (λ (o : Option ValueParser). unwrap_or o p) parser in
      (a.ignore_case, subst (λ q. list_all (accepts a.ignore_case q) r.values ≡ true) same (both _ _ full).1)

  -- if an option was given a word that is no number, the rows name no job
  pub wrong : (least most : ℕ) → option_map (λ a. parser_of_value a.parser) (rule_named name id) ≡ Some (Unsigned least most) →
      GivesNoNumber rows id least most → IsNoJob name rows
  wrong least most parser gives has = absurd (go (row_named id rows) refl gives.1)
    where
      first : (vs : List Text) (ignore_case : Bool) → slice_get vs 0 ≡ Some gives.0 →
          list_all (accepts ignore_case (Unsigned least most)) vs ≡ true → ⊥
      first [] ignore_case is all = let bad : None ≡ Some gives.0 = is in cc
      first (v ∷ vs) ignore_case is all =
          let same : v ≡ gives.0 = ap (λ (o : Option Text). unwrap_or o v) is in
          gives.2 (subst (IsUnsignedIn least most) same (accepts-Accepts ignore_case (Unsigned least most) v (both _ _ all).0))

      go : (o : Option Row) → row_named id rows ≡ o → option_and_then (λ (r : Row). slice_get r.values 0) o ≡ Some gives.0 → ⊥
      go None at is = let bad : None ≡ Some gives.0 = is in cc
      go (Some r) at is = let all = passing (Unsigned least most) (rule_named name id) refl parser has r at in first r.values all.0 is all.1

  pub wrong_all : (least most : ℕ) (words : List Text) → option_map (λ a. parser_of_value a.parser) (rule_named name id)
      ≡ Some (Unsigned least most) → all_of id rows ≡ Some words → (All (IsUnsignedIn least most) words → ⊥) → IsNoJob name rows
  wrong_all least most words parser given bad has = absurd (go (row_named id rows) refl given)
    where
      go : (o : Option Row) → row_named id rows ≡ o → option_map (λ (r : Row). r.values) o ≡ Some words → ⊥
      go None at is = let wrong : None ≡ Some words = is in cc
      go (Some r) at is =
          let all = passing (Unsigned least most) (rule_named name id) refl parser has r at in
          let same : r.values ≡ words = ap (λ (o : Option (List Text)). unwrap_or o words) is in
          bad (λ k d lt. accepts-Accepts all.0 (Unsigned least most) (slice_index_or words k d)
          (AllPass-from_list_all (accepts all.0 (Unsigned least most)) words
          (subst (λ vs. list_all (accepts all.0 (Unsigned least most)) vs ≡ true) same all.1) k d lt))

-- an upgrade or copy with two equal words is one of a file to itself
pub same_twice : (command id : Text) (rows : List Row) (one other : Text) → first_of id rows ≡ Some one →
    first_of (codes "NEW") rows ≡ Some other → one ≡ other → IsSameOf command id command rows
same_twice command id rows one other one_is other_is same = (refl, one, one_is, other_is ∙ ap Some (sym same))

-- the name differs from all these names
abbrev DiffersFrom : Text → List Shape → Type 0
DiffersFrom name [] = ⊤
DiffersFrom name (s ∷ rest) = (name ≡ s.name → ⊥) × DiffersFrom name rest

not_found : (name : Text) (xs : List Shape) → DiffersFrom name xs → list_all (λ s. is_empty s.aliases) xs ≡ true →
    find (λ s. answers_to name (label_of s)) xs ≡ None
not_found name [] differs plain = refl
not_found name (s ∷ rest) differs plain = go (bytes_eq s.name name) refl s.aliases (both _ _ plain).0
    (not_found name rest differs.1 (both _ _ plain).1)
  where
    go : (b : Bool) → bytes_eq s.name name ≡ b → (aliases : List Text) → is_empty aliases ≡ true →
        find (λ x. answers_to name (label_of x)) rest ≡ None → cond (b || list_any (λ alias. bytes_eq alias name) aliases) (Some s)
        (find (λ x. answers_to name (label_of x)) rest) ≡ None
    go true e aliases none more = absurd (differs.0 (sym ((bytes_eq-Decides s.name name).0 e)))
    go false e [] none more = more
    go false e (x ∷ xs) none more = let bad : suc (length xs) ≡ 0 = eqb-true _ _ none in absurd (omega arith)

-- if the name isn't a subcommand's, the rows name no job
pub unknown : (name : Text) (rows : List Row) → All (λ s. name ≢ subcommand_name s) subcommands → IsNoJob name rows
unknown name rows each has = go (bytes_eq name (codes "help")) refl
  where
    at : (i : ℕ) → i < 11 → name ≢ subcommand_name (slice_index_or subcommands i sub.Build)
    at i inside = each i sub.Build inside

    differs : (name ≡ codes "help" → ⊥) → DiffersFrom name (built eros_app).subs
    differs help =
        let shapes : List Shape = (built eros_app).subs in
        let last : DiffersFrom name (drop 7 shapes) = (
          at 7 (omega arith),
          (
            at 8 (omega arith),
            (at 9 (omega arith), (at 10 (omega arith), (help, tt))),
          ),
        ) in
        let more : DiffersFrom name (drop 4 shapes) = (at 4 (omega arith), (at 5 (omega arith), (at 6 (omega arith), last))) in
        (at 0 (omega arith), (at 1 (omega arith), (at 2 (omega arith), (at 3 (omega arith), more))))

    none_found : (o : Option Shape) → o ≡ None → option_map_or (λ s. is_whole s.rules rows) o false ≡ true → ⊥
    none_found None e h = true≢false (sym h)
    none_found (Some s) e h = let bad : Some s ≡ None = e in cc

    go : (b : Bool) → bytes_eq name (codes "help") ≡ b → (name ≡ codes "help") ⊎ IsSameTwice name rows
    go true e = inl ((bytes_eq-Decides _ _).0 e)
    go false e =
        let other : name ≡ codes "help" → ⊥ = λ is. true≢false (sym ((bytes_eq-Decides name (codes "help")).1 is) ∙ e) in
        absurd (none_found (subcommand_named name) (not_found name (built eros_app).subs (differs other) refl) has)

-- if a getter found no value for a required argument, the rows name no job
pub lacking : (name id : Text) (f : Found) (o : Option (Bor Text)) → option_map_or (λ a. a.required) (rule_named name id) false ≡ true
    → option_map (λ s. s.now) o ≡ first_value f id → o ≡ None → IsNoJob name (rows_of f)
lacking name id f o required got is = lacks name id (rows_of f) required (missing f id o got is)
