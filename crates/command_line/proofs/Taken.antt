-- If a parse accepts the words, each argument has valid values, and no help is asked for.
use Rattle.command_line.proofs.Names.{nat_tests, ℕ, zero, suc, not, is_some, refl, ap, arith, List, [], Bool, length, true, false, Option, Some, None}
use Rattle.command_line.proofs.Names.{true≢false, ⊤, cond, fold, find, nat_le, nat_lt, option_map_or, list_all, list_any, bytes_eq, eqb-true, leb-true, lt-ltb}
use Rattle.command_line.proofs.Names.{list_all-append, bytes_eq-Decides, is_request, ArgAction, ValueSource, unwrap_or_range, Held, Names, Outcome, Step}
use Rattle.command_line.proofs.Names.{Waiting, Walk, action_of, after_flag, after_step, arg_by_id, at_row, attached_value, bundle_met, bundle_step, finished}
use Rattle.command_line.proofs.Names.{flag_met, is_empty, long_or_other, nothing_held, option_met, plain_word, positional, reacted, reading_by, settled}
use Rattle.command_line.proofs.Names.{short_met, subcommand, takes_values, used, used_as, values_or_missing, walk, walk_from, walked, walked_from, with_default}
use Rattle.command_line.proofs.Names.{with_values, without, word_met, Shape, action_passes, bundle_step_passes, default_passes, flag_word_passes, flags_pass}
use Rattle.command_line.proofs.Names.{is_given, level_passes, option_passes, react_passes, settle_passes, short_passes, step_passes, use_passes, values_pass}
use Rattle.command_line.proofs.Names.{walk_passes, word_passes, both, is_filled, is_whole}
use Rattle.std.proofs.Common.{◌≡◌, ◌<◌, ◌&&◌, ◌||◌, ◌∙◌, ◌∷◌, ◌++◌}
use Rattle.std.specs.Prelude.{codes}
use Rattle.clap.specs.Walk.{Row, Rule, Text}

-- the values are valid for the argument of this name
abbrev pub suits : List Rule → Text → List Text → Bool
suits c id values = option_map_or (λ a. values_pass a values) (arg_by_id c id) true

-- a row has a value, and its values are valid for its argument
abbrev pub IsGood : List Rule → Row → Type 0
IsGood c r = (0 < length r.values) × (suits c r.id r.values ≡ true)

-- all rows are good
abbrev pub Filled : List Rule → List Row → Type 0
Filled c [] = ⊤
Filled c (r ∷ rs) = IsGood c r × Filled c rs

-- the argument always gets a value, unless it asks for help or the version
abbrev pub gives_value : Rule → Bool
gives_value a = is_request (action_of a) || (nat_lt 0 (unwrap_or_range a.range).start_inclusive || not (is_empty a.missing))

-- each of these arguments always gets a value, and no two have the same name
abbrev pub is_plain : List Rule → Bool
is_plain [] = true
is_plain (a ∷ c) = gives_value a && (not (list_any (λ b. bytes_eq b.id a.id) c) && is_plain c)

-- the argument always gets a value, and is the only one of its name
abbrev IsOwn : List Rule → Rule → Type 0
IsOwn c a = (gives_value a ≡ true) × (arg_by_id c a.id ≡ Some a)

abbrev AllOwn : List Rule → List Rule → Type 0
AllOwn c [] = ⊤
AllOwn c (a ∷ xs) = IsOwn c a × AllOwn c xs

apart : (id : Text) (a : Rule) → bytes_eq a.id id ≡ false → bytes_eq id a.id ≡ false
apart id a e = grind (arith, nat_tests, bytes_eq-Decides)

own_below : (x : Rule) (c xs : List Rule) → list_any (λ b. bytes_eq b.id x.id) xs ≡ false → AllOwn c xs → AllOwn (x ∷ c) xs
own_below x c [] none own = tt
own_below x c (a ∷ xs) none own = grind (arith, nat_tests, own_below x c xs, apart)

all_own : (c : List Rule) → is_plain c ≡ true → AllOwn c c
all_own [] simple = tt
all_own (a ∷ c) simple =
    let parts = both _ _ simple in
    let rest = both (not (list_any (λ b. bytes_eq b.id a.id) c)) _ parts.1 in
    grind (arith, nat_tests, all_own c rest.1, bytes_eq-Decides, own_below)

-- no other argument has the name of this argument, if it exists
abbrev IsOwnIfAny : List Rule → Option Rule → Type 0
IsOwnIfAny c None = ⊤
IsOwnIfAny c (Some a) = IsOwn c a

found_in : (p : Rule → Bool) (c xs : List Rule) → AllOwn c xs → IsOwnIfAny c (find p xs)
found_in p c [] own = tt
found_in p c (a ∷ xs) own = grind (arith, nat_tests, found_in p c xs own.1)

longer : (vs ws : List Text) → 0 < length ws → 0 < length (vs ++ ws)
longer [] ws lt = lt
longer (v ∷ vs) ws lt = omega arith

-- if the number of values is valid, the argument gets a value
left_values : (a : Rule) (values : List Text) → (nat_lt 0 (unwrap_or_range a.range).start_inclusive || not (is_empty a.missing)) ≡ true
    → nat_le (unwrap_or_range a.range).start_inclusive (length values) ≡ true → 0 < length (values_or_missing a values)
left_values a values gives le = grind (arith, nat_tests, leb-true)

module _ (c : List Rule) where
  joined : (xs ys : List Row) → Filled c xs → Filled c ys → Filled c (xs ++ ys)
  joined [] ys f g = g
  joined (x ∷ xs) ys f g = (f.0, joined xs ys f.1 g)

  changed : (id : Text) (change : Row → List Row) (lacking rows : List Row) →
      ((r : Row) → bytes_eq r.id id ≡ true → IsGood c r → Filled c (change r)) → Filled c lacking → Filled c rows →
      Filled c (at_row id change lacking rows)
  changed id change lacking [] keeps f g = f
  changed id change lacking (r ∷ rs) keeps f g = grind (arith, nat_tests, changed id change lacking rs keeps f g.1, joined)

  without_keeps : (id : Text) (rows : List Row) → Filled c rows → Filled c (without id rows)
  without_keeps id rows f = changed id (λ _. []) [] rows (λ r is good. tt) tt f

  -- if the argument is the only one of its name, values are valid for the name if they are for the argument
  suits_own : (a : Rule) (id : Text) (values : List Text) → arg_by_id c a.id ≡ Some a → bytes_eq id a.id ≡ true →
      suits c id values ≡ values_pass a values
  suits_own a id values own same =
      ap (λ (t : Text). suits c t values) ((bytes_eq-Decides id a.id).0 same)
      ∙ ap (λ (o : Option Rule). option_map_or (λ b. values_pass b values) o true) own

  with_keeps : (a : Rule) (s : ValueSource) (values : List Text) (rows : List Row) → arg_by_id c a.id ≡ Some a → 0 < length values →
      values_pass a values ≡ true → Filled c rows → Filled c (with_values a.id (reading_by a) s values rows)
  with_keeps a s values rows own lt passes f = grind (arith, nat_tests, changed, suits_own, bytes_eq-Decides, longer, list_all-append)

module _ (c : List Rule) (again : Bool) where
  used_as_keeps : (x : ArgAction) (a : Rule) (values : List Text) (rows : List Row) → arg_by_id c a.id ≡ Some a →
      (is_request x || nat_lt 0 (length values)) ≡ true
      → action_passes x again a values rows ≡ true → Filled c rows → Filled c (used_as x a.id (reading_by a) values rows)
  used_as_keeps x a values rows own some passes f = grind (arith, nat_tests, with_keeps, without_keeps)

  used_keeps : (a : Rule) (values : List Text) (rows : List Row) → IsOwn c a → use_passes again a values rows ≡ true → Filled c rows →
      Filled c (used a values rows)
  used_keeps a values rows own passes f = grind (arith, nat_tests, used_as_keeps, lt-ltb, left_values)

module _ (c : List Rule) (again : Bool) (own : AllOwn c c) where
  found_own : (p : Rule → Bool) → IsOwnIfAny c (find p c)
  found_own p = found_in p c c own

  settle_keeps : (h : Held) → settle_passes c again h ≡ true → Filled c h.rows → Filled c (settled c h).rows
  settle_keeps h passes f = grind (arith, nat_tests, used_keeps, found_own)

  react_keeps : (a : Rule) (values : List Text) (h : Held) → IsOwn c a → react_passes c again a values h ≡ true → Filled c h.rows →
      Filled c (reacted c a values h).rows
  react_keeps a values h is passes f = let parts = both _ _ passes in used_keeps c again a values (settled c h).rows is parts.1
      (settle_keeps h parts.0 f)

  option_keeps : (a : Rule) (v : Option Text) (h : Held) → IsOwn c a → option_passes c again a v h ≡ true → Filled c h.rows →
      Filled c (option_met c a v h).0.rows
  option_keeps a (Some v) h is passes f = react_keeps a (v ∷ []) h is passes f
  option_keeps a None h is passes f = settle_keeps h passes f

  flag_keeps : (a : Rule) (v : Option Text) (h : Held) → IsOwn c a → (not (is_some v) && react_passes c again a [] h) ≡ true →
      Filled c h.rows → Filled c (flag_met c a v h).0.rows
  flag_keeps a (Some v) h is passes f = f
  flag_keeps a None h is passes f = react_keeps a [] h is passes f

  short_keeps : (o : Option Rule) (rest : Text) (h : Held) (more : Held → Held × Outcome) (passes_on : Held → Bool) → IsOwnIfAny c o
      → ((g : Held) → passes_on g ≡ true → Filled c g.rows → Filled c (more g).0.rows)
      → short_passes c again o rest h passes_on ≡ true → Filled c h.rows → Filled c (short_met c o rest h more).0.rows
  short_keeps None rest h more passes_on is keeps passes f = f
  short_keeps (Some a) rest h more passes_on is keeps passes f = go (takes_values a) passes
    where
      go : (b : Bool) → cond b (option_passes c again a (attached_value rest) h)
          (react_passes c again a [] h && passes_on (reacted c a [] h)) ≡ true →
          Filled c (cond b (option_met c a (attached_value rest) h) (more (reacted c a [] h))).0.rows
      go true e = option_keeps a (attached_value rest) h is e f
      go false e = let parts = both _ _ e in keeps (reacted c a [] h) parts.1 (react_keeps a [] h is parts.0 f)

  bundle_step_keeps : (o : Option ℕ) (flags : Text) (skip : ℕ) (so_far : Outcome) (h : Held)
      (more : Text → ℕ → Outcome → Held → Held × Outcome) (passes_on : Text → ℕ → Held → Bool)
      → ((t : Text) (n : ℕ) (u : Outcome) (g : Held) → passes_on t n g ≡ true → Filled c g.rows → Filled c (more t n u g).0.rows)
      → bundle_step_passes c again o flags skip h passes_on ≡ true → Filled c h.rows →
      Filled c (bundle_step c o flags skip so_far h more).0.rows
  bundle_step_keeps o flags skip so_far h more passes_on keeps passes f = grind (arith, nat_tests, short_keeps, found_own)

  bundle_keeps : (k : ℕ) (flags : Text) (skip : ℕ) (so_far : Outcome) (h : Held) → flags_pass c again k flags skip h ≡ true →
      Filled c h.rows → Filled c (bundle_met c k flags skip so_far h).0.rows
  unfolding bundle_met flags_pass
  bundle_keeps zero flags skip so_far h passes f = f
  bundle_keeps (suc k) flags skip so_far h passes f = grind (arith, nat_tests, bundle_keeps k, bundle_step_keeps)

-- ---- a word

-- the subcommand isn't `help`
abbrev pub is_no_help : Shape → Text → Bool
is_no_help s name = not (bytes_eq name (codes "help")) || s.disable_help_subcommand

abbrev EntersNoHelp : Shape → Step → Type 0
EntersNoHelp s (subcommand name) = is_no_help s name ≡ true
EntersNoHelp s _ = ⊤

abbrev StepKeeps : Shape → Held × Step → Type 0
StepKeeps s met = Filled s.rules met.0.rows × EntersNoHelp s met.1

abbrev pub StopsWell : Shape → Option (Text × List Text) → Type 0
StopsWell s None = ⊤
StopsWell s (Some p) = is_no_help s p.0 ≡ true

abbrev WalkKeeps : Shape → Walk → Type 0
WalkKeeps s w = Filled s.rules w.held.rows × StopsWell s w.stopped

module _ (s : Shape) (own : AllOwn s.rules s.rules) where
  plain_keeps : (waiting : Waiting) (word : Text) (h : Held) → Filled s.rules h.rows → StepKeeps s (plain_word s.rules waiting word h)
  plain_keeps waiting word h f = grind (arith, nat_tests, positional)

  after_flag_keeps : (waiting : Waiting) (word : Text) (h : Held) (u : Outcome) → Filled s.rules h.rows →
      StepKeeps s (after_flag s.rules waiting word h u)
  after_flag_keeps waiting word h u f = grind (arith, nat_tests, plain_keeps)

  other_keeps : (waiting : Waiting) (word : Text) (o : Option (Text × Option Text)) (h : Held)
      → flag_word_passes s.rules s.args_override_self o word h ≡ true → Filled s.rules h.rows →
      StepKeeps s (long_or_other s.rules waiting word o h)
  other_keeps waiting word o h passes f = grind (
    arith,
    nat_tests,
    after_flag_keeps,
    option_keeps,
    flag_keeps,
    found_own,
    plain_keeps,
    bundle_keeps,
  )

  word_keeps : (names : Names) (is_trailing : Bool) (waiting : Waiting) (position : ℕ) (word : Text) (h : Held)
      → word_passes s names is_trailing waiting word h ≡ true → Filled s.rules h.rows →
      StepKeeps s (word_met s.rules names is_trailing waiting position word h)
  word_keeps names is_trailing waiting position word h passes f = grind (arith, nat_tests, other_keeps)

  -- ---- the walk over the words

  step_keeps : (word : Text) (w : Walk) (h : Held) (step : Step) → step_passes s w.position h step ≡ true → StopsWell s w.stopped →
      Filled s.rules h.rows → EntersNoHelp s step → WalkKeeps s (after_step s.rules word w h step)
  step_keeps word w h step passes stops f well = grind (arith, nat_tests, settle_keeps)

  turn_keeps : (names : Names) (stop : Option (Text × List Text)) (w : Walk) (word : Text)
      → (is_some stop || (word_passes s names w.is_trailing w.waiting word w.held
      && step_passes s w.position (word_met s.rules names w.is_trailing w.waiting w.position word w.held).0
      (word_met s.rules names w.is_trailing w.waiting w.position word w.held).1)) ≡ true
      → StopsWell s stop → WalkKeeps s w → WalkKeeps s (walked_from s.rules names stop w word)
  turn_keeps names stop w word passes stops keeps = grind (arith, nat_tests, word_keeps, step_keeps)

  walk_keeps : (names : Names) (w : Walk) (words : List Text) → walk_passes s names w words ≡ true → WalkKeeps s w
      → WalkKeeps s (fold (walked s.rules names) w words)
  unfolding walk_passes walked
  walk_keeps names w [] passes keeps = keeps
  walk_keeps names w (word ∷ rest) passes keeps =
      let parts = both _ _ passes in
      walk_keeps names (walked s.rules names w word) rest parts.1 (turn_keeps names w.stopped w word parts.0 keeps.1 keeps)

-- ---- a level of the parse

with_default_keeps : (c : List Rule) (rows : List Row) (a : Rule) → arg_by_id c a.id ≡ Some a → default_passes a ≡ true → Filled c rows →
    Filled c (with_default rows a)
with_default_keeps c rows a own passes f = grind (arith, nat_tests, eqb-true, with_keeps)

defaults_keep : (c xs : List Rule) (rows : List Row) → AllOwn c xs → list_all default_passes xs ≡ true → Filled c rows →
    Filled c (fold with_default rows xs)
defaults_keep c [] rows own passes f = f
defaults_keep c (a ∷ xs) rows own passes f = grind (arith, nat_tests, defaults_keep c xs (with_default rows a) own.1, with_default_keeps)

-- if there is a row of this name, it is good
abbrev IsGoodIfAny : List Rule → Text → Option Row → Type 0
IsGoodIfAny c id None = ⊤
IsGoodIfAny c id (Some r) = (0 < length r.values) × (suits c id r.values ≡ true)

found_good : (c : List Rule) (id : Text) (rows : List Row) → Filled c rows → IsGoodIfAny c id (find (λ r. bytes_eq r.id id) rows)
found_good c id [] f = tt
found_good c id (r ∷ rs) f = grind (arith, nat_tests, found_good c id rs f.1, bytes_eq-Decides)

rule_filled : (c : List Rule) (a : Rule) (rows : List Row) → arg_by_id c a.id ≡ Some a → Filled c rows →
    (not a.required || is_given a.id rows) ≡ true → is_filled rows a ≡ true
rule_filled c a rows own f given = grind (arith, nat_tests, found_good, suits_own, bytes_eq-Decides, lt-ltb)

whole_from : (c xs : List Rule) (rows : List Row) → AllOwn c xs → Filled c rows →
    list_all (λ a. not a.required || is_given a.id rows) xs ≡ true → is_whole xs rows ≡ true
whole_from c [] rows own f given = refl
whole_from c (a ∷ xs) rows own f given = grind (arith, nat_tests, whole_from c xs rows own.1 f, rule_filled)

-- if a level of the parse is accepted, its arguments have valid values, no help is asked for, and a required subcommand isn't missing
pub level_keeps : (s : Shape) (names : Names) (words : List Text) (has_subcommand : Bool) → is_plain s.rules ≡ true →
    s.subcommand_negates_reqs ≡ false → level_passes s names nothing_held words has_subcommand ≡ true
    → (is_whole s.rules (finished s.rules (walk s.rules names nothing_held words).held) ≡ true)
    × StopsWell s (walk s.rules names nothing_held words).stopped
    × ((not s.subcommand_required || has_subcommand) ≡ true)
level_keeps s names words has simple negates passes =
    let own = all_own s.rules simple in
    let walks = both _ _ passes in
    let settles = both _ _ walks.1 in
    let defaults = both _ _ settles.1 in
    let requested = both _ _ defaults.1 in
    let wanted = both _ _ requested.1 in
    let free = both _ _ wanted.1 in
    let end = (walk s.rules names nothing_held words) in
    let kept = walk_keeps s own names (walk_from nothing_held) words walks.0 (tt, tt) in
    let filled = defaults_keep s.rules s.rules (settled s.rules end.held).rows own defaults.0
    (settle_keeps s.rules s.args_override_self own end.held settles.0 kept.0) in (
      whole_from s.rules s.rules (finished s.rules end.held) own filled (negated s.subcommand_negates_reqs has _ negates free.1),
      kept.1,
      wanted.0,
    )
  where
    negated : (b has x : Bool) → b ≡ false → ((b && has) || x) ≡ true → x ≡ true
    negated true has x is e = absurd (true≢false is)
    negated false has x is e = e
