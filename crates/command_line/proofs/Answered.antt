-- If `eros` accepts the words of a command line, they name a job, except for an upgrade or copy of a file to itself.
use Rattle.command_line.proofs.Names.{nat_tests, is_some, not, suc, arith, length, option_map, refl, sym, subst, ap, List, [], Bool, drop, true, false, Option}
use Rattle.command_line.proofs.Names.{Some, None, true≢false, codes, list_any, option_map_or, bytes_eq, eqb-true, bytes_eq-Decides, answers_to, is_empty}
use Rattle.command_line.proofs.Names.{nothing_held, stop_after, Command, ArgMatches, HasMatchesOf, Shape, app_of, built, entered, is_simple, label_of, names_of}
use Rattle.command_line.proofs.Names.{rows_at, subcommand_of, entered_passes, level_passes, takes, both, has_all, is_whole, subcommand_named, eros_app}
use Rattle.command_line.proofs.Names.{NamesLine, NamesNone, CommandLine, AsksForSame}
use Rattle.std.proofs.Common.{◌≡◌, ◌∙◌, ◌&&◌, ◌||◌, ◌∷◌}
use Rattle.clap.specs.Walk.{Text}
use Rattle.clap.specs.Simple.{App, subcommand_rows_of}
use Rattle.command_line.proofs.Lacking.{found}
use Rattle.command_line.proofs.Taken.{StopsWell, is_no_help, is_plain, level_keeps}

-- the command of `eros`, as clap builds it for a parse
abbrev whole : App
whole = built eros_app

-- a subcommand has no aliases; it is `help`, or its arguments are plain
abbrev is_ready : Shape → Bool
is_ready s = is_empty s.aliases && (bytes_eq s.name (codes "help") || (is_plain s.rules && not s.subcommand_negates_reqs))

-- a subcommand without aliases answers only to its name
its_name : (s : Shape) (name : Text) → is_empty s.aliases ≡ true → answers_to name (label_of s) ≡ true → s.name ≡ name
its_name s name plain answers = go s.aliases plain (bytes_eq s.name name) refl answers
  where
    go : (aliases : List Text) → is_empty aliases ≡ true → (b : Bool) → bytes_eq s.name name ≡ b →
        (b || list_any (λ alias. bytes_eq alias name) aliases) ≡ true → s.name ≡ name
    go [] none true e is = (bytes_eq-Decides _ _).0 e
    go [] none false e is = absurd (true≢false (sym is))
    go (x ∷ xs) none b e is = let bad : suc (length xs) ≡ 0 = eqb-true _ _ none in absurd (omega arith)

no_help : (name : Text) → is_no_help whole.top name ≡ true → name ≡ codes "help" → ⊥
no_help name other help = grind (arith, nat_tests)

module _ (p : Text × List Text) (well : is_no_help whole.top p.0 ≡ true) where
  shape_named : (s : Shape) → subcommand_named p.0 ≡ Some s → level_passes s [] nothing_held p.1 false ≡ true
      → NamesNone (Some (rows_at s p.1)) → AsksForSame (Some (rows_at s p.1))
  shape_named s is level none =
      let at = found (λ x. answers_to p.0 (label_of x)) is_ready whole.subs s is refl in
      let ready = both _ _ at.1 in
      let name : s.name ≡ p.0 = its_name s p.0 ready.0 at.0 in
      let plain = go (bytes_eq s.name (codes "help")) refl name ready.1 in
      let kept = level_keeps s [] p.1 false plain.0 plain.1 level in
      let has : has_all s.name (rows_at s p.1).1 ≡ true = whole_named s.name (ap subcommand_named name ∙ is) kept.0 in
      grind (arith, nat_tests, no_help)
    where
      negated : (b : Bool) → not b ≡ true → b ≡ false
      negated false e = refl
      negated true e = absurd (true≢false (sym e))

      go : (b : Bool) → bytes_eq s.name (codes "help") ≡ b → s.name ≡ p.0 →
          (b || (is_plain s.rules && not s.subcommand_negates_reqs)) ≡ true →
          (is_plain s.rules ≡ true) × (s.subcommand_negates_reqs ≡ false)
      go true e name ready = absurd (no_help p.0 well (sym name ∙ (bytes_eq-Decides _ _).0 e))
      go false e name ready = let parts = both _ _ ready in (parts.0, negated _ parts.1)

      whole_named : (name : Text) → subcommand_named name ≡ Some s → is_whole s.rules (rows_at s p.1).1 ≡ true →
          has_all name (rows_at s p.1).1 ≡ true
      whole_named name found full = ap (λ (o : Option Shape). option_map_or (λ x. is_whole x.rules (rows_at s p.1).1) o false) found ∙ full

entered_named : (stop : Option (Text × List Text)) → is_some (entered whole stop) ≡ true → StopsWell whole.top stop →
    entered_passes whole stop ≡ true → NamesNone (entered whole stop) → AsksForSame (entered whole stop)
entered_named None some well passes none = absurd (true≢false (sym some))
entered_named (Some p) some well passes none = go (subcommand_named p.0) refl some passes none
  where
    go : (o : Option Shape) → subcommand_named p.0 ≡ o → is_some (option_map (λ s. rows_at s p.1) o) ≡ true
        → option_map_or (λ s. level_passes s [] nothing_held p.1 false) o true ≡ true
        → NamesNone (option_map (λ s. rows_at s p.1) o) → AsksForSame (option_map (λ s. rows_at s p.1) o)
    go None is some level none = absurd (true≢false (sym some))
    go (Some s) is some level none = shape_named p well s is level none

-- if `eros` accepts words that name no job, they ask for an upgrade or copy of a file to itself
pub takes_named : (words : List Text) → takes eros_app words ≡ true → NamesNone (subcommand_of eros_app words) →
    AsksForSame (subcommand_of eros_app words)
takes_named words taken none =
    let parts = both (is_simple eros_app) _ taken in
    let given = drop 1 words in
    let stop = stop_after whole.top.rules (names_of whole) given in
    let passes = both (entered_passes whole stop) _ parts.1 in
    let kept = level_keeps whole.top (names_of whole) given (is_some (entered whole stop)) refl refl passes.1 in
    entered_named stop kept.2 kept.1 passes.0 none

-- if accepted words have matches that name no job, the words ask for an upgrade or copy of a file to itself
pub unnamed : (words : List Text) (command : Command) (m : ArgMatches) → app_of command ≡ eros_app → HasMatchesOf (app_of command) words m
    → NamesNone (subcommand_rows_of m) → takes eros_app words ≡ true → AsksForSame (subcommand_of eros_app words)
unnamed words command m is has none taken =
    let same = (has (ap is_simple is)).1 ∙ ap (λ a. subcommand_of a words) is in
    takes_named words taken (subst NamesNone same none)

-- the job that the matches name is the one that the words name
pub named_by : (words : List Text) (command : Command) (m : ArgMatches) → app_of command ≡ eros_app → HasMatchesOf (app_of command) words m
    → (x : CommandLine) → NamesLine (subcommand_rows_of m) x → NamesLine (subcommand_of eros_app words) x
named_by words command m is has x named =
    let same = (has (ap is_simple is)).1 ∙ ap (λ a. subcommand_of a words) is in
    subst (λ s. NamesLine s x) same named
