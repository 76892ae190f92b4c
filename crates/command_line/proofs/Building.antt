-- Building clap's command, argument by argument and subcommand by subcommand.
use Rattle.command_line.proofs.Names.{nat_tests, arith, false, ap, ap₂, AddsArg, AddsSubcommand, App, Rule, rule_of, with_rule, with_subcommand, Arg, Command}
use Rattle.command_line.proofs.Names.{IsCommand, ℕ, List, [], map, take, get_or, length, refl, add-one, take-length, take-suc, map-append, argument_rule}
use Rattle.command_line.proofs.Names.{subcommand_app, with_rules, with_subcommands, Argument, Subcommand}
use Rattle.std.proofs.Common.{◌≡◌, ◌∙◌, ◌||◌, ◌∷◌, ◌++◌, ◌+◌, ◌<◌}

pub added : (a b : App) (old sub new : Command) → AddsSubcommand old sub new → IsCommand a old → IsCommand b sub →
    IsCommand (with_subcommand a b.top) new
added a b old sub new adds is_old is_sub = grind (arith, nat_tests)

-- adding an argument to a command adds its rule
pub argued : (app : App) (old new : Command) (arg : Arg) (rule : Rule) → AddsArg old arg new → IsCommand app old → rule_of arg ≡ rule →
    arg.global ≡ false → IsCommand (with_rule app rule) new
argued app old new arg rule adds is_old ruled local = (
  adds.shape local ∙ ap₂ with_rule is_old.0 ruled,
  adds.globals
      ∙ ap₂ (λ x y. x || y) is_old.1 local,
)

-- adding the rules of a list and then one more adds them all
with_rules_more : (app : App) (rs : List Rule) (r : Rule) → with_rules app (rs ++ (r ∷ [])) ≡ with_rule (with_rules app rs) r
with_rules_more app [] r = refl
with_rules_more app (x ∷ rs) r = with_rules_more (with_rule app x) rs r

with_subcommands_more : (app : App) (ss : List Subcommand) (s : Subcommand) →
    with_subcommands app (ss ++ (s ∷ [])) ≡ with_subcommand (with_subcommands app ss) (subcommand_app s).top
with_subcommands_more app [] s = refl
with_subcommands_more app (x ∷ ss) s = with_subcommands_more (with_subcommand app (subcommand_app x).top) ss s

rules_more : (app : App) (xs : List Argument) (i : ℕ) (d : Argument) → i < length xs →
    with_rules app (map argument_rule (take (i + 1) xs)) ≡ with_rule (with_rules app (map argument_rule (take i xs)))
    (argument_rule (get_or xs i d))
rules_more app xs i d inside =
    ap (λ (ys : List Argument). with_rules app (map argument_rule ys)) (ap (λ (n : ℕ). take n xs) (add-one i) ∙ take-suc xs i d inside)
    ∙ ap (λ (rs : List Rule). with_rules app rs) (map-append argument_rule (take i xs) (get_or xs i d ∷ []))
    ∙ with_rules_more app (map argument_rule (take i xs)) (argument_rule (get_or xs i d))

pub argued_more : (app : App) (xs : List Argument) (i : ℕ) (d : Argument) (old new : Command) (arg : Arg) → i < length xs →
    IsCommand (with_rules app (map argument_rule (take i xs))) old → AddsArg old arg new → rule_of arg ≡ argument_rule (get_or xs i d) →
    arg.global ≡ false → IsCommand (with_rules app (map argument_rule (take (i + 1) xs))) new
argued_more app xs i d old new arg inside is adds ruled local = rw (rules_more app xs i d inside)
    (argued _ old new arg _ adds is ruled local)

subcommands_more : (app : App) (ss : List Subcommand) (i : ℕ) (d : Subcommand) → i < length ss →
    with_subcommands app (take (i + 1) ss) ≡ with_subcommand (with_subcommands app (take i ss)) (subcommand_app (get_or ss i d)).top
subcommands_more app ss i d inside =
    ap (λ (ys : List Subcommand). with_subcommands app ys) (ap (λ (n : ℕ). take n ss) (add-one i) ∙ take-suc ss i d inside)
    ∙ with_subcommands_more app (take i ss) (get_or ss i d)

pub added_more : (app : App) (ss : List Subcommand) (i : ℕ) (d : Subcommand) (old sub new : Command) → i < length ss →
    IsCommand (with_subcommands app (take i ss)) old → AddsSubcommand old sub new → IsCommand (subcommand_app (get_or ss i d)) sub →
    IsCommand (with_subcommands app (take (i + 1) ss)) new
added_more app ss i d old sub new inside is adds is_sub = rw (subcommands_more app ss i d inside) (added _ _ old sub new adds is is_sub)

-- if all arguments were added, the command has all rules
pub has_all : (app : App) (xs : List Argument) (rs : List Rule) (i : ℕ) (command : Command) → i ≡ length xs → map argument_rule xs ≡ rs →
    IsCommand (with_rules app (map argument_rule (take i xs))) command → IsCommand (with_rules app rs) command
has_all app xs rs i command all same is = grind (arith, nat_tests, take-length)
