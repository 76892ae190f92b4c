-- The command of `eros`, as clap parses it.
use Rattle.std.specs.Prelude.{◌≡◌, ℕ, List, [], ◌∷◌, Some, true, false, codes}
use Rattle.clap.specs.Words.{App, Rule, Text, app_of, new_app, new_rule, with_rule, with_subcommand}
use Rattle.clap.specs.declared.builder.action.ArgAction.TheVariants.{Append, SetTrue}
use Rattle.clap.specs.declared.builder.command.Command.{Command}
use Rattle.clap.specs.declared.builder.command.Command.TheViews.{out-Command}
use Rattle.clap.specs.declared.builder.value_parser.ValueParser.TheVariants.{Unsigned}
use Rattle.command_line.specs.declared.subcommands.Argument.{Argument}
use Rattle.command_line.specs.declared.subcommands.Argument.TheVariants as argument
use Rattle.command_line.specs.declared.subcommands.Subcommand.{Subcommand}
use Rattle.command_line.specs.declared.subcommands.Subcommand.TheVariants as sub

-- a required file
abbrev pub file_rule : Text → Rule
file_rule name = record (new_rule name) { required = true }

-- the greatest number that an argument may give
abbrev pub greatest_number : ℕ
greatest_number = 18446744073709551615

-- --NAME VALUE, a number within limits; optional
abbrev pub option_rule : Text → ℕ → ℕ → Rule
option_rule name least most = record
    (new_rule name) { long = Some name; value_names = 1; parser = Some (Unsigned least most) }

-- --cache C, the capacity of the cache
abbrev pub cache_rule : Rule
cache_rule = option_rule (codes "cache") 8 8192

-- --NAME VALUE, any number; optional
abbrev pub number_rule : Text → Rule
number_rule name = option_rule name 0 greatest_number

-- --NAME VALUE, any number; optional, and may be repeated
abbrev pub numbers_rule : Text → Rule
numbers_rule name = record (number_rule name) { action = Some Append }

-- P [P ..], numbers; optional
abbrev pub processes_rule : Rule
processes_rule = record (new_rule (codes "P")) {
  range = Some (record { start_inclusive = 1; end_inclusive = greatest_number });
  parser = Some (Unsigned 0 greatest_number);
}

-- --NAME; optional
abbrev pub flag_rule : Text → Rule
flag_rule name = record (new_rule name) { long = Some name; action = Some SetTrue }

-- --json, for answers in JSON
abbrev pub json_rule : Rule
json_rule = flag_rule (codes "json")

-- --verbose, an option of every subcommand
abbrev pub cause_rule : Rule
cause_rule = flag_rule (codes "verbose")

-- --NAME VALUE, any text; optional
abbrev pub text_rule : Text → Rule
text_rule name = record (new_rule name) { long = Some name; value_names = 1 }

-- --names FILE, the file with the names of objects
abbrev pub names_rule : Rule
names_rule = text_rule (codes "names")

-- the rule of an argument
abbrev pub argument_rule : Argument → Rule
argument_rule (argument.File name help) = file_rule name.now
argument_rule argument.Cache = cache_rule
argument_rule argument.Processes = processes_rule
argument_rule (argument.Number name value help) = number_rule name.now
argument_rule (argument.Numbers name value help) = numbers_rule name.now
argument_rule (argument.Flag name help) = flag_rule name.now
argument_rule argument.Names = names_rule

-- the name of a subcommand
abbrev pub subcommand_name : Subcommand → Text
subcommand_name sub.Build = codes "build"
subcommand_name sub.Run = codes "run"
subcommand_name sub.Shell = codes "shell"
subcommand_name sub.Check = codes "check"
subcommand_name sub.Explain = codes "explain"
subcommand_name sub.Info = codes "info"
subcommand_name sub.Reach = codes "reach"
subcommand_name sub.Upgrade = codes "upgrade"
subcommand_name sub.Copy = codes "copy"
subcommand_name sub.Describe = codes "describe"
subcommand_name sub.Draw = codes "draw"

-- the arguments and options of each subcommand, in order
abbrev pub rules_of : Subcommand → List Rule
rules_of sub.Build = file_rule (codes "DESCRIPTION") ∷ file_rule (codes "IMAGE") ∷ flag_rule (codes "new")
    ∷ cause_rule ∷ []
rules_of sub.Run = file_rule (codes "IMAGE") ∷ file_rule (codes "SCRIPT") ∷ cache_rule ∷ flag_rule (codes "trace")
    ∷ flag_rule (codes "strict") ∷ flag_rule (codes "save") ∷ number_rule (codes "stop-after") ∷ names_rule
    ∷ cause_rule ∷ []
rules_of sub.Shell = file_rule (codes "IMAGE") ∷ cache_rule ∷ names_rule ∷ cause_rule ∷ []
rules_of sub.Check = file_rule (codes "IMAGE") ∷ json_rule ∷ cause_rule ∷ []
rules_of sub.Explain = file_rule (codes "FILE") ∷ json_rule ∷ names_rule ∷ cause_rule ∷ []
rules_of sub.Info = file_rule (codes "IMAGE") ∷ json_rule ∷ cause_rule ∷ []
rules_of sub.Reach = file_rule (codes "IMAGE") ∷ processes_rule ∷ flag_rule (codes "reads") ∷ number_rule (codes "shows")
    ∷ number_rule (codes "to") ∷ numbers_rule (codes "trust") ∷ json_rule ∷ names_rule ∷ cause_rule ∷ []
rules_of sub.Upgrade = file_rule (codes "OLD") ∷ file_rule (codes "NEW") ∷ cause_rule ∷ []
rules_of sub.Copy = file_rule (codes "IMAGE") ∷ file_rule (codes "NEW") ∷ cause_rule ∷ []
rules_of sub.Describe = file_rule (codes "IMAGE") ∷ number_rule (codes "nodes") ∷ number_rule (codes "pages")
    ∷ number_rule (codes "log") ∷ names_rule ∷ cause_rule ∷ []
rules_of sub.Draw = file_rule (codes "IMAGE") ∷ number_rule (codes "from") ∷ flag_rule (codes "reads")
    ∷ number_rule (codes "to") ∷ names_rule ∷ cause_rule ∷ []

-- a command with these arguments added
abbrev pub with_rules : App → List Rule → App
with_rules app [] = app
with_rules app (r ∷ rs) = with_rules (with_rule app r) rs

-- a subcommand as a command of its own
abbrev pub subcommand_app : Subcommand → App
subcommand_app s = with_rules (new_app (subcommand_name s)) (rules_of s)

-- a command with these subcommands added
abbrev pub with_subcommands : App → List Subcommand → App
with_subcommands app [] = app
with_subcommands app (s ∷ rest) = with_subcommands (with_subcommand app (subcommand_app s).top) rest

-- all subcommands, in the order of the help
abbrev pub subcommands : List Subcommand
subcommands =
    sub.Build ∷ sub.Run ∷ sub.Shell ∷ sub.Check ∷ sub.Explain ∷ sub.Info ∷ sub.Reach ∷ sub.Upgrade
    ∷ sub.Copy ∷ sub.Describe ∷ sub.Draw ∷ []

-- the program without its subcommands: it has a version, and requires a subcommand
abbrev pub bare_app : App
bare_app = record {
  top = record ((new_app (codes "eros")).top) { subcommand_required = true; has_version = true };
  subs = [];
}

-- the program, which requires one of its subcommands
abbrev pub eros_app : App
eros_app = with_subcommands bare_app subcommands

-- clap's command c is this one, and no argument of it is global
abbrev pub IsCommand : App → Command → Type 0
IsCommand app c = (app_of c ≡ app) × ((out-Command c).has_globals ≡ false)
