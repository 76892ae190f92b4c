-- The job that a subcommand and its arguments name.
use Rattle.std.specs.Prelude.{◌≡◌, ◌≢◌, ◌⊎◌, ℕ, ⊤, List, Option, Some, None, codes, option_map, true}
use Rattle.std.specs.Borrow.{Bor}
use Rattle.clap.specs.Words.{Row, Text, first_of}
use Rattle.command_line.specs.Arguments.{AreNumbersIfAny, IsFlag, IsGiven, IsNumberOption, IsOption, has_all}
use Rattle.command_line.specs.declared.requested.CommandLine.{CommandLine}
use Rattle.command_line.specs.declared.requested.Job.{Job}
use Rattle.command_line.specs.declared.requested.Job.TheVariants as job
use Rattle.command_line.specs.declared.requested.Script.{Script}
use Rattle.command_line.specs.declared.requested.Script.TheVariants as script
use Rattle.command_line.specs.declared.requested.Sizes.{Sizes}

-- a hyphen is standard input, and any other word a file
abbrev pub IsScript : Text → Script → Type 0
IsScript word script.Input = word ≡ codes "-"
IsScript word (script.File name) = (name.now ≡ word) × (word ≢ codes "-")

-- the capacity that `--cache` gives, or `None` if it is missing
abbrev pub IsCache : List Row → Option ℕ → Type 0
IsCache rows cache = IsOption rows (codes "cache") 8 8192 cache

-- the sizes that the options give, or `None` for those that are missing
abbrev pub AreSizes : List Row → Sizes → Type 0
AreSizes rows sizes = IsNumberOption rows (codes "nodes") sizes.nodes
    × IsNumberOption rows (codes "pages") sizes.pages × IsNumberOption rows (codes "log") sizes.log

-- the subcommand of this name, with these arguments, is this job
abbrev pub IsJob : Text → List Row → Job → Type 0
IsJob name rows (job.Build description image is_new) = (name ≡ codes "build") × IsFlag rows (codes "new") is_new
    × IsGiven rows (codes "DESCRIPTION") description.now × IsGiven rows (codes "IMAGE") image.now
IsJob name rows (job.Run run) = (name ≡ codes "run") × IsCache rows run.cache
    × IsFlag rows (codes "trace") run.trace × IsFlag rows (codes "strict") run.strict
    × IsFlag rows (codes "save") run.saves
    × IsNumberOption rows (codes "stop-after") run.stop_after
    × IsGiven rows (codes "IMAGE") run.image.now
    × (word : Text) × IsGiven rows (codes "SCRIPT") word × IsScript word run.script
IsJob name rows (job.Shell image cache) = (name ≡ codes "shell") × IsCache rows cache × IsGiven rows (codes "IMAGE")
    image.now
IsJob name rows (job.Check image json) = (name ≡ codes "check") × IsGiven rows (codes "IMAGE") image.now
    × IsFlag rows (codes "json") json
IsJob name rows (job.Explain file json) = (name ≡ codes "explain") × IsGiven rows (codes "FILE") file.now
    × IsFlag rows (codes "json") json
IsJob name rows (job.Info image json) = (name ≡ codes "info") × IsGiven rows (codes "IMAGE") image.now
    × IsFlag rows (codes "json") json
IsJob name rows (job.Reach reach) = (name ≡ codes "reach") × IsGiven rows (codes "IMAGE") reach.image.now
    × AreNumbersIfAny rows (codes "P") reach.processes.items × IsFlag rows (codes "reads") reach.reads
    × IsNumberOption rows (codes "shows") reach.shows
    × IsNumberOption rows (codes "to") reach.to × AreNumbersIfAny rows (codes "trust") reach.trusted.items
    × IsFlag rows (codes "json") reach.json
IsJob name rows (job.Upgrade old new) = (name ≡ codes "upgrade")
    × IsGiven rows (codes "OLD") old.now × IsGiven rows (codes "NEW") new.now × (old.now ≢ new.now)
IsJob name rows (job.Copy image new) = (name ≡ codes "copy")
    × IsGiven rows (codes "IMAGE") image.now × IsGiven rows (codes "NEW") new.now × (image.now ≢ new.now)
IsJob name rows (job.Describe image sizes) = (name ≡ codes "describe") × IsGiven rows (codes "IMAGE") image.now ×
    AreSizes rows sizes
IsJob name rows (job.Draw image from reads to) = (name ≡ codes "draw") × IsGiven rows (codes "IMAGE") image.now
    × IsNumberOption rows (codes "from") from × IsFlag rows (codes "reads") reads
    × IsNumberOption rows (codes "to") to

-- the file that `--names` gives, or `None` if it is missing
abbrev pub IsNames : List Row → Option (Bor Text) → Type 0
IsNames rows names = first_of (codes "names") rows ≡ option_map (λ file. file.now) names

-- the subcommand of this name, with these arguments, is this line: the job, whether causes are written, and the file
-- with names
abbrev pub IsLine : Text → List Row → CommandLine → Type 0
IsLine name rows line = IsJob name rows line.job × IsFlag rows (codes "verbose") line.is_verbose × IsNames rows line.names

-- the parsed subcommand is this line
abbrev pub NamesLine : Option (Text × List Row) → CommandLine → Type 0
NamesLine None line = ⊥
NamesLine (Some met) line = IsLine met.0 met.1 line

-- the subcommand is `command`, and its image and the new file are the same word
abbrev pub IsSameOf : Text → Text → Text → List Row → Type 0
IsSameOf command image name rows = (name ≡ command) × (word : Text) × IsGiven rows image word × IsGiven rows
    (codes "NEW") word

-- the subcommand is an upgrade or a copy of a file to itself
abbrev pub IsSameTwice : Text → List Row → Type 0
IsSameTwice name rows = IsSameOf (codes "upgrade") (codes "OLD") name rows ⊎ IsSameOf (codes "copy") (codes "IMAGE")
    name rows

-- the subcommand lacks an argument, is `help`, or is an upgrade or a copy of a file to itself
abbrev pub IsNoJob : Text → List Row → Type 0
IsNoJob name rows = has_all name rows ≡ true → (name ≡ codes "help") ⊎ IsSameTwice name rows

-- if a subcommand was parsed, it is no job
abbrev pub NamesNone : Option (Text × List Row) → Type 0
NamesNone None = ⊤
NamesNone (Some met) = IsNoJob met.0 met.1
