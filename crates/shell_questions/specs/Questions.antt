-- A question about what is saved, typed at a shell, and its answer.
use Rattle.std.specs.Prelude.{◌≡◌, ◌⊎◌, ◌∷◌, ℕ, Bool, true, false, List, [], Option, Some, None, Result, Ok, Err, codes, is_some}
use Rattle.std.specs.List.{All}
use Rattle.std.specs.Str.{IsUtf8}
use Rattle.clap.specs.Words.{subcommand_of}
use Rattle.command_line.specs.Commands.{eros_app}
use Rattle.command_line.specs.Jobs.{NamesLine}
use Rattle.command_line.specs.Refusals.{IsRefused}
use Rattle.command_line.specs.declared.fault.JobFault.{JobFault}
use Rattle.command_line.specs.declared.fault.JobFault.TheVariants as job_fault
use Rattle.command_line.specs.declared.requested.CommandLine.{CommandLine}
use Rattle.command_line.specs.declared.requested.Job.{Job}
use Rattle.command_line.specs.declared.requested.Job.TheVariants as job
use Rattle.command_line.specs.declared.requested.Reach.{Reach}
use Rattle.command_line.specs.declared.requested.Sizes.{Sizes as AskedSizes}
use Rattle.device.specs.Disk.{Disk}
use Rattle.jobs.specs.Faults.{IsReported, fault_in}
use Rattle.jobs.specs.declared.fault.Fault.{Fault}
use Rattle.jobs.specs.declared.fault.Fault.TheVariants as fault
use Rattle.json_lines.specs.declared.format.Format.{Format}
use Rattle.json_lines.specs.declared.format.Format.TheVariants as format
use Rattle.model.specs.Text.{line_of}
use Rattle.queries.specs.Queries.{AnswersImage}
use Rattle.queries.specs.declared.answering.Query.{Query}
use Rattle.queries.specs.declared.answering.Query.TheVariants as query
use Rattle.queries.specs.declared.reaching.ReachQuestion.{ReachQuestion}
use Rattle.queries.specs.declared.reaching.ReachQuestion.TheVariants as question
use Rattle.reach.specs.declared.authority.Purpose.{Purpose}
use Rattle.reach.specs.declared.authority.Purpose.TheVariants as purpose
use Rattle.script.specs.Reading.{words_of}
use Rattle.script.specs.Writing.{Writes, Written}
use Rattle.script.specs.declared.fault.RunFault.{RunFault}
use Rattle.script.specs.declared.fault.RunFault.TheVariants as run_fault

-- the words of a command line: the program's name, the first word of a line, what stands for the image, and the others
abbrev pub command_words : List (List ℕ) → List (List ℕ)
command_words [] = codes "eros" ∷ []
command_words (w ∷ ws) = codes "eros" ∷ w ∷ codes " " ∷ ws

-- ---- the question that a job asks

abbrev pub format_of : Bool → Format
format_of true = format.Json
format_of false = format.Text

abbrev pub purpose_of : Bool → Purpose
purpose_of true = purpose.Read
purpose_of false = purpose.Change

-- who can change, or read, the object of `--to`; or a chain to that of `--shows`; or all that is reached
abbrev pub question_of : Purpose → Option ℕ → Option ℕ → ReachQuestion
question_of p (Some o) shows = question.Changers p o
question_of p None (Some o) = question.Chain p o
question_of p None None = question.Set p

-- a query is that of a command with these options
abbrev pub IsDescribing : AskedSizes → Query → Type 0
IsDescribing sizes (query.Describe s) = (s.nodes ≡ sizes.nodes) × (s.pages ≡ sizes.pages) × (s.log ≡ sizes.log)
IsDescribing sizes q = ⊥

abbrev pub IsDrawing : Option ℕ → Bool → Option ℕ → Query → Type 0
IsDrawing from reads to (query.Draw f) = (f.from ≡ from) × (f.purpose ≡ purpose_of reads) × (f.to ≡ to)
IsDrawing from reads to q = ⊥

abbrev pub IsTelling : Bool → Query → Type 0
IsTelling json (query.Info f) = f ≡ format_of json
IsTelling json q = ⊥

abbrev pub IsReaching : Reach → Query → Type 0
IsReaching r (query.Reach processes trusted q f) = (processes.now ≡ r.processes.items) × (trusted.now ≡ r.trusted.items)
    × (q ≡ question_of (purpose_of r.reads) r.to r.shows) × (f ≡ format_of r.json)
IsReaching r q = ⊥

-- a job asks this question about an image
abbrev pub IsQueryOf : Job → Query → Type 0
IsQueryOf (job.Describe image sizes) q = IsDescribing sizes q
IsQueryOf (job.Draw image from reads to) q = IsDrawing from reads to q
IsQueryOf (job.Info image json) q = IsTelling json q
IsQueryOf (job.Reach r) q = IsReaching r q
IsQueryOf j q = ⊥

-- it asks none
abbrev pub IsNoQuestion : Job → Type 0
IsNoQuestion (job.Describe image sizes) = ⊥
IsNoQuestion (job.Draw image from reads to) = ⊥
IsNoQuestion (job.Info image json) = ⊥
IsNoQuestion (job.Reach r) = ⊥
IsNoQuestion j = Unit {0}

-- ---- the answer

-- the result of a command with this fault, or none: a write error if it couldn't write its output, else success
abbrev pub end_of : Option Fault → Result (Unit {0}) RunFault
end_of (Some fault.CannotWriteOutput) = Err run_fault.Write
end_of other = Ok tt

abbrev pub hint : List ℕ
hint = line_of (codes "Type help and the first word for the words that may follow.")

-- a line was answered as bad, and where its words are explained was said
abbrev pub Refuses : Written → Written → Written → Written → Result (Unit {0}) RunFault → Type 0
Refuses output output_left errors errors_left r = Writes output output_left r (line_of (codes "bad line"))
    × (said : Result (Unit {0}) RunFault) × Writes errors errors_left said hint

-- that memory ran out was said
abbrev pub RunsOut : Written → Written → Result (Unit {0}) RunFault → Type 0
RunsOut errors errors_left r = (r ≡ Ok tt) × IsReported (Err fault.NoMemory) errors errors_left

-- so it was for words that name no job
abbrev pub RefusesFor : JobFault → Written → Written → Written → Written → Result (Unit {0}) RunFault → Type 0
RefusesFor (job_fault.BadWords e) output output_left errors errors_left r = Refuses output output_left errors errors_left r
RefusesFor job_fault.NoMemory output output_left errors errors_left r =
    RunsOut errors errors_left r × (output_left ≡ output)

module _ {D : Type 0} (disk : D → Disk) where
  -- a question was answered as the command of its kind does, and its fault reported
  abbrev pub AnswersQuery : Query → D → Written → Written → Written → Written → Result (Unit {0}) RunFault → Type 0
  AnswersQuery q device output output_left errors errors_left r = (back : D) × (outcome : Result (Unit {0}) Fault)
      × AnswersImage disk q device back output output_left outcome × IsReported outcome errors errors_left
      × (r ≡ end_of (fault_in outcome))

  -- the question of a job was answered; or it asks none, and was refused
  abbrev pub AnswersJob : Job → D → Written → Written → Written → Written → Result (Unit {0}) RunFault → Type 0
  AnswersJob j device output output_left errors errors_left r =
      ((q : Query) × IsQueryOf j q × AnswersQuery q device output output_left errors errors_left r)
      ⊎ (IsNoQuestion j × Refuses output output_left errors errors_left r)

  -- so it was, unless a file of names is given
  abbrev pub AnswersNamed : Bool → Job → D → Written → Written → Written → Written →
      Result (Unit {0}) RunFault → Type 0
  AnswersNamed false j device output output_left errors errors_left r =
      AnswersJob j device output output_left errors errors_left r
  AnswersNamed true j device output output_left errors errors_left r =
      Refuses output output_left errors errors_left r

  -- so was that of the job that words name; or they name none, and were refused
  abbrev pub AnswersWords : List (List ℕ) → D → Written → Written → Written → Written → Result (Unit {0}) RunFault →
      Type 0
  AnswersWords words device output output_left errors errors_left r =
      ((c : CommandLine) × NamesLine (subcommand_of eros_app words) c
      × AnswersNamed (is_some c.names) c.job device output output_left errors errors_left r)
      ⊎ ((why : JobFault) × IsRefused words why × RefusesFor why output output_left errors errors_left r)

  -- so were the words of a line; or one of them isn't text; or memory ran out
  abbrev pub AnswersLine : List ℕ → D → Written → Written → Written → Written → Result (Unit {0}) RunFault → Type 0
  AnswersLine line device output output_left errors errors_left r =
      AnswersWords (command_words (words_of line)) device output output_left errors errors_left r
      ⊎ ((All IsUtf8 (words_of line) → ⊥) × Refuses output output_left errors errors_left r)
      ⊎ (RunsOut errors errors_left r × (output_left ≡ output))
