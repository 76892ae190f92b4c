-- How a question about what an image saves is answered.
use Rattle.queries.specs.Names.{Disk, Fault, Result, Written}
use Rattle.queries.specs.Drawing.{DrawsImage}
use Rattle.queries.specs.Images.{DescribesImage}
use Rattle.queries.specs.Info.{InspectsImage}
use Rattle.queries.specs.Naming.{DescribesNamed}
use Rattle.queries.specs.Reaching.{ReachesImage}
use Rattle.queries.specs.declared.answering.Query.{Query}
use Rattle.queries.specs.declared.answering.Query.TheVariants as query

-- as the command of its kind answers it
abbrev pub AnswersImage : {D : Type 0} → (D → Disk) → Query → D → D → Written → Written → Result (Unit {0}) Fault → Type 0
AnswersImage disk (query.Describe sizes) device back output output_left outcome =
    DescribesImage disk sizes device back output output_left outcome
AnswersImage disk (query.DescribeNamed sizes names) device back output output_left outcome =
    DescribesNamed disk sizes names.now device back output output_left outcome
AnswersImage disk (query.Draw focus) device back output output_left outcome =
    DrawsImage disk focus device back output output_left outcome
AnswersImage disk (query.Info format) device back output output_left outcome =
    InspectsImage format disk device back output output_left outcome
AnswersImage disk (query.Reach processes trusted question format) device back output output_left outcome =
    ReachesImage format disk processes.now trusted.now question device back output output_left outcome
