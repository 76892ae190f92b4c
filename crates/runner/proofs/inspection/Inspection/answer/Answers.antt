use Rattle.std.proofs.Common.{sym}
use Rattle.runner.proofs.inspection.Inspection.answer.Goals as goal

pub returns-clause-answers : goal.returns-clause-answers
returns-clause-answers g c =
    rw (c.set_kinds-2.ensures.written, sym c.set_kinds.ensures.written) c.inspect-answered.ensures.inspects
