use Rattle.description.specs.Laid.{OfPage}
use Rattle.description.proofs.LaidFrames.{IsLaying}
use Rattle.description.proofs.objects.lay_pages.Given as goal

abbrev pub invariant-loop-page : goal.invariant-loop-page
invariant-loop-page l = IsLaying OfPage l.pages l.initial.world l.world l.page-index
