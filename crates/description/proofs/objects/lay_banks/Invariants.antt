use Rattle.description.specs.Laid.{OfBank}
use Rattle.description.proofs.LaidFrames.{IsLaying}
use Rattle.description.proofs.objects.lay_banks.Given as goal

abbrev pub invariant-loop-bank : goal.invariant-loop-bank
invariant-loop-bank l = IsLaying OfBank l.banks l.initial.world l.world l.bank-index
