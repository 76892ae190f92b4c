use Rattle.description.specs.Laid.{slot_held, slots_of}
use Rattle.description.proofs.Lists.{each_done}
use Rattle.description.proofs.objects.slots_of.Goals as goal

pub returns : goal.returns
unfolding slots_of
returns c = each_done (λ s. s.index) slot_held c.args.entries.now c.loop-entry.slots _ c.loop-entry.entry-index c.loop-entry-test.false
    c.loop-entry.invariant
