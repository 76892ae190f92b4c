use Rattle.image_builder.proofs.Names.{subst, sym, List, drop, Entry, numbered}
use Rattle.std.proofs.Common.{◌≡◌, ◌++◌, ◌+◌}
use Rattle.image_builder.proofs.Numbered.{numbered_more}
use Rattle.image_builder.proofs.upgrading.in_order.Goals as goal

pub loop-slot-preserved : goal.loop-slot-preserved
loop-slot-preserved c =
    subst (λ (xs : List Entry). xs ++ numbered (c.loop-slot.slot + 1) (drop (c.loop-slot.slot + 1) c.args.entries.now)
    ≡ numbered 0 c.args.entries.now)
    (sym c.in_ok-push.ensures.items)
    (numbered_more c.args.entries.now c.loop-slot.found.items c.loop-slot.slot c.loop-slot-test.true c.loop-slot.invariant)
