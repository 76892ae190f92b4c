use Rattle.devices.proofs.Names.{arith, zeros_are}
use Rattle.std.proofs.Common.{◌*◌, ◌∙◌}
use Rattle.devices.proofs.memory.Memory.new.Goals as goal

pub returns-clause-zeros : goal.returns-clause-zeros
returns-clause-zeros c i lt =
    let zeros = c.in_ok-new.ensures.first ∙ c.in_ok-first.ensures.items_if_clones_equal (λ y e. e) in
    rw (c.in_ok-new.ensures.entries, c.in_ok-entries.ensures.items)
    (zeros_are c.in_ok-new.field-0.first.items (c.args.sectors * 512) c.args.sectors i zeros (omega arith) lt)
