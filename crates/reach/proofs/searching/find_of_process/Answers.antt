use Rattle.std.proofs.Common.{sym, ◌∙◌}
use Rattle.reach.proofs.Members.{slots_known}
use Rattle.reach.proofs.Ways.{finds_of_process}
use Rattle.reach.proofs.searching.find_of_process.Goals as goal

pub find_held-requires-clause-known : goal.find_held-requires-clause-known
find_held-requires-clause-known c = slots_known _ _ _ _ c.requires.sound
    (c.find.ensures.count ∙ c.add.ensures.count ∙ c.requires.count) (sym c.slots_of.ensures)

pub returns : goal.returns
returns c = finds_of_process _ _ _ _ _ _ _ _ _ _ c.requires.root (sym c.slots_of.ensures) c.add.ensures c.find.ensures c.find_held.ensures
