use Rattle.std.proofs.Common.{ap, sym, ◌∙◌, length, map}
use Rattle.migrator.specs.Table.{is_held}
use Rattle.migrator.proofs.Tables.{blank_is, rewritten}
use Rattle.migrator.proofs.table.Table.clear.Goals as goal

pub invariant_of-self : goal.invariant_of-self
invariant_of-self c =
    let size = c.clear_places.auto.places ∙ ap length c.deref_mut.ensures.value in
    let all = rewritten c.self.inside.places.items size c.self.inside.places.ok.0 in
    blank_is (length c.deref_mut.result.now) (all ∙ c.clear_places.ensures.places)
    (c.clear_places.ensures.held ∙ sym (ap (map is_held) all))
