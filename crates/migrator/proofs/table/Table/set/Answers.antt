use Rattle.migrator.proofs.Names.{arith, rules, length, has_slot, has_frame}
use Rattle.std.proofs.Common.{◌<◌, ◌^◌, ◌∙◌}
use Rattle.migrator.proofs.Tables.{taken_few, whole_taken, count_set, count_at, table_is, held_set}
use Rattle.migrator.proofs.table.Table.set.Goals as goal

pub overflow_add-self : goal.overflow_add-self
overflow_add-self c =
    let few = taken_few c.self.inside.places.items in
    let small : length c.self.inside.places.items < 2 ^ 63 = search rules in
    omega (arith, few, small, c.self.invariant.2, c.slots.ensures.few)

pub overflow_add-self-2 : goal.overflow_add-self-2
overflow_add-self-2 c =
    let few = taken_few c.self.inside.places.items in
    let less = whole_taken c.self.inside.places.items in
    let small : length c.self.inside.places.items < 2 ^ 63 = search rules in
    omega (arith, few, less, small, c.self.invariant.3, c.frames.ensures.few)

pub overflow_sub-self-2 : goal.overflow_sub-self-2
overflow_sub-self-2 c =
    let one = count_at has_frame c.self.view_is c.requires.known c.place-old.ensures c.self.invariant.3 c.frames-2.ensures.count in
    omega (arith, one)

pub overflow_sub-self : goal.overflow_sub-self
overflow_sub-self c =
    let one = count_at has_slot c.self.view_is c.requires.known c.place-old.ensures c.self.invariant.2 c.slots-2.ensures.count in
    omega (arith, one)

pub invariant_of-self : goal.invariant_of-self
invariant_of-self c = (
  table_is c.args.place c.self.view_is c.requires.known c.requires.slot c.self.invariant.0,
  c.set.ensures ∙ held_set c.self.inside.places.items c.args.number c.args.place c.self.invariant.1 c.requires.slot,
  count_set has_slot c.self.view_is c.requires.known c.place-old.ensures c.self.invariant.2 c.slots.ensures.count c.slots-2.ensures.count,
  count_set has_frame c.self.view_is c.requires.known c.place-old.ensures c.self.invariant.3 c.frames.ensures.count
      c.frames-2.ensures.count,
)
