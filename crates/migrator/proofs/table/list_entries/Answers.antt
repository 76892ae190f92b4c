use Rattle.migrator.proofs.Names.{ap, arith, drop, length, rules, entries_from}
use Rattle.std.proofs.Common.{◌≡◌, ◌<◌, ◌∙◌}
use Rattle.migrator.proofs.Tables.{entries_done, entries_left}
use Rattle.migrator.proofs.table.list_entries.Goals as goal

pub unreachable-requires : goal.unreachable-requires
unreachable-requires c =
    let l = c.loop in
    let lt : l.counter < c.args.taken = search rules in
    let left = entries_left c.args.places.now l.into.items (entries_from l.from (drop l.from c.args.places.now)) l.invariant.entries in
    let none = ap length (c.next_entry.ensures.none c.in-None.is) in
    omega (arith, left, none, lt, l.invariant.count, c.requires.taken)

pub returns-clause-entries : goal.returns-clause-entries
returns-clause-entries c =
    let l = c.loop in
    let done : l.counter ≡ c.args.taken = search rules in
    entries_done c.args.places.now (entries_from l.from (drop l.from c.args.places.now)) l.invariant.entries
    (l.invariant.count ∙ done ∙ c.requires.taken)
