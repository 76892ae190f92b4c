use Rattle.migrator.proofs.Names.{None, rules, sym, subst, seen_by, stored_of, stored_on, held_slot, sum_of, freezing_puts}
use Rattle.std.proofs.Common.{◌≡◌, ◌≤◌}
use Rattle.migrator.proofs.Completing.{none_idle, without}
use Rattle.migrator.proofs.Putting.{freeze_kept, freeze_stored, frozen_books}
use Rattle.migrator.proofs.durable.Durable.freeze.Goals as goal

pub invariant_of-self : goal.invariant_of-self
invariant_of-self g c =
    let disk = g.D.Device.disk c.self.inside.device in
    let b = c.self.inside.books in
    let none : b.frozen_size ≡ None = search rules in
    let home : b.header.entries ≡ 0 = search rules in
    let enough = subst (λ t. sum_of held_slot (stored_of g.D.Device.disk t).working ≤ c.args.size) (sym c.self.view_is) c.requires.enough in
    let few = subst (λ t. c.args.size ≤ t.books.plan.geometry.log) (sym c.self.view_is) c.requires.few in
    rw c.freeze.ensures (record {
      kept = freeze_kept disk.sectors (seen_by disk.seen b) b c.args.size none c.self.invariant.kept home enough few;
      unwritten = without (frozen_books b c.args.size) (none_idle b b.unwritten c.self.invariant.unwritten none);
    })

pub returns-clause-frozen : goal.returns-clause-frozen
returns-clause-frozen g c =
    let disk = g.D.Device.disk c.self.inside.device in
    let b = c.self.inside.books in
    let none : b.frozen_size ≡ None = search rules in
    rw c.freeze.ensures (subst (λ t. stored_on disk (frozen_books b c.args.size) ≡ freezing_puts c.args.size (stored_of g.D.Device.disk t))
    c.self.view_is
    (freeze_stored disk.sectors (seen_by disk.seen b) b c.args.size none c.self.invariant.kept))
