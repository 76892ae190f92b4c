use Rattle.image_builder.proofs.Names.{subst, sym, IsErrOf, DurableState, saved_by, IsOnlyRead, IsOpenedFrom}
use Rattle.layout.specs.declared.open_fault.OpenFault.TheVariants as opening
use Rattle.image_builder.specs.declared.upgrade_fault.UpgradeFault.TheVariants as fault
use Rattle.image_builder.proofs.Upgrades.{counted, left_upgrading, not_upgraded, read_where_opened}
use Rattle.image_builder.proofs.upgrading.OldImage.write_to.Goals as goal

pub returns-clause-upgraded : goal.returns-clause-upgraded
returns-clause-upgraded g c = λ old opened.
    let disk = g.D.Device.disk in
    let o = subst (λ (s : DurableState g.row.D.Denot). IsOpenedFrom disk old s) (sym c.self.view_is) opened in
    counted c.args.layout c.write_store-written.result.0 (disk old) (g.E.Device.disk c.args.new.now)
    (g.E.Device.disk c.write_store-written.new.new)
    (saved_by disk (g.S.WholeStore.durable c.self.inside.store))
    o.saves c.self.invariant.sound c.write_store-written.ensures.writes.total c.write_store-written.ensures.writes.encodes
    c.write_store-written.ensures.writes.crash c.write_store-written.ensures.writes.zeros
    c.write_store-written.ensures.writes.elsewhere

pub returns-clause-refused : goal.returns-clause-refused
returns-clause-refused g c = λ old opened.
    let disk = g.D.Device.disk in
    let o = subst (λ (s : DurableState g.row.D.Denot). IsOpenedFrom disk old s) (sym c.self.view_is) opened in
    not_upgraded c.args.layout c.write_store-written.result.0 disk old (g.E.Device.disk c.args.new.now).sectors
    (saved_by disk (g.S.WholeStore.durable c.self.inside.store))
    o.saves c.self.invariant.sound c.write_store-written.ensures.writes.small c.write_store-written.ensures.writes.opened

pub returns-clause-any_moment : goal.returns-clause-any_moment
returns-clause-any_moment g c = λ old opened.
    let disk = g.D.Device.disk in
    let o = subst (λ (s : DurableState g.row.D.Denot). IsOpenedFrom disk old s) (sym c.self.view_is) opened in
    left_upgrading (disk old)
    (saved_by disk (g.S.WholeStore.durable c.self.inside.store)) {before = g.E.Device.disk c.args.new.now}
    {new = g.E.Device.disk c.write_store-written.new.new}
    o.saves c.write_store-written.ensures.writes.any_moment

pub returns-clause-reads : goal.returns-clause-reads
returns-clause-reads g c = λ old opened.
    let disk = g.D.Device.disk in
    let o = subst (λ (s : DurableState g.row.D.Denot). IsOpenedFrom disk old s) (sym c.self.view_is) opened in (
      c.write_store-written.result.1,
      c.close.ensures,
      subst (λ (d : g.row.D.Denot). IsOnlyRead (disk old) (disk d) (IsErrOf c.write_store-written.result.0 (fault.Old opening.Failed)))
          (sym c.write_store-written.ensures.device)
          (read_where_opened c.write_store-written.result.0 (disk old) (disk (g.S.WholeStore.durable c.self.inside.store).beneath)
          c.write_store-written.ensures.writes.opened o.only_reads o.failures),
    )
