use Rattle.image_describer.proofs.Names.{AreSound, List, Parts, ap, arith, rules, subst, sym, Object, objects_in, MayTell}
use Rattle.image_describer.proofs.ReadOnly.{looked_once, looked_twice, read_failed, read_short, looked_well, looked_on}
use Rattle.image_describer.proofs.Telling.{TellBelow, role_past, tell_all, tell_next, tell_none}
use Rattle.image_describer.proofs.describing.tell_all.Goals as goal

pub loop-number-init : goal.loop-number-init
loop-number-init g c =
    let os = objects_in (g.F.Frames.parts c.args.store.now) in
    record {
      entry_of = subst (TellBelow g.E.DescribedEntry.number_of (g.E.DescribedEntry.Tells os) g.E.DescribedEntry.kind os 0)
          (sym c.requires.none)
          (tell_none g.E.DescribedEntry.number_of (g.E.DescribedEntry.Tells os) g.E.DescribedEntry.kind os);
      looked = search rules;
    }

pub loop-number-preserved : goal.loop-number-preserved
loop-number-preserved g c =
    let p = g.F.Frames.parts c.args.store.now in
    let os = objects_in p in
    let same = ap (λ (q : Parts). objects_in q) c.loop-number.invariant.looked.same in
    record {
      entry_of = tell_next g.E.DescribedEntry.number_of (g.E.DescribedEntry.Tells os) g.E.DescribedEntry.kind os c.loop-number.number
          c.loop-number.entries.items c.add.new.entries.items c.in_ok-entry.entry c.loop-number.invariant.entry_of
          (subst (λ (us : List Object). MayTell g.E.DescribedEntry.number_of (g.E.DescribedEntry.Tells us) g.E.DescribedEntry.kind us
          c.loop-number.number
          c.in_ok-entry.entry) same c.in_ok-entry.ensures.entry_of)
          c.in_ok-add.ensures;
      looked = looked_twice g.met.F.Frames.continues_twice c.loop-number.invariant.looked (looked_once c.in_ok-entry.ensures.only_reads);
    }

pub returns-clause-entry_of : goal.returns-clause-entry_of
returns-clause-entry_of g c =
    let p = g.F.Frames.parts c.args.store.now in
    tell_all g.E.DescribedEntry.number_of (g.E.DescribedEntry.Tells (objects_in p)) g.E.DescribedEntry.kind (objects_in p)
    c.loop-number.number
    c.loop-number.entries.items c.loop-number.invariant.entry_of g.met.E.DescribedEntry.is_kept
    (role_past p c.table.result.now c.loop-number.number c.table.ensures (omega
    (arith, c.count-number-end.ensures, c.loop-number-test.false)))

pub entry_of-requires-clause-sound : goal.entry_of-requires-clause-sound
entry_of-requires-clause-sound g c = subst AreSound (sym c.loop-number.invariant.looked.same) c.requires.sound

pub returns-in_err-entry-clause-only_reads : goal.returns-in_err-entry-clause-only_reads
returns-in_err-entry-clause-only_reads g c =
    read_failed c.from_residual.result c.from_residual.ensures.1
    (looked_on g.met.F.Frames.continues_twice c.loop-number.invariant.looked c.in_err-entry.ensures.only_reads)

pub returns-in_err-add-clause-only_reads : goal.returns-in_err-add-clause-only_reads
returns-in_err-add-clause-only_reads g c =
    read_short c.from_residual-in_err-add.result
    (looked_twice g.met.F.Frames.continues_twice c.loop-number.invariant.looked (looked_once c.in_ok-entry.ensures.only_reads))
    c.from_residual-in_err-add.ensures.1

pub returns-clause-only_reads : goal.returns-clause-only_reads
returns-clause-only_reads g c = looked_well c.loop-number.invariant.looked
