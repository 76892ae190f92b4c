use Rattle.space_bank.proofs.Names.{ap, arith, length, subst, Geometry, Parts, keepable_count, AreCounted, objects_in}
use Rattle.std.proofs.Common.{◌∙◌}
use Rattle.capability.proofs.SnapshotLaws.{read_well}
use Rattle.space_bank.proofs.Missing.{both_kept}
use Rattle.space_bank.proofs.banks.Banks.count.Goals as goal

pub read_numbers-requires-clause-known : goal.read_numbers-requires-clause-known
read_numbers-requires-clause-known g c =
    let p = g.F.Frames.parts c.args.store.now in
    let sound = c.requires.sound in
    omega (arith, keepable_count p.geometry sound.0 p sound.1.keepable, ap (λ (h : Geometry). h.nodes) c.geometry-nodes.ensures.geometry)

pub read_numbers-requires-2-clause-known : goal.read_numbers-requires-2-clause-known
read_numbers-requires-2-clause-known g c =
    let p = g.F.Frames.parts c.args.store.now in
    let sound = c.requires.sound in
    omega (
      arith,
      keepable_count p.geometry sound.0 p sound.1.keepable,
      ap (λ (h : Geometry). h.nodes) c.geometry-nodes.ensures.geometry,
      ap (λ (q : Parts). length q.headers) c.in_ok-limits.ensures.only_reads.same,
    )

pub with_numbers-requires-clause-kept : goal.with_numbers-requires-clause-kept
with_numbers-requires-clause-kept g c =
    let first = c.in_ok-limits.ensures.only_reads.same in
    let second = c.in_ok-annexes.ensures.only_reads.same in
    both_kept first second (ap (λ (h : Geometry). h.nodes) c.geometry-nodes.ensures.geometry) c.in_ok-limits.ensures.kept
    c.in_ok-annexes.ensures.kept

pub returns-clause-only_reads : goal.returns-clause-only_reads
returns-clause-only_reads g c =
    let first = c.in_ok-limits.ensures.only_reads in
    let second = c.in_ok-annexes.ensures.only_reads in
    read_well (second.same ∙ first.same) (g.met.F.Frames.continues_twice c.args.store.now c.read_numbers.new.store
    c.read_numbers-2.new.store
    first.snapshots.continues second.snapshots.continues)

pub returns-clause-counted : goal.returns-clause-counted
returns-clause-counted g c =
    subst (λ (p : Parts). AreCounted p.geometry (objects_in p) c.in_ok-with_numbers.field-0)
    (c.in_ok-annexes.ensures.only_reads.same ∙ c.in_ok-limits.ensures.only_reads.same) c.in_ok-with_numbers.ensures
