use Rattle.space_bank.proofs.Names.{Geometry, List, length, ap, subst, sym, arith, vec_capacity, ObjectHeader, object_count, content_at, frames_of, objects_in}
use Rattle.space_bank.proofs.Names.{keepable_count, keepable_roles, BanksState, bank_number, root_number}
use Rattle.std.proofs.Common.{◌≤◌, ◌<◌, ◌+◌}
use Rattle.space_bank.proofs.Missing.{counted_from, numbers_fit}
use Rattle.space_bank.proofs.banks.Banks.with_numbers.Goals as goal

pub free_numbers-requires-2-clause-fits : goal.free_numbers-requires-2-clause-fits
free_numbers-requires-2-clause-fits g c =
    let p = g.F.Frames.parts c.args.store.now in
    numbers_fit p c.table.result.now c.geometry-geometry.result c.count.result c.table.ensures c.count.ensures c.count.type_inv
    c.geometry-geometry.ensures.geometry (keepable_count p.geometry c.requires.sound.0 p c.requires.sound.1.keepable)

pub count_usages-requires-clause-roles : goal.count_usages-requires-clause-roles
count_usages-requires-clause-roles g c =
    let p = g.F.Frames.parts c.args.store.now in keepable_roles p.geometry c.requires.sound.0 (frames_of p) c.requires.sound.1.keepable

pub returns : goal.returns
returns g c =
    let p = g.F.Frames.parts c.args.store.now in
    let os = objects_in p in
    let sound = c.requires.sound in
    let count = keepable_count p.geometry sound.0 p sound.1.keepable in
    let listed = c.in_ok-with_capacity.field-0 in
    let room : object_count p.geometry + 2 ≤ vec_capacity listed =
    omega (
      arith,
      count,
      c.saturating_add-room.ensures,
      c.count.ensures,
      ap (λ (hs : List ObjectHeader). length hs) c.table.ensures,
      c.in_ok-with_capacity.ensures.capacity,
      listed.small,
    ) in
    let made : BanksState = record {
      free_nodes = c.in_ok-free_numbers.field-0;
      free_pages = c.in_ok-free_numbers-2.field-0;
      usages = c.in_ok-count_usages.field-0.items;
      limits = c.args.limits.items;
      annexes = c.args.annexes.items;
      listed = listed.items;
      room = vec_capacity listed;
    } in
    counted_from p.geometry os made (λ b bank. bank_number p.geometry b (content_at os b) (sound.1.sound.kinds b) bank)
    (λ q root. root_number p.geometry q (content_at os q) (sound.1.sound.kinds q) root)
    c.geometry-geometry.result c.geometry-geometry.ensures.geometry c.in_ok-free_numbers.ensures c.in_ok-free_numbers-2.ensures
    c.in_ok-count_usages.ensures.size c.in_ok-count_usages.ensures.counted
    c.requires.kept room

pub free_numbers-requires-2-clause-roles : goal.free_numbers-requires-2-clause-roles
free_numbers-requires-2-clause-roles g c =
    let p = g.F.Frames.parts c.args.store.now in keepable_roles p.geometry c.requires.sound.0 (frames_of p) c.requires.sound.1.keepable

pub free_numbers-requires-clause-roles : goal.free_numbers-requires-clause-roles
free_numbers-requires-clause-roles g c =
    let p = g.F.Frames.parts c.args.store.now in keepable_roles p.geometry c.requires.sound.0 (frames_of p) c.requires.sound.1.keepable

pub count_usages-requires-clause-each : goal.count_usages-requires-clause-each
count_usages-requires-clause-each g c = λ b bank.
    let p = g.F.Frames.parts c.args.store.now in
    subst (λ (h : Geometry). b < h.nodes) (sym c.geometry-geometry.ensures.geometry)
    (bank_number p.geometry b (content_at (objects_in p) b) (c.requires.sound.1.sound.kinds b) bank)
