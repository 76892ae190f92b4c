use Rattle.image_describer.proofs.Names.{sym, get_or_from_slice_get, slice_get-get_or}
use Rattle.std.proofs.Common.{◌∙◌}
use Rattle.image_describer.proofs.Naming.{names_all, names_next}
use Rattle.image_describer.proofs.entries.entries_of.Goals as goal

pub loop-i-preserved : goal.loop-i-preserved
loop-i-preserved g c =
    let xs = c.args.items.now in
    let i = c.loop-i.i in
    names_next g.E.SparseEntry.index _ _ xs i c.loop-i.entries.items c.add.new.entries.items c.of_item.result _ c.loop-i.invariant
    c.loop-i-test.true
    (c.index-items-i.is ∙ sym (get_or_from_slice_get xs i _ g.E.SparseEntry.default
    (slice_get-get_or xs i c.index-items-i.result c.loop-i-test.true)))
    c.of_item.ensures c.in_ok-add.ensures

pub returns : goal.returns
returns g c = names_all g.E.SparseEntry.index _ _ c.args.items.now c.loop-i.i c.loop-i.entries.items c.loop-i-test.false c.loop-i.invariant
