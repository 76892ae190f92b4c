use Rattle.devices.proofs.Names.{ap, length, arith, length-append, entries_of}
use Rattle.std.proofs.Common.{◌∙◌}
use Rattle.devices.proofs.Entries.{length-entries_of, entries_more}
use Rattle.devices.proofs.Stored.{part_is}
use Rattle.devices.proofs.record.note_writes.Goals as goal

pub note-requires : goal.note-requires
note-requires c =
    omega (
      arith,
      c.loop-i.entries.ok.0,
      c.args.entries.now.ok.0,
      ap length c.loop-i.invariant.items,
      length-append c.args.entries.now.items (entries_of c.args.at c.loop-i.i c.args.from.now),
      length-entries_of c.args.at c.loop-i.i c.args.from.now,
      c.requires.room,
      c.loop-i.invariant.capacity,
    )

pub loop-i-preserved : goal.loop-i-preserved
loop-i-preserved c = record {
  items = entries_more _ _ _ c.args.at c.loop-i.i c.args.from.now _ c.loop-i.invariant.items c.note.ensures.items
      (c.copy_from_slice.ensures.after ∙ part_is c.args.from.now c.loop-i.i _ _ (omega arith) (omega arith));
  capacity = omega arith;
}
