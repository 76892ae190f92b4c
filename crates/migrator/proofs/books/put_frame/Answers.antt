use Rattle.migrator.proofs.Names.{ap, ℕ, List, slice_set, Place, Torn, Whole}
use Rattle.std.proofs.Common.{◌∙◌}
use Rattle.migrator.proofs.Publishing.{on_err}
use Rattle.migrator.proofs.Putting.{set_twice}
use Rattle.migrator.proofs.books.put_frame.Goals as goal

pub returns-in_err-write_slot-clause-torn : goal.returns-in_err-write_slot-clause-torn
returns-in_err-write_slot-clause-torn g c = on_err c.from_residual.result
    (c.set.ensures ∙ ap (λ (s : ℕ). slice_set c.args.table.now c.args.number (Torn s)) c.slot_for-slot.ensures)

pub returns-clause-whole : goal.returns-clause-whole
returns-clause-whole g c =
    c.set-2.ensures ∙ ap (λ (ps : List Place). slice_set ps c.args.number (Whole c.slot_for-slot.result)) c.set.ensures
    ∙ set_twice c.args.table.now c.args.number (Torn c.slot_for-slot.result) (Whole c.slot_for-slot.result)
    ∙ ap (λ (s : ℕ). slice_set c.args.table.now c.args.number (Whole s)) c.slot_for-slot.ensures

pub returns-clause-writes : goal.returns-clause-writes
returns-clause-writes g c = rw (c.new-log.ensures, c.slot_for-slot.ensures) at c.write_slot.ensures.writes

pub returns-in_err-write_slot-clause-writes : goal.returns-in_err-write_slot-clause-writes
returns-in_err-write_slot-clause-writes g c = rw (c.new-log.ensures, c.slot_for-slot.ensures) at c.write_slot.ensures.writes

pub returns-clause-written : goal.returns-clause-written
returns-clause-written g c = rw (c.new-log.ensures, c.slot_for-slot.ensures) at c.in_ok-write_slot.ensures.written

pub returns-clause-summed : goal.returns-clause-summed
returns-clause-summed g c = rw (c.new-log.ensures, c.slot_for-slot.ensures) at c.in_ok-write_slot.ensures.summed

pub returns-clause-beside : goal.returns-clause-beside
returns-clause-beside g c = rw (c.new-log.ensures, c.slot_for-slot.ensures) at c.in_ok-write_slot.ensures.beside
