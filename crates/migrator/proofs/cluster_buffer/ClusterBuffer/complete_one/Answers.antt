use Rattle.migrator.proofs.Names.{rules, ℕ, List, Option, None, Disk, Entry, KeepsOne, Plan, ReadsOnly, elsewhere_same, slot_bytes, subst, unwritten_of}
use Rattle.migrator.proofs.Names.{on_ok_weaker, Some, refl, sym, ap, arith, Image, agrees_is, slot_sector, entry_at, IsWhole, Unwritten, counted_ok, counts_on}
use Rattle.migrator.proofs.Names.{mended, IsSlotSummed, with_items}
use Rattle.std.proofs.Common.{◌≡◌, ◌∙◌, ◌-◌}
use Rattle.migrator.proofs.PlacesApart.{touches_on, reads_touch}
use Rattle.migrator.proofs.Tables.{rewritten}
use Rattle.migrator.proofs.Opening.{reads_none}
use Rattle.migrator.proofs.Publishing.{err_counts, ok_counts}
use Rattle.migrator.proofs.CompleteSlots.{either_of, long_of, whole_length, zeros_written}
use Rattle.migrator.proofs.CompleteSlots.{kept_one, one_complete, own_complete, later_complete}
use Rattle.migrator.proofs.cluster_buffer.ClusterBuffer.complete_one.Goals as goal

-- a call that only reads keeps the entry's frame
read_keeps : {p : Plan} {generation : ℕ} {es : List Entry} {i : ℕ} {old new : Disk} {now : Option Unwritten} → now ≡ None →
    ReadsOnly old new → KeepsOne p generation es i old new now
read_keeps {p} {generation} {es} {i} {old} {new} none reads = subst (KeepsOne p generation es i old new) (sym none) (record {
  touches = reads_touch reads;
  elsewhere = elsewhere_same (slot_sector p generation (entry_at es i).slot) 8 old.seen new.seen reads.seen;
  own = ap (λ (image : Image). slot_bytes image p generation (entry_at es i).slot (entry_at es i).object)
      (agrees_is new.seen old.seen reads.seen);
  sums = subst (λ (image : Image). IsSlotSummed image p generation (entry_at es i).slot (entry_at es i).object)
      (sym (agrees_is new.seen old.seen reads.seen));
  unwritten = tt;
})

none_still : (sector : Option ℕ) (old new : List ℕ) {was : Option Unwritten} → unwritten_of sector old ≡ was → was ≡ None →
    unwritten_of sector new ≡ None
none_still None old new is none = refl
none_still (Some sector) old new is none = cc

pub returns-then-is_whole : goal.returns-then-is_whole
returns-then-is_whole g c =
    let disk = g.D.Device.disk c.args.device.now in
    let own = subst IsWhole c.shape.ensures.value (c.is_whole.ensures.0 c.if-is_whole.true) in
    record {
      none = c.requires.none;
      complete = own_complete c.args.generation c.args.index c.shape.ensures.plan c.requires.directory c.requires.within disk.seen own;
      zeros = λ plain first long. absurd (whole_length c.args.plan.now (entry_at c.args.entries.now c.args.index).object own long);
      keeps = read_keeps c.requires.none (reads_none (g.met.D.Device.only_now c.args.device.now));
      cause = ok_counts refl;
    }

pub assemble-requires-clause-sectors : goal.assemble-requires-clause-sectors
assemble-requires-clause-sectors g c =
    long_of c.args.plan.now (entry_at c.args.entries.now c.args.index).object c.shape.ensures.value c.if-is_whole.false c.is_whole.ensures.1

pub returns-then-not-is_first : goal.returns-then-not-is_first
returns-then-not-is_first g c =
    let disk = g.D.Device.disk c.args.device.now in
    let follows = c.is_first.ensures.no c.if-not-is_first.true in
    record {
      none = c.requires.none;
      complete = later_complete c.args.generation c.args.index c.shape.ensures.plan c.requires.directory c.requires.within disk.seen
          follows;
      zeros = λ plain first long. absurd (first (c.args.index - 1) (omega (arith, follows.0)) follows.1);
      keeps = read_keeps c.requires.none (reads_none (g.met.D.Device.only_now c.args.device.now));
      cause = ok_counts refl;
    }

pub returns-in_err-assemble : goal.returns-in_err-assemble
returns-in_err-assemble g c =
    record {
      none = search rules;
      complete = search rules;
      zeros = search rules;
      keeps = read_keeps (none_still c.self.inside.sector c.self.inside.bytes.items
          (with_items c.self.inside.bytes c.assemble.new.cluster).items c.self.view_is
          c.requires.none) c.assemble.ensures.reads;
      cause = err_counts c.from_residual.ensures.0 c.in_err-assemble.ensures.cause;
    }

pub returns : goal.returns
returns g c =
    let old = g.D.Device.disk c.args.device.now in
    let mid = g.D.Device.disk c.assemble.new.device in
    let entry = entry_at c.args.entries.now c.args.index in
    let packed = long_of c.args.plan.now entry.object c.shape.ensures.value c.if-is_whole.false c.is_whole.ensures.1 in
    let u : Unwritten = record { sector = slot_sector c.args.plan.now c.args.generation entry.slot; bytes = c.assemble.new.cluster } in
    let bytes = rewritten c.self.inside.bytes.items (c.assemble.ensures.size ∙ sym c.self.invariant) c.self.inside.bytes.ok.0 in
    let there = rw (c.slot_sector.ensures.value, c.new-log.ensures, bytes) at c.write.ensures.seen in
    let seen = there ∙ ap (λ (image : Image). mended image (Some u)) (agrees_is mid.seen old.seen c.assemble.ensures.reads.seen) in
    let touched = rw (c.slot_sector.ensures.value, c.new-log.ensures, bytes) at c.write.ensures.touches in
    let touches = touches_on (reads_touch c.assemble.ensures.reads) (touched u refl) in
    let kept = rw (c.slot_sector.ensures.value, c.new-log.ensures, bytes) at c.write.ensures.kept in
    let either = either_of c.write.result c.write.ensures.written kept in
    record {
      none = c.write.ensures.written;
      complete = on_ok_weaker c.write.result
          (λ none. one_complete c.args.generation c.args.index c.shape.ensures.plan c.requires.directory c.requires.within packed
          c.assemble.new.cluster
          c.assemble.ensures.size c.write.new.self c.in_ok-assemble.ensures.filled seen touches either
          c.in_ok-assemble.ensures.seal none) c.write.ensures.written;
      zeros = on_ok_weaker c.write.result (λ none plain first long. zeros_written c.args.plan.now entry.object mid.seen
          (g.D.Device.disk c.write.new.device).seen u c.assemble.ensures.size
          there none (c.in_ok-assemble.ensures.zeros plain)) c.write.ensures.written;
      keeps = kept_one c.args.generation c.args.index c.shape.ensures.plan c.requires.directory c.requires.within packed
          c.assemble.new.cluster c.assemble.ensures.size c.write.new.self c.in_ok-assemble.ensures.filled seen touches either;
      cause = counts_on (counted_ok c.in_ok-assemble.ensures.cause) c.write.ensures.cause;
    }
