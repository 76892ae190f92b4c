use Rattle.space_bank.proofs.Names.{arith, false, length, subst, sym, take, slice_index, Geometry, AreKeepable, is_free, content_at, frames_of, objects_in}
use Rattle.space_bank.proofs.Names.{keeps_twice, length_objects}
use Rattle.std.proofs.Common.{◌≡◌, ◌<◌}
use Rattle.space_bank.proofs.Tallies.{transferred_more, transferred_used, used_header}
use Rattle.space_bank.proofs.freeing.transfer.Goals as goal

pub loop-number-preserved : goal.loop-number-preserved
loop-number-preserved g c =
    let q = g.F.Frames.parts c.loop-number.store in
    let r = g.F.Frames.parts c.set_owner.new.store in
    let os = objects_in (g.F.Frames.parts c.args.store.now) in
    let us = objects_in q in
    let list = c.args.numbers.now in
    let i = c.loop-number.number-index in
    let n = slice_index list i in
    let before = c.loop-number.invariant in
    let known = g.met.F.PresentFrames.known_announced c.loop-number.store n
    (before.snapshots.announced n (c.requires.announced i 0 c.loop-number-test.true)) in
    let inside : n < length us = omega (arith, known.0, length_objects q.headers q.contents) in
    let used : is_free (content_at us n) ≡ false = transferred_used (take i list) c.args.bank os us before.objects n
    (c.requires.used i 0 c.loop-number-test.true) in
    record {
      objects = transferred_more list i c.args.bank os us (objects_in r) c.loop-number-test.true inside before.objects
          c.set_owner.ensures.objects;
      current = λ current. c.set_owner.ensures.current (before.current current);
      keepable = λ age k.
          let now = subst (λ (h : Geometry). AreKeepable h age (frames_of q)) (sym before.snapshots.geometry) (before.keepable age k) in
          subst (λ (h : Geometry). AreKeepable h age (frames_of r)) before.snapshots.geometry
          (c.set_owner.ensures.keepable age (λ gone. absurd (used_header q.geometry age q now n known.0 used gone)) now);
      snapshots = keeps_twice g.F.Frames.parts g.F.Frames.IsFetched g.F.PresentFrames.IsAnnounced g.F.Frames.ContinuesTo
          g.met.F.Frames.continues_twice
          c.args.store.now c.loop-number.store c.set_owner.new.store before.snapshots c.set_owner.ensures.snapshots;
    }
