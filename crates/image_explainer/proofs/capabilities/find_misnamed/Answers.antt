use Rattle.image_explainer.proofs.Names.{All, IsNamed, Parts, caps_in, frame_at, frames_of, subst, named_next, named_whole}
use Rattle.std.proofs.Common.{◌∙◌}
use Rattle.image_explainer.proofs.Naming.{none_found}
use Rattle.image_explainer.proofs.capabilities.find_misnamed.Goals as goal

pub returns-clause-found : goal.returns-clause-found
returns-clause-found g c =
    named_whole (g.F.Frames.parts c.args.store.now) c.table.result.now c.count-number-end.result c.loop-number.number c.table.ensures
    c.count-number-end.ensures
    c.loop-number-test.false c.loop-number.invariant.each

pub loop-number-preserved : goal.loop-number-preserved
loop-number-preserved g c =
    let before = c.loop-number.invariant in
    let ok = c.in_ok-misnamed.ensures in
    let n = c.loop-number.number in
    record {
      each = named_next (frames_of (g.F.Frames.parts c.args.store.now)) n before.each
          (subst (λ (p : Parts). All (IsNamed (frames_of p)) (caps_in (frame_at (frames_of p) n).content)) before.looked.same
          (none_found (frames_of (g.F.Frames.parts c.loop-number.store)) n c.in_ok-misnamed.field-0 c.in_default.is ok.none));
      looked = record {
        same = ok.only_reads.same ∙ before.looked.same;
        continues = g.met.F.Frames.continues_twice c.args.store.now c.loop-number.store c.find_at.new.store before.looked.continues
            ok.only_reads.snapshots.continues;
      };
    }
