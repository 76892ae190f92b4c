use Rattle.recovery.proofs.Names.{rules, Parts, frames_of, All, IsNamed, caps_in, frame_at, subst}
use Rattle.std.proofs.Common.{◌∙◌}
use Rattle.recovery.proofs.Named.{named_next, named_whole}
use Rattle.recovery.proofs.consistency.capabilities.are_named.Goals as goal

pub returns-clause-named : goal.returns-clause-named
returns-clause-named g c = search (rules, named_whole)

pub loop-number-preserved : goal.loop-number-preserved
loop-number-preserved g c =
    let before = c.loop-number.invariant in
    let ok = c.in_ok-has_named.ensures in
    let n = c.loop-number.number in
    record {
      each = named_next (frames_of (g.F.Frames.parts c.args.store.now)) n before.each
          (subst (λ (p : Parts). All (IsNamed (frames_of p)) (caps_in (frame_at (frames_of p) n).content)) before.looked.same
          (ok.named.0 c.if-not-branch.false));
      looked = record {
        same = ok.only_reads.same ∙ before.looked.same;
        continues = g.met.F.Frames.continues_twice c.args.store.now c.loop-number.store c.has_named.new.store before.looked.continues
            ok.only_reads.snapshots.continues;
      };
    }
