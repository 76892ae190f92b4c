use Rattle.image_explainer.proofs.Names.{frames_of, refuted, refl, named_more}
use Rattle.image_explainer.proofs.Naming.{misnamed_here, named_before}
use Rattle.image_explainer.proofs.capabilities.find_in.Goals as goal

pub returns-then-not-is_named-clause-found : goal.returns-then-not-is_named-clause-found
returns-then-not-is_named-clause-found g c =
    let p = g.F.Frames.parts c.args.store.now in
    misnamed_here p c.args.number c.loop-index.index c.args.held.now _ c.table.result.now c.table-then-not-is_named.result.now
    c.header.result
    c.current_count.result
    c.requires.held c.loop-index-test.true c.table.ensures c.header.ensures c.table-then-not-is_named.ensures c.current_count.ensures
    (refuted c.is_named.result _ c.is_named.ensures c.if-not-is_named.true)

pub returns-then-not-is_named-clause-first : goal.returns-then-not-is_named-clause-first
returns-then-not-is_named-clause-first g c = record {
  own = refl;
  here = named_before (frames_of (g.F.Frames.parts c.args.store.now)) c.args.number c.loop-index.index c.args.held.now c.requires.held
      c.loop-index.invariant;
}

pub loop-index-preserved : goal.loop-index-preserved
loop-index-preserved g c =
    named_more (frames_of (g.F.Frames.parts c.args.store.now)) c.args.held.now c.loop-index.index _ c.loop-index-test.true
    c.loop-index.invariant (c.is_named.ensures.0 c.if-not-is_named.false)
