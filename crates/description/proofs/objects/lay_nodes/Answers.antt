use Rattle.description.proofs.Names.{ap, rules, OfNode, slots_of}
use Rattle.std.proofs.Common.{◌∙◌}
use Rattle.model.specs.declared.object.Content.TheVariants as content
use Rattle.description.proofs.LaidFrames.{all_laid, more_laid, put_same, split_at}
use Rattle.description.proofs.objects.lay_nodes.Goals as goal

pub loop-node-preserved : goal.loop-node-preserved
loop-node-preserved c = more_laid OfNode _ _ _ _ _ _ (split_at _ _ _ c.loop-node-test.true c.node-item.is) (search rules)
    (put_same _ _ _ _ _ _ (ap content.Node c.in_ok-slots.ensures ∙ ap (λ xs. content.Node (slots_of xs)) c.deref.ensures.value)
    c.put.ensures)
    c.loop-node.invariant

pub returns : goal.returns
returns c = all_laid OfNode c.args.nodes.now c.args.world.now c.loop-node.world c.loop-node.node-index c.loop-node-test.false
    c.loop-node.invariant
