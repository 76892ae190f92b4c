use Rattle.names.proofs.Named.{named_all, named_more}
use Rattle.names.proofs.naming.name_objects.Goals as goal

pub loop-index-preserved : goal.loop-index-preserved
loop-index-preserved c = named_more c.args.kinds.now c.args.names.now.entries.items c.args.text.now c.loop-index.named.items
    c.push.new.self.items
    c.push_behind.new.named.items _ _ c.loop-index.index _ c.loop-index-test.true c.loop-index.invariant c.in_ok-push.ensures.items
    c.split_at.ensures.front c.split_at.ensures.back c.in_ok-push_behind.ensures

pub returns : goal.returns
returns c = named_all c.args.kinds.now c.args.names.now.entries.items c.args.text.now c.loop-index.named.items c.loop-index.index
    c.loop-index-test.false c.loop-index.invariant
