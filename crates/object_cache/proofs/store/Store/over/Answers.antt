use Rattle.object_cache.proofs.Names.{stored_of}
use Rattle.std.proofs.Common.{◌∙◌}
use Rattle.object_cache.proofs.store.Store.over.Goals as goal

pub new-requires-clause-whole : goal.new-requires-clause-whole
new-requires-clause-whole g c = λ keeps. c.in-Ok.ensures.whole keeps (stored_of g.D.Device.disk c.args.durable).saved.frames c.requires.took

pub returns-in-Ok-new-clause-made : goal.returns-in-Ok-new-clause-made
returns-in-Ok-new-clause-made g c =
    let made = c.in-Ok-new.ensures.made in
    record {
      durable = made.durable;
      headers_are = made.headers_are;
      contents = made.contents;
      touched = made.touched;
      idle = made.idle;
      same_most = made.same_most ∙ c.in-Ok.ensures.most;
    }
