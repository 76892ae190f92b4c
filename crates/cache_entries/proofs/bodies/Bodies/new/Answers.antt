use Rattle.cache_entries.proofs.Contents.{none_held}
use Rattle.cache_entries.proofs.bodies.Bodies.new.Goals as goal

pub returns : goal.returns
returns c =
    (none_held c.args.most c.in_ok-free_kinds.field-0.items c.in_ok-new.field-0 c.in_ok-new-2.field-0 c.in_ok-free_kinds.ensures
    c.in_ok-new.ensures
    c.in_ok-new-2.ensures).contents
