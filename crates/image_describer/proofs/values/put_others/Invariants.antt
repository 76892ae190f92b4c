use Rattle.image_describer.proofs.Names.{codes, take, string_bytes, flat_map}
use Rattle.std.proofs.Common.{◌≡◌, ◌++◌}
use Rattle.image_describer.proofs.values.put_others.Given as goal

-- the items so far are written
abbrev pub invariant-loop-item : goal.invariant-loop-item
invariant-loop-item g l = string_bytes l.text ≡ string_bytes l.fn.text ++ flat_map (λ x. codes ", " ++ g.T.Item.text_of x)
    (take l.item-index l.items)
