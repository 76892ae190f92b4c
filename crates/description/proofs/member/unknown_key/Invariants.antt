use Rattle.description.proofs.Names.{map, members_view, first_unknown}
use Rattle.std.proofs.Common.{◌≡◌}
use Rattle.description.proofs.member.unknown_key.Given as goal

-- the first unknown key, if there is one, is among the keys left
abbrev pub invariant-keys : goal.invariant-keys
invariant-keys l =
    (goal.iterator-keys).can_next l.key-iterator
    × (goal.iterator-keys).is_finite l.key-iterator
    × (first_unknown (map (λ k. k.now) l.known) (members_view l.key-iterator)
    ≡ first_unknown (map (λ k. k.now) l.known) (members_view l.table.entries))
