use Rattle.cache_entries.proofs.Names.{ℕ, ap, arith, keys_of, length, place_at, LruCache, refl, set, Some}
use Rattle.std.proofs.Common.{◌+◌, ◌-◌, ◌∙◌, ◌∷◌}
use Rattle.cache_entries.proofs.Orders.{listed_member, used_keys}
use Rattle.cache_entries.proofs.Spreads.{Spreads, count_is, fresh, inserted, known_is, last_below, most_is, no_place}
use Rattle.cache_entries.proofs.places.Places.insert.Goals as goal

pub index_mut-requires : goal.index_mut-requires
index_mut-requires c = omega (
  arith,
  last_below c.self.invariant c.last_place-place.result c.last_place-place.ensures,
  c.self.inside.numbers.ok.0,
)

after : (c : goal.After-self-3-1) → Spreads (keys_of c.promote.new.self.entries)
    (set c.self.inside.numbers.items c.last_place-place.result c.args.number)
    (set c.self.inside.places.items c.args.number c.last_place-place.result) (c.self.inside.count + 1) (record {
      numbers = c.args.number ∷ c.args.self.now.numbers;
      places = set c.args.self.now.places c.args.number (Some c.last_place-place.result);
      most = c.args.self.now.most;
    })
after c =
    let p = c.last_place-place.result in
    let keys = keys_of c.self.inside.order.entries in
    inserted c.self.invariant p c.args.number c.last_place-place.ensures (omega
    (arith, c.requires.room, count_is c.self.invariant c.self.view_is, most_is c.self.invariant c.self.view_is))
    (omega (arith, c.requires.known, known_is c.self.invariant c.self.view_is))
    (no_place c.self.invariant c.self.view_is c.args.number c.requires.absent)
    c.self.view_is (keys_of c.promote.new.self.entries) (c.self.inside.count + 1)
    (ap (λ (l : LruCache ℕ (Unit {0})). keys_of l.entries) c.promote.ensures.entries ∙ used_keys p c.self.inside.order.entries
    (listed_member keys (length keys - 1) p c.last_place-place.ensures)) refl

pub invariant_of-self : goal.invariant_of-self
invariant_of-self c = (after c).are

pub returns-clause-inserted : goal.returns-clause-inserted
returns-clause-inserted c = (after c).view

pub returns-clause-fresh : goal.returns-clause-fresh
returns-clause-fresh c =
    λ n is. fresh c.self.invariant c.last_place-place.result c.args.number c.last_place-place.ensures
    (omega (arith, c.requires.room, count_is c.self.invariant c.self.view_is, most_is c.self.invariant c.self.view_is))
    (omega (arith, c.requires.known, known_is c.self.invariant c.self.view_is))
    (no_place c.self.invariant c.self.view_is c.args.number c.requires.absent) n
    (ap (λ o. place_at o.places n) c.self.view_is ∙ is)

pub returns-clause-within : goal.returns-clause-within
returns-clause-within c =
    omega (arith, last_below c.self.invariant c.last_place-place.result c.last_place-place.ensures, most_is c.self.invariant c.self.view_is)
