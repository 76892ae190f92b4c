use Rattle.cache_entries.proofs.Names.{ℕ, ap, arith, is_member, keys_of, without, used_last, LruCache}
use Rattle.std.proofs.Common.{◌∷◌, ◌∙◌}
use Rattle.cache_entries.proofs.Orders.{used_keys}
use Rattle.cache_entries.proofs.Spreads.{Spreads, known_place, listed, listed_place, place_known, promoted_last}
use Rattle.cache_entries.proofs.places.Places.promote.Goals as goal

pub index-requires : goal.index-requires
index-requires c =
    omega (
      arith,
      place_known c.self.invariant c.args.number (listed_place c.self.invariant c.self.view_is c.args.number c.requires),
      c.self.inside.places.ok.0,
    )

after : (c : goal.After-promote) → Spreads (keys_of c.promote.new.self.entries) c.self.inside.numbers.items c.self.inside.places.items
    c.self.inside.count (used_last c.args.number c.args.self.now)
after c =
    let below = listed_place c.self.invariant c.self.view_is c.args.number c.requires in
    let p = c.index.result.now in
    let keys = keys_of c.self.inside.order.entries in
    let same = known_place c.self.invariant c.args.number below p c.index.ensures in
    promoted_last c.self.invariant c.args.number below c.self.view_is (keys_of c.promote.new.self.entries)
    (ap (λ (l : LruCache ℕ (Unit {0})). keys_of l.entries) c.promote.ensures.entries ∙ used_keys p c.self.inside.order.entries
    (ap (is_member keys) same ∙ listed c.self.invariant c.args.number below) ∙ ap (λ (q : ℕ). q ∷ without q keys) same)

pub invariant_of-self : goal.invariant_of-self
invariant_of-self c = (after c).are

pub returns : goal.returns
returns c = (after c).view
