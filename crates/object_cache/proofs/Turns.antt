-- Frozen frames are written in turn, and `left` falls with each.
use Rattle.object_cache.proofs.Names.{ℕ, Bool, true≢false, List, [], Option, Some, option_map, is_some, sym, ap, arith, count_by, none-some, same_Some}
use Rattle.object_cache.proofs.Names.{HasNoneMarked, Frame, Disk, DurableState, FrozenPuts, stored_of, goes_trans, FrozenFrames, stabilized, Memory, frozen_in}
use Rattle.object_cache.proofs.Names.{StoreState, IsCache, AreFrozen, PutsBy, snapshots_of, cache_of, on_device_frozen, pending_count}
use Rattle.std.proofs.Common.{◌≡◌, ◌+◌, ◌-◌, ◌<◌, ◌≤◌, ◌∙◌}
use Rattle.object_cache.proofs.Freezing.{fewer_of}

pub none_marked : (ts : List Bool) → HasNoneMarked ts 0 → count_by (λ b. b) ts ≤ 0
none_marked ts none = fewer_of ts [] (λ k marked. absurd (true≢false (sym marked ∙ none k (omega arith))))

pub running_in : (fs : List Frame) (left : ℕ) (o : Option FrozenPuts) (f : FrozenFrames) →
    option_map (λ h. record { frames = fs; size = h.size; left = left }) o ≡ Some f →
    (h : FrozenPuts) × (o ≡ Some h) × (record { frames = fs; size = h.size; left = left } ≡ f)
running_in fs left o f is = search (arith, none-some, same_Some)

module _ {D : Type 0} (disk : D → Disk) where
  module _ {d : DurableState D} {m : Memory} {all : Bool} {left count : ℕ} {order : List ℕ} {most_entries : ℕ} {s : StoreState D}
      (view : cache_of disk d m left order most_entries ≡ s) (is : IsCache all (stored_of disk d) m left count) (f : FrozenFrames)
      (f_is : s.frozen ≡ Some f) where
    found : (h : FrozenPuts) × ((stored_of disk d).frozen ≡ Some h) × (record
        { frames = frozen_in (stored_of disk d) m; size = h.size; left = left } ≡ f)
    found = running_in (frozen_in (stored_of disk d) m) left (stored_of disk d).frozen f (ap (λ t. t.frozen) view ∙ f_is)

    pub left_is : left ≡ f.left
    left_is = ap (λ h. h.left) found.2

    pub few_left : pending_count s ≤ f.left
    few_left = omega (arith, (is.running found.0 found.1).few, left_is, ap (λ t. count_by (λ b. b) t.pending) view)

    module _ (fewer : pending_count s ≤ f.left - 1) where
      fewer_frozen : (h : FrozenPuts) → (stored_of disk d).frozen ≡ Some h → AreFrozen h m.pending (left - 1)
      fewer_frozen h h_is =
          let was = is.running h h_is in
          search (arith, was.each, was.size, was.torn, left_is)

      pub turned_stands : IsCache all (stored_of disk d) m (left - 1) count
      turned_stands = search fewer_frozen

  pub puts_more : (a b c : StoreState D) (f : FrozenFrames) (i k : ℕ) → a.frozen ≡ Some f → PutsBy disk a b i → PutsBy disk b c k →
      PutsBy disk a c (i + k)
  puts_more a b c f i k is_some first second = record {
    snapshots = λ g is_g.
        let mid : FrozenFrames = record { frames = g.frames; size = g.size; left = g.left - i } in
        let one = first.snapshots g is_g in
        second.snapshots mid (ap (λ x. x.frozen) one)
        ∙ ap (λ x. stabilized k mid x) one
        ∙ ap (λ n. record {
          frozen = Some (record { frames = g.frames; size = g.size; left = n });
          saved = (snapshots_of disk a).saved;
          to_move = (snapshots_of disk a).to_move;
        }) (total g);
    rest = second.rest ∙ ap (λ x. on_device_frozen x c) first.rest;
    goes_on = goes_trans (disk a.durable.beneath) (disk b.durable.beneath) (disk c.durable.beneath) a.durable.books b.durable.books
        c.durable.books
        (ap (λ x. x.saved) (first.snapshots f is_some)) first.goes_on second.goes_on;
  } where
    total : (g : FrozenFrames) → g.left - i - k ≡ g.left - (i + k)
    total g = omega arith

  -- after i of `count` frozen frames were written in turn, the next one may be
  pub next_requested : (a b : StoreState D) (count i : ℕ) → ((f : FrozenFrames) × (a.frozen ≡ Some f) × (count ≤ f.left)) →
      PutsBy disk a b i → i < count → (f : FrozenFrames) × (b.frozen ≡ Some f) × (0 < f.left)
  next_requested a b count i requested so_far lt = search (arith, ap (λ x. x.frozen) (so_far.snapshots requested.0 requested.1))
