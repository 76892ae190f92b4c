-- The laws that a store must satisfy.
use Rattle.object_cache.specs.Names.{refl, ap, arith, Image, Disk, ends, leaves_on, leaves_weaker, peeks_started}
use Rattle.object_cache.specs.Names.{Snapshots, FrozenFrames, goes_trans, goes_none, saved_state, seen_of, stored_of}
use Rattle.object_cache.specs.Names.{is_sound, Holds, Continues}
use Rattle.std.proofs.Common.{◌≤◌, ◌∙◌, ℕ, Bool}
use Rattle.object_cache.specs.StoreState.{StoreState, GoesOnIn, ContinuesIn, view_of}

module _ {D : Type 0} (disk : D → Disk) where
  pub goes_on_same : ((d : D) (c : Image) → (disk d).left_since (disk d).moment c → (disk d).may_leave c) →
      (s : StoreState D) → GoesOnIn disk s s
  goes_on_same only_now s = record {
    goes_on = goes_none (disk s.durable.beneath) s.durable.books (only_now s.durable.beneath);
    snapshots = refl;
    later = omega arith;
    grows = omega arith;
    capacity = refl;
    only_reads = λ none idle. peeks_started (disk s.durable.beneath) (only_now s.durable.beneath);
  }

  pub goes_on_twice : ((d : D) (t : ℕ) (c : Image) → t ≤ (disk d).moment → (disk d).may_leave c →
      (disk d).left_since t c) → (s t u : StoreState D) → GoesOnIn disk s t → GoesOnIn disk t u → GoesOnIn disk s u
  goes_on_twice counts_now s t u first second = record {
    goes_on = goes_trans (disk s.durable.beneath) (disk t.durable.beneath) (disk u.durable.beneath) s.durable.books
        t.durable.books u.durable.books
        (ap (λ (a : Snapshots FrozenFrames). a.saved) first.snapshots) first.goes_on second.goes_on;
    snapshots = second.snapshots ∙ first.snapshots;
    later = omega (arith, first.later, second.later);
    grows = omega (arith, first.grows, second.grows);
    capacity = second.capacity ∙ first.capacity;
    only_reads = λ none idle.
        let one = first.only_reads (omega (arith, none, second.grows)) idle in
        let two = second.only_reads none (ap (λ (a : Snapshots FrozenFrames). a.frozen) first.snapshots ∙ idle) in
        leaves_on {old = disk s.durable.beneath} {mid = disk t.durable.beneath} {new = disk u.durable.beneath} {P =
        (disk s.durable.beneath).may_leave} one
        (leaves_weaker {old = disk t.durable.beneath} {new = disk u.durable.beneath} {P =
        (disk t.durable.beneath).may_leave} (disk s.durable.beneath).may_leave
        (ends {old = disk s.durable.beneath} {new = disk t.durable.beneath} {P = (disk s.durable.beneath).may_leave} one
        (counts_now t.durable.beneath)) two);
  }

  pub continues_same : (all : Bool) →
      ((d : D) (c : Image) → (disk d).left_since (disk d).moment c → (disk d).may_leave c) → (s : StoreState D) →
      ContinuesIn all disk s s
  continues_same all only_now s = record { goes_on = goes_on_same only_now s; still = λ is. refl }

  pub continues_twice : (all : Bool) →
      ((d : D) (t : ℕ) (c : Image) → t ≤ (disk d).moment → (disk d).may_leave c → (disk d).left_since t c) →
      (s t u : StoreState D) → ContinuesIn all disk s t → ContinuesIn all disk t u → ContinuesIn all disk s u
  continues_twice all counts_now s t u first second = record {
    goes_on = goes_on_twice counts_now s t u first.goes_on second.goes_on;
    still = λ is. second.still is ∙ first.still is;
  }

  -- changing present objects keeps the frozen and the saved frames
  pub continues_by : (s t : StoreState D) → GoesOnIn disk s t → Continues disk (view_of disk s) (view_of disk t)
  continues_by s t goes = record {
    snapshots = λ stayed. goes.snapshots;
    usable = λ stayed. goes.goes_on.sound;
    size = goes.goes_on.size;
    later = goes.later;
    any_moment = goes.goes_on.any_moment;
  }

  pub holds_by : (s : StoreState D) (c : Image) → is_sound disk s.durable → (disk s.durable.beneath).may_leave c →
      Holds (disk s.durable.beneath).sectors c (stored_of disk s.durable).saved
  holds_by s c sound left = (saved_state (seen_of disk s.durable) s.durable.books, (sound c left).0, refl)
