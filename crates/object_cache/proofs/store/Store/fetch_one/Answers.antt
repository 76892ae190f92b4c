use Rattle.object_cache.proofs.Names.{on_ok_weaker, sym, ap, subst, refl, take, Moves, on_device_with, AreKeepableIn}
use Rattle.std.proofs.Common.{◌∷◌, ◌∙◌}
use Rattle.object_cache.proofs.Exits.{moves_in_memory, moves_none}
use Rattle.object_cache.proofs.Fetched.{brought_order, used_order}
use Rattle.object_cache.proofs.store.Store.fetch_one.Goals as goal

pub returns-then-use_now : goal.returns-then-use_now
returns-then-use_now g c =
    let s = c.args.self.now in
    let used = c.use_now.ensures.used c.if-use_now.true in
    record {
      order = rw used (used_order s c.args.number c.use_now.ensures.bounded (c.use_now.ensures.fetched c.if-use_now.true));
      empty = ap (λ t. t.staging) used ∙ c.requires.empty;
      moves = moves_in_memory (moves_none {T = Unit {0}} {x = tt} g.met.D.Device.only_now s refl) used;
    }

pub returns : goal.returns
returns g c =
    let s = c.args.self.now in
    let same = c.use_now.ensures.unchanged c.if-use_now.false in
    record {
      order = on_ok_weaker c.read_in.result (λ is.
          brought_order s c.args.number c.read_in.new.self.order c.use_now.ensures.bounded (c.use_now.ensures.uncached c.if-use_now.false)
          (is ∙ ap (λ t. take t.capacity (c.args.number ∷ t.order)) same)) c.read_in.ensures.order;
      empty = c.read_in.ensures.empty;
      moves = subst (λ t. Moves g.D.Device.disk on_device_with t c.read_in.new.self c.read_in.result) same c.read_in.ensures.moves;
    }

pub read_in-requires-clause-keepable : goal.read_in-requires-clause-keepable
read_in-requires-clause-keepable g c = subst (AreKeepableIn g.D.Device.disk) (sym (c.use_now.ensures.unchanged c.if-use_now.false))
    c.requires.keepable
