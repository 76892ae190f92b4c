use Rattle.object_cache.proofs.Names.{Some, ap, arith, pending_count}
use Rattle.std.proofs.Common.{◌≡◌, ◌≤◌, ◌-◌, ◌∙◌}
use Rattle.object_cache.proofs.Turns.{turned_stands}
use Rattle.object_cache.proofs.store.Store.put_one.Goals as goal

pub invariant_of-self : goal.invariant_of-self
invariant_of-self g c =
    let t = c.put_next.new.self in
    let f = c.requires.0 in
    let f_is : t.frozen ≡ Some f = ap (λ x. x.frozen) c.put_next.ensures.moves.rest ∙ c.requires.1 in
    let fewer : pending_count t ≤ f.left - 1 = omega (arith, c.in_ok-put_next.ensures.fewer, c.put_next.ensures.few f c.requires.1) in
    turned_stands g.D.Device.disk c.self.view_is c.self.invariant f f_is fewer
