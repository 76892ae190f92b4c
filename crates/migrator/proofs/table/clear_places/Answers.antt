use Rattle.migrator.proofs.Names.{ℕ, arith, ap, sym, map-set, Nowhere, is_held}
use Rattle.std.proofs.Common.{◌∙◌, replicate}
use Rattle.migrator.proofs.Tables.{none_taken, one_less, all_nowhere}
use Rattle.migrator.proofs.table.clear_places.Goals as goal

pub unreachable-requires : goal.unreachable-requires
unreachable-requires c =
    let none = none_taken c.loop.places (rw c.loop.invariant.held at (c.next.ensures.none c.in-None.is)) in
    omega (arith, none)

pub loop-preserved : goal.loop-preserved
loop-preserved c =
    let less = one_less c.loop.places (rw c.loop.invariant.held at c.in-Some.ensures.some) in
    record {
      held = rw (c.set.ensures, c.loop.invariant.held) (sym (map-set is_held c.loop.places c.in-Some.number Nowhere));
      count = omega (arith, less);
    }

pub returns-clause-places : goal.returns-clause-places
returns-clause-places c =
    all_nowhere c.loop.places (omega arith) ∙ ap (λ (n : ℕ). replicate n Nowhere) c.loop.auto.places
