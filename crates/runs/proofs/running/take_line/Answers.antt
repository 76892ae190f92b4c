use Rattle.runs.proofs.Names.{List, ℕ, refl, sym, subst, Holds, TakesLine}
use Rattle.std.proofs.Common.{◌++◌}
use Rattle.runs.proofs.running.take_line.Goals as goal

pub returns-then-is_empty-clause-turn : goal.returns-then-is_empty-clause-turn
returns-then-is_empty-clause-turn g c h m held stands holds =
    subst (λ (l : List ℕ). TakesLine g.D.Device.disk g.S.ObjectStore.view g.S.Frames.parts g.O.Observer.sees h m (l ++ c.args.bytes.now)
    c.args.kernel.now
    c.take.new.kernel
    c.args.observer.now c.take.new.observer (g.W.Output.written c.args.writer.now) (g.W.Output.written c.take.new.writer) c.take.result)
    (sym ((c.is_empty.ensures held holds).0 c.if-is_empty.true)) (
      c.parse_line-parsed.result,
      c.parse_line-parsed.ensures.says,
      c.take.ensures.turn h m c.args.bytes.now stands refl
          c.parse_line-parsed.ensures.says,
    )

pub returns-then-is_empty-clause-begun : goal.returns-then-is_empty-clause-begun
returns-then-is_empty-clause-begun g c held holds = subst (Holds c.args.line.now) ((c.is_empty.ensures held holds).0 c.if-is_empty.true)
    holds

pub returns-clause-turn : goal.returns-clause-turn
returns-clause-turn g c h m held stands holds = c.take_held.ensures.turn h m (held ++ c.args.bytes.now) stands (c.extend.ensures held holds)

pub returns-clause-begun : goal.returns-clause-begun
returns-clause-begun g c held holds = c.take_held.ensures.begun
