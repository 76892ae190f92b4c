use Rattle.object_cache.proofs.Names.{sym, subst, is_sound}
use Rattle.object_cache.proofs.Freezing.{freeze_enough, freeze_parts, freeze_snapshots, freeze_stands}
use Rattle.object_cache.proofs.store.durable.StoreObjectStore.freeze.Goals as goal

pub freeze-requires-clause-enough : goal.freeze-requires-clause-enough
freeze-requires-clause-enough g c = freeze_enough g.D.Device.disk c.self.view_is c.self.invariant

pub invariant_of-self-2 : goal.invariant_of-self-2
invariant_of-self-2 g c =
    rw (c.take_written.ensures.dirty, c.take_written.ensures.touched, c.take_written.ensures.pending)
    (freeze_stands g.D.Device.disk c.self.view_is c.self.invariant c.freeze.new.self c.in_ok-freeze.ensures.answer.0
    c.in_ok-freeze.ensures.frozen
    c.take_written.new.frozen_headers c.take_written.ensures.count c.take_written.ensures.marked c.requires.may.keepable)

pub returns-clause-same : goal.returns-clause-same
returns-clause-same g c =
    rw (c.take_written.ensures.dirty, c.take_written.ensures.touched, c.take_written.ensures.pending)
    (freeze_parts g.D.Device.disk c.self.view_is c.self.invariant c.freeze.new.self c.in_ok-freeze.ensures.answer.0
    c.in_ok-freeze.ensures.frozen
    c.take_written.new.frozen_headers c.take_written.ensures.count c.take_written.ensures.marked c.requires.may.keepable
    c.freeze.ensures.beneath)

pub returns-clause-snapshots : goal.returns-clause-snapshots
returns-clause-snapshots g c =
    rw (c.take_written.ensures.dirty, c.take_written.ensures.touched, c.take_written.ensures.pending)
    (freeze_snapshots g.D.Device.disk c.self.view_is c.self.invariant c.freeze.new.self c.in_ok-freeze.ensures.answer.0
    c.in_ok-freeze.ensures.frozen
    c.take_written.new.frozen_headers c.take_written.ensures.count c.take_written.ensures.marked c.requires.may.keepable)

pub returns-clause-usable : goal.returns-clause-usable
returns-clause-usable g c = c.freeze.ensures.sound (subst (λ t. is_sound g.D.Device.disk t.durable) (sym c.self.view_is)
    c.requires.may.usable)
