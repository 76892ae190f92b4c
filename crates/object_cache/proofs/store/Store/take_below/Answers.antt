use Rattle.object_cache.proofs.Names.{ap, content_of, refl}
use Rattle.object_cache.proofs.Exits.{moves_next}
use Rattle.object_cache.proofs.Outcomes.{counts_err, counts_ok}
use Rattle.object_cache.proofs.Fetched.{read_next, taken_next}
use Rattle.object_cache.proofs.store.Store.take_below.Goals as goal

pub invariant_of-self-2 : goal.invariant_of-self-2
invariant_of-self-2 g c =
    let room = c.fetch_below.new.scratch in
    (taken_next g.D.Device.disk c.self.view_is c.self.invariant c.args.number c.requires.pending c.requires.empty
    c.fetch_below.new.self c.fetch_below.ensures.reads (content_of c.in_ok-read.read.1 room.slots room.words)
    (ap (λ f. f.content) c.in_ok-read.ensures.found) c.take_up.ensures c.fetch_below.ensures.cause.never_falls).is

pub returns : goal.returns
returns g c =
    let room = c.fetch_below.new.scratch in
    let next = taken_next g.D.Device.disk c.self.view_is c.self.invariant c.args.number c.requires.pending c.requires.empty
    c.fetch_below.new.self c.fetch_below.ensures.reads (content_of c.in_ok-read.read.1 room.slots room.words)
    (ap (λ f. f.content) c.in_ok-read.ensures.found) c.take_up.ensures c.fetch_below.ensures.cause.never_falls in
    record {
      held = (_, c.take_up.ensures, refl);
      rest = next.view;
      moves = moves_next next refl _ (counts_ok g.D.Device.disk c.self.view_is c.in_ok-read.ensures.cause);
    }

pub invariant_of-self : goal.invariant_of-self
invariant_of-self g c =
    (read_next g.D.Device.disk c.self.view_is c.self.invariant c.fetch_below.ensures.reads c.fetch_below.ensures.cause.never_falls).is

pub returns-in_err-read-clause-moves : goal.returns-in_err-read-clause-moves
returns-in_err-read-clause-moves g c =
    moves_next (read_next g.D.Device.disk c.self.view_is c.self.invariant c.fetch_below.ensures.reads
    c.fetch_below.ensures.cause.never_falls) refl
    c.from_residual.result (counts_err g.D.Device.disk c.from_residual.result _ c.self.view_is c.from_residual.ensures.1
    c.in_err-read.ensures.cause)
