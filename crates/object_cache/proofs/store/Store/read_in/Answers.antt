use Rattle.object_cache.proofs.Names.{on_ok_weaker, ap, arith, length}
use Rattle.std.proofs.Common.{◌∙◌, ◌∷◌}
use Rattle.object_cache.proofs.Exits.{moves_err, moves_on, no_ok}
use Rattle.object_cache.proofs.Fetched.{pushed_to_front}
use Rattle.object_cache.proofs.store.Store.read_in.Goals as goal

pub returns : goal.returns
returns g c =
    let s = c.args.self.now in
    let room = c.in_ok-make_room.ensures in
    record {
      order = on_ok_weaker c.read.result (λ is.
          ap (λ t. t.order) is
          ∙ ap (λ ns. c.args.number ∷ ns) room.least
          ∙ pushed_to_front s.capacity c.args.number s.order (omega (arith, room.room, room.moves.continues.capacity)))
          c.read.ensures.cached;
      empty = c.read.ensures.empty;
      moves = moves_on g.met.D.Device.counts_now room.moves c.read.ensures.moves;
    }

pub returns-in_err-make_room : goal.returns-in_err-make_room
returns-in_err-make_room g c =
    let r = c.from_residual.result in
    let failed = c.from_residual.ensures.1 in
    record {
      order = no_ok r _ _ failed;
      empty = c.make_room.ensures.empty c.requires.empty;
      moves = moves_err r _ failed c.in_err-make_room.ensures.moves;
    }

pub read-requires : goal.read-requires
read-requires g c = record {
  known = omega (arith, c.requires.known, ap (λ t. length t.headers) c.make_room.ensures.moves.rest);
  uncached = c.in_ok-make_room.ensures.uncached c.args.number c.requires.uncached;
  empty = c.make_room.ensures.empty c.requires.empty;
  room = c.in_ok-make_room.ensures.room;
}
