use Rattle.object_cache.proofs.Names.{ap, frozen_state_at}
use Rattle.std.proofs.Common.{◌∙◌}
use Rattle.object_cache.proofs.Exits.{away_on, fetched_put, keepable_put, moves_err, moves_in_memory, moves_more, no_ok, writes_on}
use Rattle.object_cache.proofs.store.Store.write_and_evict.Goals as goal

pub returns : goal.returns
returns g c =
    let dropped = c.drop_entry.ensures in
    let both = writes_on g.met.D.Device.counts_now c.in_ok-write_frozen.ensures.moves c.in_ok-write_back.ensures.moves in
    record {
      away = away_on c.args.self.now c.write_back.new.self c.drop_entry.new.self c.args.number both.rest dropped;
      empty = λ empty. ap (λ t. t.staging) dropped ∙ c.write_back.ensures.staging ∙ c.write_frozen.ensures.empty empty;
      moves = moves_in_memory both dropped;
    }

pub returns-in_err-write_back : goal.returns-in_err-write_back
returns-in_err-write_back g c =
    let r = c.from_residual-in_err-write_back.result in
    let failed = c.from_residual-in_err-write_back.ensures.1 in
    record {
      away = no_ok r _ _ failed;
      empty = λ empty. c.write_back.ensures.staging ∙ c.write_frozen.ensures.empty empty;
      moves = moves_err r _ failed
          (moves_more (writes_on g.met.D.Device.counts_now c.in_ok-write_frozen.ensures.moves c.in_err-write_back.ensures.moves));
    }

pub returns-in_err-write_frozen : goal.returns-in_err-write_frozen
returns-in_err-write_frozen g c =
    let r = c.from_residual.result in
    let failed = c.from_residual.ensures.1 in
    record {
      away = no_ok r _ _ failed;
      empty = c.write_frozen.ensures.empty;
      moves = moves_err r _ failed (moves_more c.in_err-write_frozen.ensures.moves);
    }

pub write_back-requires : goal.write_back-requires
write_back-requires g c =
    let moves = c.write_frozen.ensures.moves in
    record {
      fetched = fetched_put moves.rest c.requires.fetched;
      keepable = keepable_put moves.continues moves.rest c.requires.keepable;
    }

pub drop_entry-requires-clause-fetched : goal.drop_entry-requires-clause-fetched
drop_entry-requires-clause-fetched g c = fetched_put c.write_back.ensures.moves.rest
    (fetched_put c.write_frozen.ensures.moves.rest c.requires.fetched)

pub drop_entry-requires-clause-clean : goal.drop_entry-requires-clause-clean
drop_entry-requires-clause-clean g c = c.in_ok-write_back.ensures.clean

pub drop_entry-requires-clause-frozen_state : goal.drop_entry-requires-clause-frozen_state
drop_entry-requires-clause-frozen_state g c = ap (λ l. frozen_state_at l c.args.number) c.write_back.ensures.frozen_state
    ∙ c.in_ok-write_frozen.ensures.frozen_written
