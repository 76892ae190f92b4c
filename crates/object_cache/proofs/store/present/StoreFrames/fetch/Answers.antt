use Rattle.object_cache.proofs.Names.{on_ok_weaker, ap, arith, length, take, used_in_turn, sym, true≢false, parts_of, All-contains, OnlyFetches, ContinuesIn}
use Rattle.std.proofs.Common.{◌∙◌, ◌<◌}
use Rattle.object_cache.proofs.Fetched.{all_fetched, same_front, used_then}
use Rattle.object_cache.proofs.FrozenStates.{fetched_whole}
use Rattle.object_cache.proofs.Exits.{all_keepable, counts_same, fetches_only, moves_on, moves_used}
use Rattle.object_cache.proofs.store.present.StoreFrames.fetch.Goals as goal

pub returns-then-KEEPS_ALL-clause-fetched : goal.returns-then-KEEPS_ALL-clause-fetched
returns-then-KEEPS_ALL-clause-fetched g c = λ n has.
    fetched_whole g.D.Device.disk c.self.view_is c.self.invariant n
    (All-contains (λ k. k < length c.args.self.now.headers) c.args.numbers.now n c.requires.known has)
    (sym c.KEEPS_ALL.ensures ∙ c.if-KEEPS_ALL.true)

pub returns-then-use_again : goal.returns-then-use_again
returns-then-use_again g c =
    let some = sym c.KEEPS_ALL.ensures ∙ c.if-KEEPS_ALL.false in
    let disk = g.D.Device.disk in
    let s = c.args.self.now in
    let t = c.use_again.new.self in
    let rest = c.use_again.ensures.rest in
    let used = c.use_again.ensures.used c.if-use_again.true in
    record {
      fetched = c.use_again.ensures.fetched c.if-use_again.true;
      order = λ some. same_front s.capacity (used_in_turn c.args.numbers.now s.order) t.order used
          (omega (arith, ap (λ ns. length ns) used, c.use_again.ensures.few, ap (λ t. t.capacity) rest));
      all = λ all. absurd (true≢false (sym all ∙ some));
      same = ap (parts_of disk) rest;
      cause = (
        λ failed. absurd (true≢false (sym failed)),
        λ rose. absurd (omega
            (arith, rose, ap (λ t. (disk t.durable.beneath).failures) rest)),
      );
      snapshots = fetches_only some (moves_used rest c.use_again.ensures.continues);
    }

pub returns : goal.returns
returns g c =
    let some = sym c.KEEPS_ALL.ensures ∙ c.if-KEEPS_ALL.false in
    let disk = g.D.Device.disk in
    let s = c.args.self.now in
    let ns = c.args.numbers.now in
    let t = c.use_again.new.self in
    let u = c.read_all_in-read.new.self in
    let r = c.read_all_in-read.result in
    let used = c.use_again.ensures in
    let read = c.read_all_in-read.ensures in
    let moves = moves_on g.met.D.Device.counts_now (moves_used used.rest used.continues) read.moves in
    let only : OnlyFetches (parts_of disk) (ContinuesIn g.P.Policy.KEEPS_ALL disk) s u = fetches_only some moves in
    record {
      fetched = on_ok_weaker r
          (all_fetched s t u ns used.rest read.moves.rest used.each c.requires.known c.requires.few used.least c.len.ensures.bounded)
          read.order;
      order = λ some. on_ok_weaker r (λ is.
          used_then s.capacity used.prefix.0 ns s.order t.order u.order used.prefix.1
          (is ∙ ap (λ x. take x.capacity (used_in_turn ns t.order)) used.rest)) read.order;
      all = λ all. absurd (true≢false (sym all ∙ some));
      same = on_ok_weaker r only.same (counts_same r moves.cause);
      cause = moves.cause.cause;
      snapshots = only;
    }

pub read_all_in-read-requires-clause-bounded : goal.read_all_in-read-requires-clause-bounded
read_all_in-read-requires-clause-bounded g c = c.use_again.ensures.few

pub read_all_in-read-requires-clause-keepable : goal.read_all_in-read-requires-clause-keepable
read_all_in-read-requires-clause-keepable g c =
    all_keepable c.use_again.ensures.continues (moves_used c.use_again.ensures.rest c.use_again.ensures.continues).rest
    c.requires.may.keepable
