use Rattle.address_space.proofs.Names.{rules, subst, Parts}
use Rattle.address_space.specs.References.{KeepsSound}
use Rattle.address_space.proofs.reference.store.Goals as goal

pub returns-in_ok-put-in-Ok-clause-writes : goal.returns-in_ok-put-in-Ok-clause-writes
returns-in_ok-put-in-Ok-clause-writes g c =
    record {
      sound = subst (λ (p : Parts). KeepsSound p (g.F.Frames.parts c.put.new.frames)) c.in_ok-found.ensures.fetches.same
          c.in_ok-put-in-Ok.ensures.writes.sound;
      headers = search rules;
      geometry = search rules;
      same = search rules;
      refusals = tt;
      cause = search rules;
      later = search rules;
      continues = search rules;
    }
