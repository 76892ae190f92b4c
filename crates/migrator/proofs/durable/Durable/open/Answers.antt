use Rattle.std.proofs.Common.{◌≡◌, subst, rules}
use Rattle.migrator.proofs.Opening.{first_durable, first_frames, first_opens}
use Rattle.migrator.proofs.durable.Durable.open.Goals as goal

pub invariant_of-store : goal.invariant_of-store
invariant_of-store g c =
    let is = c.in-Ok.ensures in
    rw c.first_books-books.ensures (first_durable is.only_reads is.plan is.whole.read is.whole.reserved.frozen is.whole.reserved.working)

pub returns-in-Ok : goal.returns-in-Ok
returns-in-Ok g c =
    let is = c.in-Ok.ensures in
    let same : (g.D.Device.disk c.read_parts.new.device).failures ≡ (g.D.Device.disk c.args.device).failures = search rules in
    let frozen = is.whole.reserved.frozen in
    let working = is.whole.reserved.working in
    rw c.first_books-books.ensures (record {
      opened = first_opens is.only_reads is.plan is.whole.read frozen working is.durable same;
      took = subst (g.I.Intake.Took c.in-Ok.parts.taken) (first_frames is.only_reads is.plan is.whole.read frozen working) is.whole.took;
      refused = search rules;
    })
