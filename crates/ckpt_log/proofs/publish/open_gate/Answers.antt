use Rattle.ckpt_log.proofs.Commits.{opening, gate_is}
use Rattle.ckpt_log.proofs.Runs.{opening_run}
use Rattle.ckpt_log.proofs.publish.open_gate.Goals as goal

pub returns-clause-seen : goal.returns-clause-seen
returns-clause-seen g c =
    let place = gate_is c.args.header c.of.result c.of.ensures.value c.gate-at.ensures.value in
    let elsewhere = rw place at c.put_sector.ensures.elsewhere in
    opening c.of.ensures.fits c.requires.next c.requires.written elsewhere

pub returns-clause-any_moment : goal.returns-clause-any_moment
returns-clause-any_moment g c =
    opening_run (gate_is c.args.header c.of.result c.of.ensures.value c.gate-at.ensures.value) c.of.ensures.fits c.requires.next
    c.requires.written
    c.put_sector.ensures.any_moment
