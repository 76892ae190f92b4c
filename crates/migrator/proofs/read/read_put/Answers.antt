use Rattle.migrator.proofs.Names.{slot_bytes}
use Rattle.migrator.proofs.Opening.{read_is, only_failed, failure_counts}
use Rattle.migrator.proofs.read.read_put.Goals as goal

pub returns-in-Ok-clause-found : goal.returns-in-Ok-clause-found
returns-in-Ok-clause-found g c =
    read_is (λ i. slot_bytes i c.args.plan.now c.args.generation c.args.slot c.args.number)
    c.read_slot.ensures.reads.seen c.requires.spelt (rw c.new-log.ensures at c.in-Ok.ensures.found)

pub failure-requires : goal.failure-requires
failure-requires g c =
    only_failed (λ i. slot_bytes i c.args.plan.now c.args.generation c.args.slot c.args.number)
    c.read_slot.ensures.reads.seen c.requires.spelt c.in-Err.fault (rw c.new-log.ensures at c.in-Err.ensures.refused)

pub returns-in-Err-clause-cause : goal.returns-in-Err-clause-cause
returns-in-Err-clause-cause g c =
    failure_counts (only_failed (λ i. slot_bytes i c.args.plan.now c.args.generation c.args.slot c.args.number)
    c.read_slot.ensures.reads.seen c.requires.spelt c.in-Err.fault (rw c.new-log.ensures at c.in-Err.ensures.refused))
    c.in-Err.ensures.cause
