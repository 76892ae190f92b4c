use Rattle.migrator.proofs.Names.{frame_in}
use Rattle.migrator.proofs.Opening.{read_is, only_failed, failure_counts}
use Rattle.migrator.proofs.read.read_again.Goals as goal

pub returns-in-Ok-clause-found : goal.returns-in-Ok-clause-found
returns-in-Ok-clause-found g c =
    read_is (λ i. frame_in i c.args.plan.now c.args.header.generation c.args.directory.now c.args.number)
    c.read_saved.ensures.reads.seen c.requires.spelt c.in-Ok.ensures.found

pub failure-requires : goal.failure-requires
failure-requires g c =
    only_failed (λ i. frame_in i c.args.plan.now c.args.header.generation c.args.directory.now c.args.number)
    c.read_saved.ensures.reads.seen c.requires.spelt c.in-Err.fault c.in-Err.ensures.refused

pub returns-in-Err-clause-cause : goal.returns-in-Err-clause-cause
returns-in-Err-clause-cause g c =
    failure_counts (only_failed (λ i. frame_in i c.args.plan.now c.args.header.generation c.args.directory.now c.args.number)
    c.read_saved.ensures.reads.seen c.requires.spelt c.in-Err.fault c.in-Err.ensures.refused) c.in-Err.ensures.cause
