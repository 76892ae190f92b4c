use Rattle.shell.proofs.Sessions.{bad_said}
use Rattle.shell.proofs.watch.WatchObserver.bad.Goals as goal

pub returns-clause-seen : goal.returns-clause-seen
returns-clause-seen c = λ g t at reply. (
  c.bad.ensures.seen g t at reply,
  bad_said g t c.args.self.now.unsaved c.fault_of.result reply
      (c.fault_of.ensures t.line at),
)
