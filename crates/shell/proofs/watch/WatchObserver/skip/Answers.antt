use Rattle.shell.proofs.Sessions.{none_said}
use Rattle.shell.proofs.watch.WatchObserver.skip.Goals as goal

pub returns-clause-seen : goal.returns-clause-seen
returns-clause-seen c = λ g t reply. (c.skip.ensures.seen g t reply, none_said g t c.args.self.now.unsaved reply)
