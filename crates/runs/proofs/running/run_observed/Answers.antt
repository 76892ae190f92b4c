use Rattle.runs.proofs.Confining.{run_is_confined}
use Rattle.runs.proofs.Turning.{run_of_seen}
use Rattle.runs.proofs.running.run_observed.Goals as goal

pub returns-clause-runs : goal.returns-clause-runs
returns-clause-runs g c =
    run_of_seen g.D.Device.disk g.S.ObjectStore.view g.S.Frames.parts g.O.Observer.sees g.met.D.Device.only_now c.args.kernel.now
    c.run_turns.new.kernel
    c.args.observer.now c.run_turns.new.observer
    (g.R.Script.unread c.args.reader.now) (g.R.Script.unread c.run_turns.new.reader) (g.W.Output.written c.args.writer.now)
    (g.W.Output.written c.run_turns.new.writer)
    c.run_turns.result c.run_turns.ensures.watched

pub returns-clause-confined : goal.returns-clause-confined
returns-clause-confined g c =
    run_is_confined g.D.Device.disk g.S.ObjectStore.view g.S.Frames.parts c.args.kernel.now c.run_turns.new.kernel
    (g.R.Script.unread c.args.reader.now) (g.R.Script.unread c.run_turns.new.reader) (g.W.Output.written c.args.writer.now)
    (g.W.Output.written c.run_turns.new.writer)
    c.run_turns.result
    (run_of_seen g.D.Device.disk g.S.ObjectStore.view g.S.Frames.parts g.O.Observer.sees g.met.D.Device.only_now c.args.kernel.now
    c.run_turns.new.kernel
    c.args.observer.now c.run_turns.new.observer
    (g.R.Script.unread c.args.reader.now) (g.R.Script.unread c.run_turns.new.reader) (g.W.Output.written c.args.writer.now)
    (g.W.Output.written c.run_turns.new.writer)
    c.run_turns.result c.run_turns.ensures.watched)
