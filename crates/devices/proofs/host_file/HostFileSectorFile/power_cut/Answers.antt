use Rattle.devices.specs.RawCalls.{cuts}
use Rattle.devices.proofs.Deeds.{adds_none, tells_more}
use Rattle.devices.proofs.host_file.HostFileSectorFile.power_cut.Goals as goal

pub invariant_of-self-clause-reported : goal.invariant_of-self-clause-reported
invariant_of-self-clause-reported g c =
    let calls = g.F.RawFile.calls c.args.self.now.file in
    rw c.then-self.ensures
    (tells_more c.args.self.now.history.events c.args.self.now.history.failures calls calls cuts c.args.self.now.reported (adds_none calls))
