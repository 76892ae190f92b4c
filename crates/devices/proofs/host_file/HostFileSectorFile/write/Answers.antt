use Rattle.devices.proofs.Names.{rules}
use Rattle.std.proofs.Common.{◌*◌}
use Rattle.devices.proofs.CallErrors.{cause_is_some}
use Rattle.devices.proofs.Deeds.{takes_nothing, tells_failed_write, tells_write, where_err, where_ok}
use Rattle.devices.proofs.host_file.HostFileSectorFile.write.Goals as goal
use Rattle.devices.proofs.host_file.HostFileSectorFile.write.Goals.{else-not-self-via-then-not-self+else-is_ok, else-not-self-via-else-not-self}

pub invariant_of-self-clause-reported : goal.invariant_of-self-clause-reported
invariant_of-self-clause-reported g c =
    rw c.then-history.ensures
    (tells_write c.args.self.now.history.events c.args.self.now.history.failures (g.F.RawFile.calls c.args.self.now.file)
    (g.F.RawFile.calls c.put_sectors.new.file) c.args.at c.args.from.now c.args.self.now.reported
    (where_ok c.put_sectors.result c.put_sectors.ensures.ok c.if-is_ok.ensures.value))

pub invariant_of-self-2-clause-reported : goal.invariant_of-self-2-clause-reported
invariant_of-self-2-clause-reported g c = elim c.else-not-self.branch [
  | else-not-self-via-then-not-self+else-is_ok w ↦ rw (w.self-is, c.then-self.ensures, c.then-history.ensures)
      (tells_failed_write c.args.self.now.history (g.F.RawFile.calls c.args.self.now.file) (g.F.RawFile.calls w.put_sectors.new.file)
      c.args.at c.args.from
      c.args.self.now.reported (where_err w.put_sectors.result w.put_sectors.ensures.err w.if-is_ok.ensures.value))
  | else-not-self-via-else-not-self w ↦ rw (w.self-is, c.then-self.ensures, c.then-history.ensures)
      (tells_failed_write c.args.self.now.history (g.F.RawFile.calls c.args.self.now.file) (g.F.RawFile.calls c.args.self.now.file)
      c.args.at c.args.from
      c.args.self.now.reported (takes_nothing (512 * c.args.at) (g.F.RawFile.calls c.args.self.now.file) c.args.from.now))
]

pub invariant_of-self-2-clause-caused : goal.invariant_of-self-2-clause-caused
invariant_of-self-2-clause-caused g c is = elim c.else-not-self.branch [
  | else-not-self-via-then-not-self+else-is_ok w ↦ rw w.self-is
      (cause_is_some (g.F.RawFile.errors c.args.self.now.file) (g.F.RawFile.errors w.put_sectors.new.file) w.put_sectors.result
      w.put_sectors.ensures.cause w.if-is_ok.ensures.value)
  | else-not-self-via-else-not-self w ↦ rw w.self-is (c.args.self.now.caused (search rules))
]
