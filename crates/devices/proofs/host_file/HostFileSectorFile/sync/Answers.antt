use Rattle.devices.proofs.Names.{refl, rules, syncs}
use Rattle.devices.proofs.CallErrors.{cause_is_some}
use Rattle.devices.proofs.Deeds.{tells_failed_sync, tells_more, where_err, where_ok}
use Rattle.devices.proofs.host_file.HostFileSectorFile.sync.Goals as goal
use Rattle.devices.proofs.host_file.HostFileSectorFile.sync.Goals.{else-not-self-via-then-not-self+else-is_ok, else-not-self-via-else-not-self}

pub invariant_of-self-clause-reported : goal.invariant_of-self-clause-reported
invariant_of-self-clause-reported g c =
    rw c.then-self.ensures
    (tells_more c.args.self.now.history.events c.args.self.now.history.failures (g.F.RawFile.calls c.args.self.now.file)
    (g.F.RawFile.calls c.sync_all.new.file) syncs c.args.self.now.reported
    (where_ok c.sync_all.result c.sync_all.ensures.ok c.if-is_ok.ensures.value))

pub invariant_of-self-2-clause-reported : goal.invariant_of-self-2-clause-reported
invariant_of-self-2-clause-reported g c = elim c.else-not-self.branch [
  | else-not-self-via-then-not-self+else-is_ok w ↦ rw (w.self-is, c.then-self-2.ensures)
      (tells_failed_sync c.args.self.now.history (g.F.RawFile.calls c.args.self.now.file) (g.F.RawFile.calls w.sync_all.new.file)
      c.args.self.now.reported
      (where_err w.sync_all.result w.sync_all.ensures.err w.if-is_ok.ensures.value))
  | else-not-self-via-else-not-self w ↦ rw (w.self-is, c.then-self-2.ensures)
      (tells_failed_sync c.args.self.now.history (g.F.RawFile.calls c.args.self.now.file) (g.F.RawFile.calls c.args.self.now.file)
      c.args.self.now.reported
      refl)
]

pub invariant_of-self-2-clause-caused : goal.invariant_of-self-2-clause-caused
invariant_of-self-2-clause-caused g c is = elim c.else-not-self.branch [
  | else-not-self-via-then-not-self+else-is_ok w ↦ rw w.self-is
      (cause_is_some (g.F.RawFile.errors c.args.self.now.file) (g.F.RawFile.errors w.sync_all.new.file) w.sync_all.result
      w.sync_all.ensures.cause w.if-is_ok.ensures.value)
  | else-not-self-via-else-not-self w ↦ rw w.self-is (c.args.self.now.caused (search rules))
]
