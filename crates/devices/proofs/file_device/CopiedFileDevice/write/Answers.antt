use Rattle.devices.proofs.Copies.{copy_written, copy_tears, write_elapses}
use Rattle.devices.proofs.file_device.CopiedFileDevice.write.Goals as goal

pub invariant_of-self : goal.invariant_of-self
invariant_of-self g c =
    let s = c.args.self.now.sound in
    record {
      sound = copy_written c.args.self.now.sectors c.args.self.now.copy _ _ s _ c.write-answer.ensures.first _ c.put.new.self
          c.args.from.now c.args.at
          c.write-answer.ensures.events c.put.ensures.length c.put.ensures.fits c.put.ensures.written c.put.ensures.elsewhere;
    }

pub returns-clause-crash : goal.returns-clause-crash
returns-clause-crash g c =
    copy_tears c.args.self.now.sectors c.args.self.now.copy _ _ c.args.self.now.sound _ c.write-answer.ensures.first _ c.put.new.self
    c.args.from.now
    c.args.at c.write-answer.ensures.events 0 0

pub returns-clause-time : goal.returns-clause-time
returns-clause-time g c =
    write_elapses c.args.self.now.sectors c.args.self.now.copy _ _ c.args.self.now.sound _ c.write-answer.ensures.first _ c.put.new.self
    c.args.from.now c.args.at c.write-answer.ensures.events _ _
