use Rattle.ckpt_log.proofs.SealedWritten.{page_is, page_written}
use Rattle.ckpt_log.proofs.sealed.units.write_page.Goals as goal

pub returns-in_err-write_sectors-clause-frame : goal.returns-in_err-write_sectors-clause-frame
returns-in_err-write_sectors-clause-frame g c =
    page_is c.args.object c.args.frame.now c.seal_page.new.frame c.seal_page.ensures.header c.seal_page.ensures.words

pub returns-clause-written : goal.returns-clause-written
returns-clause-written g c =
    page_written (g.D.Device.disk c.write_sectors.new.device).seen c.args.at c.args.object c.args.frame.now c.seal_page.new.frame
    c.in_ok-write_sectors.ensures.written c.seal_page.ensures.header c.seal_page.ensures.words

pub returns-clause-frame : goal.returns-clause-frame
returns-clause-frame g c =
    page_is c.args.object c.args.frame.now c.seal_page.new.frame c.seal_page.ensures.header c.seal_page.ensures.words
