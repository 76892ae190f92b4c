use Rattle.model.specs.declared.command.Command.TheVariants as command
use Rattle.script.specs.Order.{invoked}
use Rattle.script.proofs.Spellings.{reads_said, says_said}
use Rattle.script.proofs.parse.parse_line.Goals as goal

pub returns-in-Some-clause-says : goal.returns-in-Some-clause-says
returns-in-Some-clause-says c = says_said c.args.line.now (command.Load c.in-Some.load.process c.in-Some.load.address) c.in-Some.ensures

pub returns-in-Some-clause-reads : goal.returns-in-Some-clause-reads
returns-in-Some-clause-reads c = reads_said c.args.line.now (command.Load c.in-Some.load.process c.in-Some.load.address) c.in-Some.ensures

pub returns-in-Some-store_in-clause-says : goal.returns-in-Some-store_in-clause-says
returns-in-Some-store_in-clause-says c =
    let store = c.in-Some-store_in.store in
    says_said c.args.line.now (command.Store store.process store.address store.value) c.in-Some-store_in.ensures

pub returns-in-Some-store_in-clause-reads : goal.returns-in-Some-store_in-clause-reads
returns-in-Some-store_in-clause-reads c =
    let store = c.in-Some-store_in.store in
    reads_said c.args.line.now (command.Store store.process store.address store.value) c.in-Some-store_in.ensures

pub returns-in-Some-last_registers-clause-says : goal.returns-in-Some-last_registers-clause-says
returns-in-Some-last_registers-clause-says c =
    let sent = c.in-Some-last_registers.sent in
    says_said c.args.line.now (invoked c.in-Some-order_in.order sent) (c.in-Some-order_in.ensures.reads sent
    c.in-Some-last_registers.ensures)

pub returns-in-Some-last_registers-clause-reads : goal.returns-in-Some-last_registers-clause-reads
returns-in-Some-last_registers-clause-reads c =
    let sent = c.in-Some-last_registers.sent in
    reads_said c.args.line.now (invoked c.in-Some-order_in.order sent) (c.in-Some-order_in.ensures.reads sent
    c.in-Some-last_registers.ensures)
