use Rattle.gate.proofs.Names.{Some}
use Rattle.std.proofs.Common.{◌≡◌, ◌∙◌}
use Rattle.model.specs.declared.order.BankOrder.TheVariants as bank
use Rattle.model.specs.declared.order.NodeOrder.TheVariants as node
use Rattle.gate.proofs.Plans.{bank_words, node_words, not_both, page_words}
use Rattle.gate.proofs.reading.reads_sent_capability.Goals as goal

pub returns-in-Page : goal.returns-in-Page
returns-in-Page c is = rw c.in-Page.is (page_words c.in-Page.object c.in-Page.access c.args.word)

pub returns-in-Node : goal.returns-in-Node
returns-in-Node c is = rw c.in-Node.is (node_words c.in-Node.object c.in-Node.access c.args.word
    (λ e. let found : c.node_order.result ≡ Some node.Store = c.node_order.ensures ∙ e in
    not_both c.eq.result is (rw found at c.eq.ensures)))

pub returns-in-Bank : goal.returns-in-Bank
returns-in-Bank c is = rw c.in-Bank.is (bank_words c.in-Bank.field-0 c.args.word
    (λ e. let found : c.bank_order.result ≡ Some bank.Free = c.bank_order.ensures ∙ e in
    not_both c.eq-in-Bank.result is (rw found at c.eq-in-Bank.ensures)))
