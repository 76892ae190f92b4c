use Rattle.space_bank.proofs.Names.{ap, Geometry, new_at, process_at, BanksState}
use Rattle.capability.specs.declared.present.Fresh.TheVariants as fresh
use Rattle.space_bank.proofs.Missing.{made_of_nodes, made_of_pages}
use Rattle.space_bank.proofs.banks.Banks.next_free.Goals as goal

pub returns-in-Page-clause-made : goal.returns-in-Page-clause-made
returns-in-Page-clause-made g c =
    rw c.in-Page.is (made_of_pages c.requires.counted (new_at c.args.bank fresh.Page) (ap (λ (s : BanksState). s.free_pages) c.self.view_is)
    c.geometry.result.nodes (ap (λ (h : Geometry). h.nodes) c.geometry.ensures.geometry) c.next_one.ensures.made)

pub returns-in-Node-clause-made : goal.returns-in-Node-clause-made
returns-in-Node-clause-made g c =
    rw c.in-Node.is (made_of_nodes c.requires.counted (new_at c.args.bank fresh.Node) (ap (λ (s : BanksState). s.free_nodes) c.self.view_is)
    c.next_one-in-Node.ensures.made)

pub returns-in-Process-clause-made : goal.returns-in-Process-clause-made
returns-in-Process-clause-made g c =
    rw c.in-Process.is (made_of_nodes c.requires.counted (process_at c.args.bank) (ap (λ (s : BanksState). s.free_nodes) c.self.view_is)
    c.next_process.ensures.made)

pub returns-in-Bank-clause-made : goal.returns-in-Bank-clause-made
returns-in-Bank-clause-made g c =
    rw c.in-Bank.is (made_of_nodes c.requires.counted (new_at c.args.bank (fresh.Bank c.in-Bank.limit))
    (ap (λ (s : BanksState). s.free_nodes) c.self.view_is) c.next_one-in-Bank.ensures.made)
