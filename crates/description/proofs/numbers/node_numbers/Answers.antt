use Rattle.description.proofs.Names.{rules, BankEntry, NodeEntry, ProcessEntry, YieldsList-from_map, YieldsList-from_slice, items_from_collect, YieldsList-at}
use Rattle.description.proofs.Names.{YieldsList-from_chain}
use Rattle.description.proofs.numbers.node_numbers.Goals as goal

pub returns : goal.returns
returns c =
    let d = c.args.description.now in
    items_from_collect c.collect.result c.collect.ensures.ran (YieldsList-from_chain
    (YieldsList-at c.chain-3.ensures.first (YieldsList-from_chain
    (YieldsList-at c.chain-2.ensures.first (YieldsList-from_chain
    (YieldsList-at c.chain.ensures.first (YieldsList-from_map _ (λ (b : BankEntry). b.number) (YieldsList-from_slice d.banks.items cc)
    c.map-banks.ensures.closure (λ x r q k. search rules)))
    (YieldsList-at c.chain.ensures.second (YieldsList-from_map _ (λ (p : ProcessEntry). p.root) (YieldsList-from_slice d.processes.items cc)
    c.map-roots.ensures.closure (λ x r q k. search rules)))
    c.chain.ensures.first_done c.chain.ensures.second_done))
    (YieldsList-at c.chain-2.ensures.second (YieldsList-from_map _ (λ (p : ProcessEntry). p.annex)
    (YieldsList-from_slice d.processes.items cc)
    c.map-annexes.ensures.closure (λ x r q k. search rules)))
    c.chain-2.ensures.first_done c.chain-2.ensures.second_done))
    (YieldsList-at c.chain-3.ensures.second (YieldsList-from_map _ (λ (n : NodeEntry). n.number) (YieldsList-from_slice d.nodes.items cc)
    c.map-nodes.ensures.closure (λ x r q k. search rules)))
    c.chain-3.ensures.first_done c.chain-3.ensures.second_done)
