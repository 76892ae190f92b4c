use Rattle.cache_entries.proofs.Contents.{held}
use Rattle.cache_entries.proofs.bodies.Bodies.get.Goals as goal

pub returns-in-Free : goal.returns-in-Free
returns-in-Free c = rw c.in-Free.is at (held c.self.invariant c.self.view_is c.requires c.index.ensures)

pub returns-in-Page : goal.returns-in-Page
returns-in-Page c = rw (c.in-Page.is, c.item.ensures, ← c.as_array.ensures) at
    (held c.self.invariant c.self.view_is c.requires c.index.ensures)

pub returns-in-Node : goal.returns-in-Node
returns-in-Node c = rw (c.in-Node.is, c.item-in-Node.ensures) at (held c.self.invariant c.self.view_is c.requires c.index.ensures)

pub returns-in-Root : goal.returns-in-Root
returns-in-Root c = rw c.in-Root.is at (held c.self.invariant c.self.view_is c.requires c.index.ensures)

pub returns-in-Annex : goal.returns-in-Annex
returns-in-Annex c = rw (c.in-Annex.is, c.item-in-Annex.ensures) at (held c.self.invariant c.self.view_is c.requires c.index.ensures)

pub returns-in-Bank : goal.returns-in-Bank
returns-in-Bank c = rw c.in-Bank.is at (held c.self.invariant c.self.view_is c.requires c.index.ensures)
