use Rattle.gate.proofs.node.on_node.Goals as goal

pub returns-in-Store-clause-only : goal.returns-in-Store-clause-only
returns-in-Store-clause-only g c = c.stored.ensures.only _

pub returns-in-PutNumber-clause-only : goal.returns-in-PutNumber-clause-only
returns-in-PutNumber-clause-only g c = c.stored-in-PutNumber.ensures.only _

pub returns-in-MakeSpace-clause-only : goal.returns-in-MakeSpace-clause-only
returns-in-MakeSpace-clause-only g c = c.space.ensures.only _
