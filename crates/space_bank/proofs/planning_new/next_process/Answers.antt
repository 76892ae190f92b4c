use Rattle.std.proofs.Common.{rules}
use Rattle.space_bank.proofs.Missing.{process_found}
use Rattle.space_bank.proofs.planning_new.next_process.Goals as goal

pub returns-in-Some-next-clause-made : goal.returns-in-Some-next-clause-made
returns-in-Some-next-clause-made g = search (rules, process_found)
