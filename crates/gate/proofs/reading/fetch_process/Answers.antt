use Rattle.gate.proofs.Names.{rules, process_known}
use Rattle.gate.proofs.Standing.{annex_known, both_known}
use Rattle.gate.proofs.reading.fetch_process.Goals as goal

pub fetch-requires-clause-known : goal.fetch-requires-clause-known
fetch-requires-clause-known g c = search (rules, both_known, process_known, annex_known)
