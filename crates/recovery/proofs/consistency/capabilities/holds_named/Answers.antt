use Rattle.recovery.proofs.Names.{arith, rules, nat_tests, not_annex, not_node, not_root}
use Rattle.recovery.proofs.Named.{holds_none, other_named, space_named}
use Rattle.recovery.proofs.Tables.{content_read}
use Rattle.recovery.proofs.consistency.capabilities.holds_named.Goals as goal

pub returns-in-Root : goal.returns-in-Root
returns-in-Root g c =
    let p = g.F.Frames.parts c.args.store.now in
    let known = (g.met.F.Frames.known_fetched c.args.store.now c.args.number c.requires.fetched).0 in
    grind (arith, nat_tests, space_named, content_read)

pub returns-in_default : goal.returns-in_default
returns-in_default g c = search (rules, other_named, content_read, holds_none, not_node, not_root, not_annex)
