use Rattle.recovery.proofs.Names.{nat_tests, arith}
use Rattle.recovery.proofs.Notes.{none_noted, root_noted}
use Rattle.recovery.proofs.Tables.{annex_known}
use Rattle.recovery.proofs.Taking.{taken_more, taken_same}
use Rattle.recovery.proofs.consistency.processes.take_annexes.Goals as goal
use Rattle.recovery.proofs.consistency.processes.take_annexes.Goals.{in-Some+else-not-take_annex, in_default}

pub loop-root-preserved : goal.loop-root-preserved
loop-root-preserved g c =
    let p = g.F.Frames.parts c.args.store.now in
    let n = c.loop-root.root in
    let old = c.loop-root.taken in
    let before = c.loop-root.invariant.taken in
    elim c.match-note.branch [
      | in-Some+else-not-take_annex w ↦ grind (arith, nat_tests, annex_known, taken_more, root_noted)
      | in_default w ↦ grind (arith, nat_tests, taken_same, none_noted)
    ]
