use Rattle.gate.proofs.Names.{arith, subst, sym, frames_of, objects_in, keepable_later, keeps_twice, IsWithinObject, MayHold}
use Rattle.std.proofs.Common.{◌+◌}
use Rattle.gate.proofs.Standing.{fits_kept, in_geometry, node_is_no_annex}
use Rattle.gate.proofs.change.make.Goals as goal

pub returns-in-Word-clause-keepable : goal.returns-in-Word-clause-keepable
returns-in-Word-clause-keepable g c age young held k =
    keepable_later (g.F.Frames.parts c.args.store.now).geometry age (age + 1) (frames_of (g.F.Frames.parts c.set_word.new.store))
    (omega arith)
    (c.set_word.ensures.keepable age tt k)

pub returns-in-Slot-clause-keepable : goal.returns-in-Slot-clause-keepable
returns-in-Slot-clause-keepable g c age young held k =
    let old = g.F.Frames.parts c.args.store.now in
    let here = subst (MayHold old.geometry (objects_in old)) c.in-Slot.is held in
    keepable_later old.geometry age (age + 1) (frames_of (g.F.Frames.parts c.set_slot.new.store)) (omega arith)
    (c.set_slot.ensures.keepable age
    (fits_kept old.geometry age old k c.in-Slot.held here.0, λ annex zeroth. absurd (node_is_no_annex old c.in-Slot.node here.1 annex)) k)

pub returns-in-Register-clause-keepable : goal.returns-in-Register-clause-keepable
returns-in-Register-clause-keepable g c age young held k =
    let old = g.F.Frames.parts c.args.store.now in
    let here = subst (MayHold old.geometry (objects_in old)) c.in-Register.is held in
    let within = subst IsWithinObject c.in-Register.is c.requires.within in
    keepable_later old.geometry age (age + 1) (frames_of (g.F.Frames.parts c.set_slot-in-Register.new.store)) (omega arith)
    (c.set_slot-in-Register.ensures.keepable age
    (fits_kept old.geometry age old k c.in-Register.held here, λ annex zeroth. absurd (omega (arith, within.1, zeroth))) k)

pub returns-in-RootWord-clause-keepable : goal.returns-in-RootWord-clause-keepable
returns-in-RootWord-clause-keepable g c age young held k =
    keepable_later (g.F.Frames.parts c.args.store.now).geometry age (age + 1)
    (frames_of (g.F.Frames.parts c.set_word-in-RootWord.new.store)) (omega arith)
    (c.set_word-in-RootWord.ensures.keepable age tt k)

pub returns-in-SetState-clause-keepable : goal.returns-in-SetState-clause-keepable
returns-in-SetState-clause-keepable g c age young held k =
    in_geometry (sym c.set_state.ensures.snapshots.geometry) (c.consume.ensures.keepable age young
    (in_geometry c.set_state.ensures.snapshots.geometry (c.set_state.ensures.keepable age tt k)))

pub returns-in-Space-clause-keepable : goal.returns-in-Space-clause-keepable
returns-in-Space-clause-keepable g c age young held k =
    let old = g.F.Frames.parts c.args.store.now in
    let here = subst (MayHold old.geometry (objects_in old)) c.in-Space.is held in
    keepable_later old.geometry age (age + 1) (frames_of (g.F.Frames.parts c.set_space.new.store)) (omega arith)
    (c.set_space.ensures.keepable age (fits_kept old.geometry age old k c.in-Space.held here.0, here.1) k)

pub returns-in-SetState-clause-snapshots : goal.returns-in-SetState-clause-snapshots
returns-in-SetState-clause-snapshots g c =
    let F = g.F.Frames in
    keeps_twice F.parts F.IsFetched g.F.PresentFrames.IsAnnounced F.ContinuesTo g.met.F.Frames.continues_twice _ _ _
    c.set_state.ensures.snapshots
    c.consume.ensures.snapshots
