use Rattle.gate.proofs.Names.{rules, get_or, subst, sym, ℕ, List, Object, Geometry, FitsCap, with_slots_from, keeps_twice, with_message, refl, Message, deliver}
use Rattle.gate.proofs.Names.{annex_at}
use Rattle.std.proofs.Common.{◌≡◌}
use Rattle.gate.proofs.Standing.{fits_kept, in_geometry}
use Rattle.gate.proofs.delivery.deliver.Goals as goal

-- delivering a message sets the root, and then the last four registers
deliver_by_parts : (os : List Object) (p : ℕ) (m : Message) → deliver os p m
    ≡ with_slots_from (with_message os p m.words m.key) (annex_at os p) 28 m.capabilities
unfolding deliver
deliver_by_parts os p m = refl

pub returns-clause-objects : goal.returns-clause-objects
returns-clause-objects g c = search (rules, deliver_by_parts)

pub returns-clause-keepable : goal.returns-clause-keepable
returns-clause-keepable g c = λ age fits keepable.
    let mid = g.F.Frames.parts c.set_message.new.store in
    let same = c.set_message.ensures.snapshots.geometry in
    let now = in_geometry same (c.set_message.ensures.keepable age tt keepable) in
    in_geometry (sym same) (c.set_last_slots.ensures.keepable age (λ k d within. fits_kept mid.geometry age mid now _
    (subst (λ (h : Geometry). FitsCap h (get_or c.args.message.capabilities k d)) (sym same) (fits k d within)))
    now)

pub returns-clause-snapshots : goal.returns-clause-snapshots
returns-clause-snapshots g c =
    let F = g.F.Frames in
    keeps_twice F.parts F.IsFetched g.F.PresentFrames.IsAnnounced F.ContinuesTo g.met.F.Frames.continues_twice _ _ _
    c.set_message.ensures.snapshots
    c.set_last_slots.ensures.snapshots
