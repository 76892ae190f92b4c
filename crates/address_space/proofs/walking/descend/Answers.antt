use Rattle.address_space.proofs.Names.{nat_tests, sym, subst, arith, List, Object, MayBeHeld, Space, objects_in}
use Rattle.std.proofs.Common.{◌∙◌}
use Rattle.address_space.proofs.Paths.{goes_on, union_access, at_early_page, at_hole, at_other, at_other_tree, at_page}
use Rattle.address_space.proofs.Known.{read_there, same_objects}
use Rattle.address_space.proofs.walking.descend.Goals as goal

pub returns-in-Void-clause-reached : goal.returns-in-Void-clause-reached
returns-in-Void-clause-reached g c = grind (arith, nat_tests, at_hole, read_there)

pub returns-then-at-ne1-clause-reached : goal.returns-then-at-ne1-clause-reached
returns-then-at-ne1-clause-reached g c =
    let os = objects_in (g.F.Frames.parts c.args.frames.now) in
    let at = c.loop-object.at in
    sym (c.loop-object.invariant.way ∙ at_early_page os at.node at.height c.args.index at.access c.in_ok-next_slot.field-0
    c.loop-object.invariant.held.0.0
    (read_there c.loop-object.invariant _ _ c.in_ok-next_slot.ensures.slot) c.in-Page.object c.in-Page.access c.in-Page.is
    (λ e. omega (arith, e, c.if-at-ne1.true)))

pub returns-in-Page-clause-reached : goal.returns-in-Page-clause-reached
returns-in-Page-clause-reached g c = grind (arith, nat_tests, at_page, read_there)

pub returns-then-at-height-clause-reached : goal.returns-then-at-height-clause-reached
returns-then-at-height-clause-reached g c =
    let os = objects_in (g.F.Frames.parts c.args.frames.now) in
    let at = c.loop-object.at in
    sym (c.loop-object.invariant.way ∙ at_other_tree os at.node at.height c.args.index at.access c.in_ok-next_slot.field-0
    c.loop-object.invariant.held.0.0
    (read_there c.loop-object.invariant _ _ c.in_ok-next_slot.ensures.slot) c.in-Space.object c.in-Space.height c.in-Space.access
    c.in-Space.is
    (λ e. omega (arith, e, c.if-at-height.true)))

pub loop-object-preserved : goal.loop-object-preserved
loop-object-preserved g c =
    let old = objects_in (g.F.Frames.parts c.args.frames.now) in
    let at = c.loop-object.at in
    let so_far = c.loop-object.invariant in
    let looked = c.in_ok-next_slot.ensures.fetches in
    let held = subst (λ (us : List Object). MayBeHeld us (Space c.in-Space.object c.in-Space.height c.in-Space.access))
    (same_objects so_far)
    (subst (MayBeHeld (objects_in (g.F.Frames.parts c.loop-object.frames))) c.in-Space.is c.in_ok-next_slot.ensures.held) in
    rw (c.at-at.ensures, c.union-in-Space.ensures) (record {
      same = looked.same ∙ so_far.same;
      continues = g.met.F.Frames.continues_twice _ _ _ so_far.continues looked.snapshots.continues;
      held = ((held.0.0, held.0.1, union_access at.access c.in-Space.access so_far.held.0.2 held.0.2), held.1);
      way = so_far.way ∙ goes_on old c.requires.sound.1.sound.slots at.node at.height c.args.index at.access c.in_ok-next_slot.field-0
          so_far.held.0.0
          (read_there so_far _ _ c.in_ok-next_slot.ensures.slot)
          c.in-Space.object c.in-Space.height c.in-Space.access c.in-Space.is (omega (arith, c.if-at-height.false)) so_far.held.0.2
          held.0.2;
    })

pub returns-in_default-clause-reached : goal.returns-in_default-clause-reached
returns-in_default-clause-reached g c = grind (arith, nat_tests, at_other, read_there)
