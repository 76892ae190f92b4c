use Rattle.reach.proofs.Names.{arith, ap, not, refl, subst, sym, get_or_default, Bool, Capability, Content, List, Object, free, is_free, length, length-set}
use Rattle.reach.proofs.Names.{true}
use Rattle.std.proofs.Common.{◌∙◌}
use Rattle.reach.proofs.Members.{known}
use Rattle.reach.proofs.Sources.{Adds, adds_fewer, adds_next, adds_whole}
use Rattle.reach.proofs.changing.add_owners.Goals as goal

pub loop-inside-smaller : goal.loop-inside-smaller
loop-inside-smaller c =
    let i = c.loop-inside.invariant.adds in
    let there = known c.args.objects.now c.loop-inside.at (λ (x : Content Capability). not (is_free x)) refl (ap not i.there) in
    rw c.set.ensures (adds_fewer _ _ _ _ _ i (omega (arith, there, i.count, c.requires.count)) (sym c.loop-inside-test.ensures))

pub loop-inside-preserved : goal.loop-inside-preserved
loop-inside-preserved c =
    let i = c.loop-inside.invariant.adds in
    let os = c.args.objects.now in
    let at = c.loop-inside.at in
    let there = known os at (λ (x : Content Capability). not (is_free x)) refl (ap not i.there) in
    record {
      adds = subst (λ (o : Object). Adds os c.args.number o.owner c.args.inside.now c.set.new.self)
          (get_or_default os at free c.index-objects-at.result there)
          (rw c.set.ensures (adds_next _ _ _ _ _ i c.requires.sound (omega (arith, there, i.count, c.requires.count))
          (sym c.loop-inside-test.ensures)));
      count = ap (λ (l : List Bool). length l) c.set-in-loop-inside.ensures ∙ length-set c.loop-inside.to_follow at true
          ∙ c.loop-inside.invariant.count;
    }

pub returns-clause-adds : goal.returns-clause-adds
returns-clause-adds c = adds_whole _ _ _ _ _ c.loop-inside.invariant.adds (sym c.loop-inside-test.ensures)
