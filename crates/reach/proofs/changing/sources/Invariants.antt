use Rattle.reach.proofs.Names.{is_marked, length, links}
use Rattle.std.proofs.Common.{◌≡◌}
use Rattle.reach.proofs.Sources.{Sources, work}
use Rattle.reach.proofs.changing.sources.Given as goal

abbrev pub invariant-loop-grew : goal.invariant-loop-grew
invariant-loop-grew l = record {
  sources : Sources l.objects (links l.purpose (is_marked l.trusted)) l.object l.grew l.inside;
  count : length l.to_follow ≡ length l.objects;
}

abbrev pub decreases-loop-grew : goal.decreases-loop-grew
decreases-loop-grew l = work l.grew l.inside
