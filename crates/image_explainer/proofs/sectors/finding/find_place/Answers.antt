use Rattle.image_explainer.proofs.Names.{ℕ, Image, HasPlan, IsBadBy}
use Rattle.image_explainer.proofs.Places.{behind_front, still}
use Rattle.image_explainer.proofs.sectors.finding.find_place.Goals as goal

pub find_behind-requires : goal.find_behind-requires
find_behind-requires g c = record {
  plan = still (λ (n : ℕ) (i : Image). HasPlan i n c.in_ok-plan-in_default.plan) c.read_plan.ensures.reads
      c.in_ok-plan-in_default.ensures.found;
  room = c.requires.room;
  behind = behind_front c.args.reason c.in_default.not-Small c.in_default.not-NotASuperblock c.in_default.not-BadGeometry;
  bad = still (λ (n : ℕ) (i : Image). IsBadBy i n c.args.reason) c.read_plan.ensures.reads c.requires.bad;
}
