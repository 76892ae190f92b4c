use Rattle.object_cache.proofs.Names.{FrozenFrames, rules, sym, ap, subst, Some, same_Some, is_sound, stored_of, IsCommitAnswer, LeavesEither, left_of}
use Rattle.object_cache.proofs.Names.{next_saved, option_map, whole}
use Rattle.std.proofs.Common.{◌≡◌, ◌∙◌}
use Rattle.object_cache.proofs.Exits.{same_seen}
use Rattle.object_cache.proofs.Homes.{ready_of, save_left, save_ready, save_moments, save_next}
use Rattle.object_cache.proofs.store.durable.StoreObjectStore.commit.Goals as goal

pub commit-requires : goal.commit-requires
commit-requires g c =
    let none : c.in-Some.left ≡ 0 = search rules in
    let f = ready_of c.args.self.now.frozen (stored_of g.D.Device.disk c.args.self.now.durable).saved c.args.age c.in-Some.left
    (sym c.left.ensures ∙ c.in-Some.is) none c.requires.ready in
    record {
      sound = subst (λ t. is_sound g.D.Device.disk t.durable) (sym c.self.view_is) c.requires.usable;
      ready = save_ready g.D.Device.disk c.self.view_is c.self.invariant f.0 f.1 f.2 c.args.age f.3;
    }

pub invariant_of-self : goal.invariant_of-self
invariant_of-self g c =
    let none : c.in-Some.left ≡ 0 = search rules in
    let f = ready_of c.args.self.now.frozen (stored_of g.D.Device.disk c.args.self.now.durable).saved c.args.age c.in-Some.left
    (sym c.left.ensures ∙ c.in-Some.is) none c.requires.ready in
    (save_next g.D.Device.disk c.self.view_is c.self.invariant f.0 f.1 f.2 c.args.age c.commit.new.self c.commit.result
    c.commit.ensures.committed
    c.commit.ensures.unchanged).0.is

pub returns : goal.returns
returns g c =
    let disk = g.D.Device.disk in
    let i = c.self.inside in
    let s = c.args.self.now in
    let t = c.commit.new.self in
    let none : c.in-Some.left ≡ 0 = search rules in
    let f = ready_of s.frozen (stored_of disk s.durable).saved c.args.age c.in-Some.left (sym c.left.ensures ∙ c.in-Some.is) none
    c.requires.ready in
    let left = save_left disk c.self.view_is c.self.invariant f.0 f.1 f.2 ∙ ap Some (sym none) ∙ sym c.in-Some.is ∙ c.left.ensures in
    let next = λ (h : FrozenFrames) (is : s.frozen ≡ Some h). save_next disk c.self.view_is c.self.invariant h is
    (ap (λ x. x.left) (same_Some h f.0 (sym is ∙ f.1)) ∙ f.2) c.args.age t
    c.commit.result c.commit.ensures.committed c.commit.ensures.unchanged in
    let geometry : (stored_of disk t).saved.geometry ≡ (stored_of disk s.durable).saved.geometry = search rules in
    record {
      answer =
          subst (λ o. IsCommitAnswer (disk s.durable.beneath) (disk t.beneath) o (stored_of disk s.durable).saved.generation
          c.commit.result) left
          (subst (λ x. IsCommitAnswer (disk x.durable.beneath) (disk t.beneath) (option_map left_of (stored_of disk i.durable).frozen)
          (stored_of disk x.durable).saved.generation c.commit.result) c.self.view_is c.commit.ensures.answer);
      unchanged = search rules;
      same = same_seen disk s _ (next f.0 f.1).0.view geometry;
      snapshots = λ h is. (next h is).1;
      usable = search rules;
      size = search rules;
      any_moment = λ h is none_left.
          subst (λ x. LeavesEither (disk x.durable.beneath) (disk t.beneath) (stored_of disk s.durable).saved
          (next_saved whole c.args.age h (stored_of disk s.durable).saved)) c.self.view_is
          (save_moments disk c.self.view_is c.self.invariant h is none_left c.args.age (disk i.durable.beneath) (disk t.beneath)
          c.commit.ensures.any_moment);
    }
