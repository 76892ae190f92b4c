use Rattle.migrator.proofs.Names.{MayCommit, rules, ap, sym, subst, refl, arith, ℕ, Option, Some, None, option_map, Image, Books, FrozenPuts, puts, same_Some}
use Rattle.migrator.proofs.Names.{frozen_generation, frozen_of, is_sound, left_of, seen_by, stored_in, stored_of, none-some, err_from_is_err_and}
use Rattle.std.proofs.Common.{◌≡◌, ◌∙◌, ◌<◌}
use Rattle.migrator.proofs.Putting.{kept_whole}
use Rattle.migrator.proofs.durable.Durable.commit.Goals as goal

-- if no frame is left to write, a checkpoint is frozen, and the frames of all its objects are in the log
frozen_size : (image : Image) (b : Books) → option_map left_of (stored_in image b).frozen ≡ Some 0 →
    (size : ℕ) × (b.frozen_size ≡ Some size) × (left_of (frozen_of image b size) ≡ 0)
frozen_size image b none = by b.frozen_size refl none
  where
    by : (o : Option ℕ) → b.frozen_size ≡ o → option_map left_of (option_map (frozen_of image b) o) ≡ Some 0 →
        (size : ℕ) × (b.frozen_size ≡ Some size) × (left_of (frozen_of image b size) ≡ 0)
    by None is left = absurd (none-some 0 left)
    by (Some k) is left = (k, is, same_Some (left_of (frozen_of image b k)) 0 left)

pub returns-then-left-ne0-clause-answer : goal.returns-then-left-ne0-clause-answer
returns-then-left-ne0-clause-answer g c =
    let image = seen_by (g.D.Device.disk c.self.inside.device).seen c.self.inside.books in
    let some : 0 < c.in-Some.left = search rules in (
      refl,
      subst (λ t. option_map left_of (stored_of g.D.Device.disk t).frozen ≡ Some c.in-Some.left) c.self.view_is
          (sym (c.left.ensures image) ∙ c.in-Some.is),
      some,
    )

pub commit-requires : goal.commit-requires
commit-requires g c =
    let b = c.self.inside.books in
    let image = seen_by (g.D.Device.disk c.self.inside.device).seen b in
    let none : c.in-Some.left ≡ 0 = search rules in
    let size = frozen_size image b (sym (c.left.ensures image) ∙ c.in-Some.is ∙ ap Some none) in
    let whole = kept_whole image b.plan (frozen_generation b) b.frozen c.self.invariant.kept.frozen.count in
    let ready = subst (λ t. (f : FrozenPuts) → (stored_of g.D.Device.disk t).frozen ≡ Some f →
    MayCommit puts c.args.age f (stored_of g.D.Device.disk t).saved)
    (sym c.self.view_is) c.requires.ready in
    let may = ready (frozen_of image b size.0) (ap (option_map (frozen_of image b)) size.1) in (
      size.0,
      record {
        stands = c.self.invariant;
        running = size.1;
        stable = omega (arith, whole, size.2);
        sound = subst (λ t. is_sound g.D.Device.disk t) (sym c.self.view_is) c.requires.sound;
        later = may.later;
        most = may.most;
        keepable = may.keepable size.2;
      },
    )

pub returns-clause-stable : goal.returns-clause-stable
returns-clause-stable g c =
    let b = c.self.inside.books in
    let image = seen_by (g.D.Device.disk c.self.inside.device).seen b in
    let none : c.in-Some.left ≡ 0 = search rules in
    let size = frozen_size image b (sym (c.left.ensures image) ∙ c.in-Some.is ∙ ap Some none) in
    subst (λ t. (f : FrozenPuts) × ((stored_of g.D.Device.disk t).frozen ≡ Some f) × (left_of f ≡ 0)) c.self.view_is
    (frozen_of image b size.0, ap (option_map (frozen_of image b)) size.1, size.2)

pub returns-clause-answer : goal.returns-clause-answer
returns-clause-answer g c =
    let image = seen_by (g.D.Device.disk c.self.inside.device).seen c.self.inside.books in
    let none : c.in-Some.left ≡ 0 = search rules in
    let over = subst (λ t. option_map left_of (stored_of g.D.Device.disk t).frozen ≡ Some 0) c.self.view_is
    (sym (c.left.ensures image) ∙ c.in-Some.is ∙ ap Some none) in
    (search rules, over, search rules)

pub returns-in_err-commit-clause-answer : goal.returns-in_err-commit-clause-answer
returns-in_err-commit-clause-answer g c =
    let p = err_from_is_err_and c.from_residual.result c.from_residual.ensures.1 in
    let image = seen_by (g.D.Device.disk c.self.inside.device).seen c.self.inside.books in
    let none : c.in-Some.left ≡ 0 = search rules in
    let over = subst (λ t. option_map left_of (stored_of g.D.Device.disk t).frozen ≡ Some 0) c.self.view_is
    (sym (c.left.ensures image) ∙ c.in-Some.is ∙ ap Some none) in
    rw (p.1, p.2) (search rules, over)
