use Rattle.std.proofs.Common.{rules, ◌≡◌, ℕ, ap, ◌∙◌, length, replicate}
use Rattle.std.specs.Vec.{vec_len}
use Rattle.collections.proofs.Marks.{cleared_sums}
use Rattle.collections.proofs.set.NumberSet.clear.Goals as goal

pub invariant_of-self : goal.invariant_of-self
invariant_of-self c =
    let words : vec_len c.self.inside.words ≡ length c.self.inside.words.items = search rules in
    let summary : vec_len c.self.inside.summary ≡ length c.self.inside.summary.items = search rules in
    cleared_sums _ _ _ c.self.invariant _ c.self.view_is _ (c.fill.ensures.items (λ y e. e) ∙ ap (λ (k : ℕ). replicate k 0) words)
    _ (c.fill-2.ensures.items (λ y e. e) ∙ ap (λ (k : ℕ). replicate k 0) summary)
