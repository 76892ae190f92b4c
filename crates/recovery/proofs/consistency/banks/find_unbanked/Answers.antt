use Rattle.recovery.proofs.Names.{rules, ℕ, List, ap, length, slice_index, subst, sym, MatchOption, Parts, frames_of, IsAboveLimit, role_at}
use Rattle.std.proofs.Common.{◌≡◌, ◌≤◌, ◌^◌, ◌-◌, ◌∙◌}
use Rattle.model.specs.declared.object.Role.TheVariants as role
use Rattle.recovery.proofs.Trees.{bank_counted, count_all, limited, limits_count, owned_tree}
use Rattle.recovery.proofs.consistency.banks.find_unbanked.Goals as goal

pub count_usages-requires-clause-tree : goal.count_usages-requires-clause-tree
count_usages-requires-clause-tree g c =
    let p = g.F.Frames.parts c.args.store.now in
    owned_tree p.geometry (2 ^ 64 - 1) (frames_of p) c.requires.may.keepable (rw c.in-None.is at c.find_unowned.ensures)

pub count_usages-requires-clause-each : goal.count_usages-requires-clause-each
count_usages-requires-clause-each g c = search (rules, bank_counted)

pub find_above_limit-requires-clause-limits : goal.find_above_limit-requires-clause-limits
find_above_limit-requires-clause-limits g c =
    let p = g.F.Frames.parts c.args.store.now in
    let all = count_all p.geometry (2 ^ 64 - 1) p c.requires.may.keepable c.table.result.now c.count-count.result c.table.ensures
    c.count-count.ensures in
    ap (λ (xs : List ℕ). length xs) c.deref-in-None.ensures.value
    ∙ limits_count p.geometry (2 ^ 64 - 1) p c.requires.may.keepable c.table.result.now c.count-count.result c.table.ensures
    c.count-count.ensures
    c.in_ok-usages-in-None.usages.items c.in_ok-limits-in-None.limits.items c.in_ok-usages-in-None.ensures.counted
    c.in_ok-limits-in-None.ensures.limits
    ∙ all
    ∙ sym (ap (λ (q : Parts). length q.headers) c.in_ok-limits-in-None.ensures.only_reads.same)

pub returns-in_ok-limits-in-None-clause-found : goal.returns-in_ok-limits-in-None-clause-found
returns-in_ok-limits-in-None-clause-found g c =
    let p = g.F.Frames.parts c.args.store.now in
    let usages = c.deref.result.now in
    let limits = c.deref-in-None.result.now in
    limited p.geometry (2 ^ 64 - 1) p c.requires.may.keepable c.table.result.now c.count-count.result c.table.ensures c.count-count.ensures
    usages limits
    (λ b bank. ap (λ (xs : List ℕ). slice_index xs b) c.deref.ensures.value ∙ c.in_ok-usages-in-None.ensures.counted b bank)
    (c.deref-in-None.ensures.value ∙ c.in_ok-limits-in-None.ensures.limits)
    (rw c.in-None.is at c.find_unowned.ensures) c.find_above_limit.result
    (subst (λ (q : Parts). MatchOption c.find_above_limit.result ((b : ℕ) → role_at (frames_of q) b ≡ role.Bank →
    slice_index usages b ≤ slice_index limits b)
    (λ why. IsAboveLimit (frames_of q) usages limits why)) c.in_ok-limits-in-None.ensures.only_reads.same c.find_above_limit.ensures)
