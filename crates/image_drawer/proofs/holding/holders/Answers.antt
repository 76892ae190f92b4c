use Rattle.image_drawer.proofs.Names.{rules, ap, subst, sym, length, List, Bool, ℕ, false, true, All, object_count, length-replicate, length-set, holding_nodes}
use Rattle.image_drawer.proofs.Names.{holding_processes}
use Rattle.std.proofs.Common.{◌<◌, ◌∙◌, ◌++◌}
use Rattle.image_drawer.proofs.Listed.{holders_marked, holding_below, object_below}
use Rattle.image_drawer.proofs.holding.holders.Goals as goal

pub set-requires : goal.set-requires
set-requires c =
    let d = c.args.description.now in
    let size = ap (λ (bs : List Bool). length bs) c.in_ok-inside.ensures ∙ length-replicate (object_count d.geometry) false in
    subst (λ (n : ℕ). c.args.object < n) (sym size) (object_below d c.requires.numbers c.args.object c.requires.drawn)

pub mark-requires : goal.mark-requires
mark-requires c =
    let d = c.args.description.now in
    let size = ap (λ (bs : List Bool). length bs) c.set.ensures ∙ length-set c.in_ok-inside.inside c.args.object true
    ∙ ap (λ (bs : List Bool). length bs) c.in_ok-inside.ensures ∙ length-replicate (object_count d.geometry) false in
    let held : List ℕ = holding_processes c.args.object d.processes.items ++ holding_nodes c.args.object d.nodes.items in
    let below : All (λ n. n < length c.set.new.self) held = subst (λ (k : ℕ). All (λ n. n < k) held) (sym size)
    (holding_below d c.requires.numbers c.args.object) in
    search rules

pub returns : goal.returns
returns c = search (rules, holders_marked, object_below)
