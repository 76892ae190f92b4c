use Rattle.cache_entries.proofs.Names.{ap, EntriesState, ℕ, length, replicate, None, []}
use Rattle.std.proofs.Common.{◌∙◌}
use Rattle.cache_entries.proofs.Stored.{none_stored, known_is}
use Rattle.cache_entries.proofs.entries.Entries.clear.Goals as goal

pub returns : goal.returns
returns c =
    let i = c.self.inside in
    let known = known_is i.order c.self.invariant c.self.view_is in
    let most = ap (λ (e : EntriesState). e.most) c.self.view_is in
    none_stored c.clear.new.self i.presents i.kepts i.marks.items (length i.order.places) i.order.most c.clear.ensures
    ∙ ap (λ (n : ℕ). let e : EntriesState = record { at = replicate n None; order = []; most = i.order.most } in e) known
    ∙ ap (λ (m : ℕ). let e : EntriesState = record { at = replicate (length c.args.self.now.at) None; order = []; most = m } in e) most
