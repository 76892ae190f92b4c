use Rattle.cache_entries.proofs.Names.{AreStored, ℕ, List, ap, is_member, sym, take_all, refl, subst, OrderState, list_any-from_Contains, nat_eq_equiv}
use Rattle.std.proofs.Common.{◌∙◌}
use Rattle.cache_entries.proofs.Stored.{ordered, some_is}
use Rattle.cache_entries.proofs.Turns.{spread_uses}
use Rattle.cache_entries.proofs.entries.Entries.use_again.Goals as goal

pub returns-clause-held : goal.returns-clause-held
returns-clause-held c =
    let ns = c.args.numbers.now in
    λ all n has. sym (some_is c.self.inside.order c.self.invariant c.self.view_is n) ∙ sym (c.spread.ensures.listed n)
    ∙ c.use_again.ensures.listed n
    (ap (λ (ks : List ℕ). is_member ks n) (take_all c.use_again.ensures.count ns (c.use_again.ensures.whole all))
    ∙ list_any-from_Contains nat_eq_equiv n ns has)

pub returns-clause-ordered : goal.returns-clause-ordered
returns-clause-ordered c =
    let i = c.self.inside in
    let uses = c.use_again.ensures in
    ordered c.use_again.new.self (subst (λ (o : OrderState). AreStored o.most i.presents i.kepts i.marks.items) (sym uses.used)
    c.self.invariant) refl
    (spread_uses i.order c.use_again.new.self c.args.numbers.now c.use_again.result uses c.spread.ensures)
