use Rattle.space_bank.proofs.Names.{rules, ap, with_items_is, BanksState}
use Rattle.std.proofs.Common.{◌≡◌, ◌∙◌}
use Rattle.space_bank.proofs.Tallies.{lowered_of, lowered_fits}
use Rattle.space_bank.proofs.banks.Banks.release.Goals as goal

pub shift-requires-clause-fits : goal.shift-requires-clause-fits
shift-requires-clause-fits g c =
    let before : c.deref_mut.result.now ≡ c.args.self.now.usages = c.deref_mut.ensures.value
    ∙ ap (λ (s : BanksState). s.usages) c.self.view_is in
    rw before (lowered_fits c.requires.asks c.args.count c.requires.enough)

pub returns-clause-usages : goal.returns-clause-usages
returns-clause-usages g c = search (rules, with_items_is, lowered_of)
