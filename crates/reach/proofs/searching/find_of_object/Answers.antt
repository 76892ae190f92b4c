use Rattle.reach.proofs.Names.{ap, sym, Capability, Content, is_marked, slots_in, links}
use Rattle.std.proofs.Common.{◌∙◌}
use Rattle.model.specs.declared.object.Content.TheVariants as content
use Rattle.reach.proofs.Members.{content_is, slots_known}
use Rattle.reach.proofs.Ways.{finds_of_bank, finds_of_registers, finds_of_slots}
use Rattle.reach.proofs.searching.find_of_object.Goals as goal

pub find_held-requires-clause-known : goal.find_held-requires-clause-known
find_held-requires-clause-known c =
    let is = content_is _ _ _ _ c.requires.known c.in-Node.is in
    slots_known _ _ _ _ c.requires.sound c.requires.count (ap (λ (x : Content Capability). slots_in x) is ∙ sym c.as_slice.ensures.value)

pub find_held-requires-in-Annex-clause-known : goal.find_held-requires-in-Annex-clause-known
find_held-requires-in-Annex-clause-known c =
    let is = content_is _ _ _ _ c.requires.known c.in-Annex.is in
    slots_known _ _ _ _ c.requires.sound c.requires.count (ap (λ (x : Content Capability). slots_in x) is
    ∙ sym c.as_slice-in-Annex.ensures.value)

pub returns-in-Node : goal.returns-in-Node
returns-in-Node c =
    let is = content_is _ _ _ _ c.requires.known c.in-Node.is in
    finds_of_slots _ _ _ _ _ _ _ (is ∙ ap content.Node (sym c.as_slice.ensures.value)) c.find_held.ensures

pub returns-in-Annex : goal.returns-in-Annex
returns-in-Annex c =
    let is = content_is _ _ _ _ c.requires.known c.in-Annex.is in
    finds_of_registers _ _ _ _ _ _ _ (is ∙ ap content.Annex (sym c.as_slice-in-Annex.ensures.value)) c.find_held-in-Annex.ensures

pub returns-in-Bank : goal.returns-in-Bank
returns-in-Bank c =
    let is = content_is c.args.objects.now c.args.number c.index-objects-number.result (content.Bank c.in-Bank.limit) c.requires.known
    c.in-Bank.is in
    finds_of_bank c.args.objects.now (links c.args.purpose (is_marked c.args.trusted.now)) c.args.number c.args.level c.args.levels.now
    c.find_owned.new.levels c.in-Bank.limit is c.find_owned.ensures
