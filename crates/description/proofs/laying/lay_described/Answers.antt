use Rattle.description.proofs.Names.{ap, OfBank, OfRoot, OfAnnex, OfNode, OfPage, entries, laid}
use Rattle.std.proofs.Common.{◌∙◌}
use Rattle.description.proofs.KeptFrames.{all_within, laid_described, laid_five, laid_keepable}
use Rattle.description.proofs.laying.lay_described.Goals as goal

pub lay_banks-requires-clause-within : goal.lay_banks-requires-clause-within
lay_banks-requires-clause-within c = all_within _ OfBank _ _ _ c.requires.numbers (λ e there. there) c.deref.ensures.value
    (c.in_ok-world.ensures.count.headers)

pub lay_roots-requires-clause-within : goal.lay_roots-requires-clause-within
lay_roots-requires-clause-within c = all_within _ OfRoot _ _ _ c.requires.numbers (λ e there. there) c.deref-2.ensures.value
    (c.lay_banks.ensures.headers ∙ c.in_ok-world.ensures.count.headers)

pub lay_annexes-requires-clause-within : goal.lay_annexes-requires-clause-within
lay_annexes-requires-clause-within c = all_within _ OfAnnex _ _ _ c.requires.numbers (λ e there. there) c.deref-3.ensures.value
    (c.lay_roots.ensures.headers ∙ c.lay_banks.ensures.headers ∙ c.in_ok-world.ensures.count.headers)

pub lay_nodes-requires-clause-within : goal.lay_nodes-requires-clause-within
lay_nodes-requires-clause-within c = all_within _ OfNode _ _ _ c.requires.numbers (λ e there. there) c.deref-4.ensures.value
    (c.in_ok-lay_annexes.ensures.headers ∙ c.lay_roots.ensures.headers ∙ c.lay_banks.ensures.headers ∙ c.in_ok-world.ensures.count.headers)

pub lay_pages-requires-clause-within : goal.lay_pages-requires-clause-within
lay_pages-requires-clause-within c = all_within _ OfPage _ _ _ c.requires.numbers (λ e there. there) c.deref-5.ensures.value
    (c.in_ok-lay_nodes.ensures.headers ∙ c.in_ok-lay_annexes.ensures.headers ∙ c.lay_roots.ensures.headers ∙ c.lay_banks.ensures.headers ∙
    c.in_ok-world.ensures.count.headers)

pub returns-clause-described : goal.returns-clause-described
returns-clause-described c =
    let all = laid_five c.args.description.now c.deref.result.now c.deref-2.result.now c.deref-3.result.now c.deref-4.result.now
    c.deref-5.result.now
    c.in_ok-world.world c.lay_banks.new.world c.lay_roots.new.world c.lay_annexes.new.world c.lay_nodes.new.world c.lay_pages.new.world
    c.deref.ensures.value c.deref-2.ensures.value c.deref-3.ensures.value c.deref-4.ensures.value c.deref-5.ensures.value
    c.lay_banks.ensures c.lay_roots.ensures c.in_ok-lay_annexes.ensures c.in_ok-lay_nodes.ensures c.in_ok-lay_pages.ensures in
    rw (all.frames ∙ ap (laid (entries c.args.description.now)) c.in_ok-world.ensures.frames)
    (laid_described c.args.description.now c.requires.numbers c.requires.fields)

pub returns-clause-keepable : goal.returns-clause-keepable
returns-clause-keepable c =
    let all = laid_five c.args.description.now c.deref.result.now c.deref-2.result.now c.deref-3.result.now c.deref-4.result.now
    c.deref-5.result.now
    c.in_ok-world.world c.lay_banks.new.world c.lay_roots.new.world c.lay_annexes.new.world c.lay_nodes.new.world c.lay_pages.new.world
    c.deref.ensures.value c.deref-2.ensures.value c.deref-3.ensures.value c.deref-4.ensures.value c.deref-5.ensures.value
    c.lay_banks.ensures c.lay_roots.ensures c.in_ok-lay_annexes.ensures c.in_ok-lay_nodes.ensures c.in_ok-lay_pages.ensures in
    rw (all.frames ∙ ap (laid (entries c.args.description.now)) c.in_ok-world.ensures.frames)
    (laid_keepable c.args.description.now c.requires.geometry c.requires.numbers c.requires.fields c.requires.targets all.fits)

pub returns-clause-headers : goal.returns-clause-headers
returns-clause-headers c = c.in_ok-lay_pages.ensures.headers ∙ c.in_ok-lay_nodes.ensures.headers ∙ c.in_ok-lay_annexes.ensures.headers
    ∙ c.lay_roots.ensures.headers ∙ c.lay_banks.ensures.headers ∙ c.in_ok-world.ensures.count.headers
