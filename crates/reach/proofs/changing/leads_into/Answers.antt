use Rattle.reach.proofs.Names.{ap, sym, Capability, Content, slots_in, is_root, is_marked, others, links}
use Rattle.std.proofs.Common.{◌∙◌}
use Rattle.reach.proofs.Members.{content_is, slots_known}
use Rattle.reach.proofs.Sources.{slots_lead, slots_settle}
use Rattle.reach.proofs.changing.leads_into.Goals as goal

pub some_convey_into-requires-clause-known : goal.some_convey_into-requires-clause-known
some_convey_into-requires-clause-known c =
    let is = content_is _ _ _ _ c.requires.known c.in-Node.is in
    slots_known _ _ _ _ c.requires.sound c.requires.count (ap (λ (x : Content Capability). slots_in x) is ∙ sym c.as_slice.ensures.value)

pub some_convey_into-requires-in-Annex-clause-known : goal.some_convey_into-requires-in-Annex-clause-known
some_convey_into-requires-in-Annex-clause-known c =
    let is = content_is _ _ _ _ c.requires.known c.in-Annex.is in
    slots_known _ _ _ _ c.requires.sound c.requires.count (ap (λ (x : Content Capability). slots_in x) is
    ∙ sym c.as_slice-in-Annex.ensures.value)

pub returns-in-Node-clause-some : goal.returns-in-Node-clause-some
returns-in-Node-clause-some c is_so =
    let is = content_is _ _ _ _ c.requires.known c.in-Node.is in (
      sym c.if-contains.ensures,
      slots_lead _ _ _ _ (is_marked c.args.inside.now) (ap (λ (x : Content Capability). slots_in x) is ∙ sym c.as_slice.ensures.value)
          (c.some_convey_into.ensures.some is_so),
    )

pub returns-in-Annex-clause-some : goal.returns-in-Annex-clause-some
returns-in-Annex-clause-some c is_so =
    let is = content_is _ _ _ _ c.requires.known c.in-Annex.is in (
      sym c.if-contains.ensures,
      slots_lead _ _ _ _ (is_marked c.args.inside.now) (ap (λ (x : Content Capability). slots_in x) is
          ∙ sym c.as_slice-in-Annex.ensures.value)
          (c.some_convey_into-in-Annex.ensures.some is_so),
    )

pub returns-in-Node-clause-none : goal.returns-in-Node-clause-none
returns-in-Node-clause-none c none out =
    let is = content_is _ _ _ _ c.requires.known c.in-Node.is in
    slots_settle _ _ _ (links c.args.purpose (is_marked c.args.trusted.now)) (others (is_marked c.args.inside.now))
    (ap (λ (x : Content Capability). is_root x) is)
    (ap (λ (x : Content Capability). slots_in x) is ∙ sym c.as_slice.ensures.value) (c.some_convey_into.ensures.none none)

pub returns-in-Annex-clause-none : goal.returns-in-Annex-clause-none
returns-in-Annex-clause-none c none out =
    let is = content_is _ _ _ _ c.requires.known c.in-Annex.is in
    slots_settle _ _ _ (links c.args.purpose (is_marked c.args.trusted.now)) (others (is_marked c.args.inside.now))
    (ap (λ (x : Content Capability). is_root x) is)
    (ap (λ (x : Content Capability). slots_in x) is ∙ sym c.as_slice-in-Annex.ensures.value) (c.some_convey_into-in-Annex.ensures.none none)
