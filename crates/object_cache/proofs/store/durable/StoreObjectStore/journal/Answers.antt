use Rattle.object_cache.proofs.Names.{rules, stored_of, journal_there}
use Rattle.std.proofs.Common.{◌≡◌}
use Rattle.object_cache.proofs.Exits.{refused_of, same_seen}
use Rattle.object_cache.proofs.Journaling.{answer_seen, journal_known, journal_next, journal_object, journal_page, moments_seen}
use Rattle.object_cache.proofs.store.durable.StoreObjectStore.journal.Goals as goal

pub journal_page-requires-clause-object : goal.journal_page-requires-clause-object
journal_page-requires-clause-object g c = λ is. (
  journal_known g.D.Device.disk c.self.view_is c.self.invariant c.args.number c.requires.may.keepable is,
  journal_object g.D.Device.disk c.self.view_is c.self.invariant c.args.number c.requires.may.keepable is,
)

pub journal_page-requires-clause-page : goal.journal_page-requires-clause-page
journal_page-requires-clause-page g c = journal_page g.D.Device.disk c.self.view_is c.self.invariant c.args.number c.requires.may.keepable

pub invariant_of-self : goal.invariant_of-self
invariant_of-self g c =
    (journal_next g.D.Device.disk c.self.view_is c.self.invariant c.args.number c.requires.may.keepable c.journal_page.new.durable
    c.args.age
    c.journal_page.result
    (journal_there (g.D.Device.disk c.self.inside.durable.beneath) (g.D.Device.disk c.journal_page.new.durable.beneath) _
    (stored_of g.D.Device.disk c.self.inside.durable).saved _ _ _ c.journal_page.result c.journal_page.ensures.answer)
    c.journal_page.ensures.journaled c.journal_page.ensures.unchanged).0.is

pub returns : goal.returns
returns g c =
    let next = journal_next g.D.Device.disk c.self.view_is c.self.invariant c.args.number c.requires.may.keepable c.journal_page.new.durable
    c.args.age
    c.journal_page.result
    (journal_there (g.D.Device.disk c.self.inside.durable.beneath) (g.D.Device.disk c.journal_page.new.durable.beneath) _
    (stored_of g.D.Device.disk c.self.inside.durable).saved _ _ _ c.journal_page.result c.journal_page.ensures.answer)
    c.journal_page.ensures.journaled c.journal_page.ensures.unchanged in
    let s = c.args.self.now in
    let new = c.journal_page.new.durable in
    let geometry : (stored_of g.D.Device.disk new).saved.geometry ≡ (stored_of g.D.Device.disk s.durable).saved.geometry = search rules in
    search (
      rules,
      same_seen g.D.Device.disk s _ next.0.view geometry,
      next.1,
      refused_of c.journal_page.result next.2,
      answer_seen g.D.Device.disk c.self.view_is c.self.invariant c.args.number c.requires.may.keepable c.journal_page.new.durable
          c.args.age
          c.journal_page.result c.journal_page.ensures.answer,
      moments_seen g.D.Device.disk c.self.view_is c.self.invariant c.args.number c.requires.may.keepable c.journal_page.new.durable
          c.args.age
          c.journal_page.ensures.any_moment,
    )
