use Rattle.object_cache.proofs.Names.{true, sym, subst, content_behind, is_page, stored_of, words_in, SavesPage}
use Rattle.std.proofs.Common.{◌≡◌, ◌∙◌}
use Rattle.object_cache.proofs.Journaling.{held_is, held_newest}
use Rattle.object_cache.proofs.store.journal.save_present.Goals as goal

pub save_content-requires-clause-page : goal.save_content-requires-clause-page
save_content-requires-clause-page g c =
    subst (λ x. is_page x ≡ true)
    (held_is c.args.entries.now.at (stored_of g.D.Device.disk c.args.durable.now) c.args.number (content_behind c.present.result)
    c.present.ensures)
    c.requires.page

pub returns-then-holds : goal.returns-then-holds
returns-then-holds g c =
    subst (λ x. SavesPage g.D.Device.disk c.args.durable.now c.save_content.new.durable c.args.number c.args.age (words_in x)
    c.save_content.result)
    (sym (held_is c.args.entries.now.at (stored_of g.D.Device.disk c.args.durable.now) c.args.number (content_behind c.present.result)
    c.present.ensures))
    c.save_content.ensures

pub save_read-requires-clause-page : goal.save_read-requires-clause-page
save_read-requires-clause-page g c =
    subst (λ x. is_page x ≡ true)
    (held_newest c.args.entries.now.at (stored_of g.D.Device.disk c.args.durable.now) c.args.number
    (sym c.holds.ensures ∙ c.if-holds.false)) c.requires.page

pub returns : goal.returns
returns g c =
    subst (λ x. SavesPage g.D.Device.disk c.args.durable.now c.save_read.new.durable c.args.number c.args.age (words_in x)
    c.save_read.result)
    (sym (held_newest c.args.entries.now.at (stored_of g.D.Device.disk c.args.durable.now) c.args.number
    (sym c.holds.ensures ∙ c.if-holds.false)))
    c.save_read.ensures
