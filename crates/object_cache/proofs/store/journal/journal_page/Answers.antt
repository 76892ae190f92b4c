use Rattle.object_cache.proofs.Names.{true, refl, ap, err_from_is_err_and, goes_none, stored_of, nat_lt, is_saved_page}
use Rattle.object_cache.proofs.Saving.{fails, held_after, journals, journals_as, may_save, refuses, refuses_late}
use Rattle.object_cache.proofs.store.journal.journal_page.Goals as goal

pub returns-in_err-may_journal : goal.returns-in_err-may_journal
returns-in_err-may_journal g c =
    let s = c.args.durable.now in
    let h = c.header-header.result in
    let k = nat_lt c.args.number c.count.result in
    let es = c.args.entries.now.at in
    journals_as g.D.Device.disk c.requires.sound es h k c.args.number c.args.age c.header-header.ensures
    (ap (nat_lt c.args.number) c.count.ensures)
    (refuses g.D.Device.disk c.requires.sound es h k c.args.number c.args.age
    (err_from_is_err_and c.from_residual.result c.from_residual.ensures.1) refl
    (goes_none (g.D.Device.disk s.beneath) s.books (g.met.D.Device.only_now s.beneath)) (λ away. refl)
    (c.in_err-may_journal.ensures.answer (is_saved_page (stored_of g.D.Device.disk s) h c.args.number)))

pub returns-in_err-saved : goal.returns-in_err-saved
returns-in_err-saved g c =
    let h = c.header-header.result in
    let k = nat_lt c.args.number c.count.result in
    let es = c.args.entries.now.at in
    journals_as g.D.Device.disk c.requires.sound es h k c.args.number c.args.age c.header-header.ensures
    (ap (nat_lt c.args.number) c.count.ensures)
    (refuses_late g.D.Device.disk c.requires.sound es h k c.args.number c.args.age c.in_ok-may_journal.ensures.free
    c.in_ok-may_journal.ensures.page
    (err_from_is_err_and c.from_residual-in_err-saved.result c.from_residual-in_err-saved.ensures.1) c.page_saved.ensures.reads
    c.in_err-saved.ensures.late
    (c.in_err-saved.ensures.answer k))

pub save_present-requires-clause-may : goal.save_present-requires-clause-may
save_present-requires-clause-may g c =
    may_save g.D.Device.disk c.page_saved.ensures.reads c.requires.sound c.header-header.result c.args.number c.args.age
    c.in_ok-may_journal.ensures.free c.in_ok-may_journal.ensures.home (c.in_ok-saved.ensures.answer true).4 c.requires.later c.requires.most
    c.in_ok-saved.ensures.header

pub returns-in_err-generation : goal.returns-in_err-generation
returns-in_err-generation g c =
    let disk = g.D.Device.disk in
    let h = c.header-header.result in
    let k = nat_lt c.args.number c.count.result in
    let es = c.args.entries.now.at in
    let check = c.in_ok-saved.ensures.answer true in
    journals_as disk c.requires.sound es h k c.args.number c.args.age c.header-header.ensures (ap (nat_lt c.args.number) c.count.ensures)
    (fails disk c.requires.sound es h k c.args.number c.args.age c.in_ok-may_journal.ensures.free c.in_ok-may_journal.ensures.page
    c.in_ok-may_journal.ensures.home check.4 (err_from_is_err_and c.from_residual-in_err-generation.result
    c.from_residual-in_err-generation.ensures.1)
    (held_after disk c.page_saved.ensures.reads c.requires.sound es check.0 c.in_err-generation.ensures))

pub returns : goal.returns
returns g c =
    let disk = g.D.Device.disk in
    let h = c.header-header.result in
    let k = nat_lt c.args.number c.count.result in
    let es = c.args.entries.now.at in
    let check = c.in_ok-saved.ensures.answer true in
    journals_as disk c.requires.sound es h k c.args.number c.args.age c.header-header.ensures (ap (nat_lt c.args.number) c.count.ensures)
    (journals disk c.requires.sound es h k c.args.number c.args.age c.in_ok-may_journal.ensures.free c.in_ok-may_journal.ensures.page
    c.in_ok-may_journal.ensures.home check.4
    (held_after disk c.page_saved.ensures.reads c.requires.sound es check.0 c.in_ok-generation.ensures))
