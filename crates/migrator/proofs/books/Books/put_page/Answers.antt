use Rattle.migrator.proofs.Names.{on_ok_weaker, arith}
use Rattle.migrator.proofs.Journaling.{page_stays, saved_page, spelt_page, words_fit}
use Rattle.migrator.proofs.books.Books.put_page.Goals as goal

pub write_page-requires-clause-page : goal.write_page-requires-clause-page
write_page-requires-clause-page g c =
    let idle = c.requires.idle in
    rw c.new-log.ensures (saved_page idle.stands.kept idle.home c.requires.page)

pub returns-clause-stays : goal.returns-clause-stays
returns-clause-stays g c =
    let idle = c.requires.idle in
    page_stays idle.stands idle.free idle.home (rw c.new-log.ensures at c.write_page.ensures.writes)

pub returns-clause-spelt : goal.returns-clause-spelt
returns-clause-spelt g c =
    let idle = c.requires.idle in
    let words = words_fit c.requires.words (λ i. let fits = c.type_inv.words i in omega (arith, fits)) in
    on_ok_weaker c.write_page.result
    (spelt_page idle.stands idle.free idle.home (rw c.new-log.ensures at c.write_page.ensures.writes) c.args.number c.requires.page
    c.requires.header words)
    (rw c.new-log.ensures at c.write_page.ensures.written)

pub returns-clause-summed : goal.returns-clause-summed
returns-clause-summed g c = rw c.new-log.ensures at c.write_page.ensures.summed
