use Rattle.description.proofs.Names.{subst, AreWords}
use Rattle.description.proofs.Taken.{one_more}
use Rattle.description.proofs.fields.bad_pages.Goals as goal

pub loop-k-preserved : goal.loop-k-preserved
loop-k-preserved c = one_more (λ p. AreWords p.words.items) c.args.pages.now c.loop-k.k c.index-pages-k.result c.loop-k-test.true
    c.index-pages-k.is
    c.loop-k.invariant (subst AreWords c.deref.ensures.value c.in_default.ensures)
