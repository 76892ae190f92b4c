use Rattle.migrator.proofs.Names.{IfOk-weaker, sym}
use Rattle.std.proofs.Common.{◌∙◌}
use Rattle.migrator.proofs.Opening.{below_by}
use Rattle.migrator.proofs.books.Books.fetch_below.Goals as goal

pub returns-in-Whole-clause-found : goal.returns-in-Whole-clause-found
returns-in-Whole-clause-found g c =
    IfOk-weaker c.read_frozen.result _ _ (λ read e. e ∙ below_by c.requires.object c.requires.stands.kept
    (sym c.place.ensures ∙ c.in-Whole.is)) c.read_frozen.ensures.found

pub returns-in-Torn-clause-found : goal.returns-in-Torn-clause-found
returns-in-Torn-clause-found g c =
    IfOk-weaker c.fetch_saved.result _ _ (λ read e. e ∙ below_by c.requires.object c.requires.stands.kept
    (sym c.place.ensures ∙ c.in-Torn.is)) c.fetch_saved.ensures.found

pub returns-in-Nowhere-clause-found : goal.returns-in-Nowhere-clause-found
returns-in-Nowhere-clause-found g c =
    IfOk-weaker c.fetch_saved-in-Nowhere.result _ _ (λ read e. e ∙ below_by c.requires.object c.requires.stands.kept
    (sym c.place.ensures ∙ c.in-Nowhere.is)) c.fetch_saved-in-Nowhere.ensures.found
