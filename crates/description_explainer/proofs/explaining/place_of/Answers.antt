use Rattle.description_explainer.proofs.Names.{subst, ExplainsDescription}
use Rattle.description_explainer.proofs.Explanations.{refused_rule}
use Rattle.description_explainer.proofs.explaining.place_of.Goals as goal

pub returns-in-Some : goal.returns-in-Some
returns-in-Some c table is =
    let d = c.args.description in
    let reported = subst (λ found. ExplainsDescription d found) c.in-Some.is c.requires in
    ((is, reported.0), λ sectors. refused_rule table d sectors c.in-Some.rule is (reported.1 sectors))

pub returns-in-None : goal.returns-in-None
returns-in-None c table is =
    let d = c.args.description in
    (d, is, subst (λ found. ExplainsDescription d found) c.in-None.is c.requires)
