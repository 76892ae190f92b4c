use Rattle.image_describer.proofs.Names.{All, All-head, All-tail, codes, on_ok_weaker, string_bytes, subst}
use Rattle.image_describer.proofs.Added.{joined_more, joined_none}
use Rattle.image_describer.proofs.values.put_joined.Goals as goal

pub put-requires : goal.put-requires
put-requires g c = All-head g.T.Item.MayBePut c.in-Some.first.now c.in-Some.others.now
    (subst (All g.T.Item.MayBePut) c.in-Some.ensures.cases.0 c.requires)

pub put_others-requires : goal.put_others-requires
put_others-requires g c = All-tail g.T.Item.MayBePut c.in-Some.first.now c.in-Some.others.now
    (subst (All g.T.Item.MayBePut) c.in-Some.ensures.cases.0 c.requires)

pub returns-in-None : goal.returns-in-None
returns-in-None g c = joined_none g.T.Item.text_of (codes ", ") (string_bytes c.args.text.now) c.args.items.now c.in-None.ensures.cases

pub returns-in_ok-put-in-Some : goal.returns-in_ok-put-in-Some
returns-in_ok-put-in-Some g c = on_ok_weaker c.put_others.result (λ rest. joined_more g.T.Item.text_of (codes ", ")
    (string_bytes c.args.text.now)
    (string_bytes c.put.new.text) (string_bytes c.put_others.new.text) c.in-Some.first.now c.args.items.now c.in-Some.others.now
    c.in-Some.ensures.cases.0
    c.in_ok-put-in-Some.ensures rest) c.put_others.ensures
