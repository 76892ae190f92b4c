use Rattle.description_explainer.proofs.Explanations.{explains_held, explains_numbered, explains_part}
use Rattle.description_explainer.proofs.explaining.rule_of.Goals as goal

pub returns-in-Number : goal.returns-in-Number
returns-in-Number c d limits broken = explains_numbered d limits c.args.why broken c.in-Number.place c.in-Number.is

pub returns-in-Field : goal.returns-in-Field
returns-in-Field c d limits broken = explains_part d limits c.args.why broken c.in-Field.part c.in-Field.is

pub returns-in-Target : goal.returns-in-Target
returns-in-Target c d limits broken = explains_held d limits c.args.why broken c.in-Target.held c.in-Target.is
