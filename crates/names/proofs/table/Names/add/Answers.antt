use Rattle.std.proofs.Common.{refl, rules}
use Rattle.names.proofs.Tables.{added}
use Rattle.toml.specs.View.{view}
use Rattle.names.proofs.table.Names.add.Goals as goal

pub returns-clause-added : goal.returns-clause-added
returns-clause-added c = added c.args.key.now (view c.args.value.now) c.args.self.now.entries.items c.push.new.self.entries.items
    (record { number = c.in-Some.number; text = c.in-Ok.text }) (search rules) (search rules) (search rules) (search rules) (search rules)
    (search rules)
