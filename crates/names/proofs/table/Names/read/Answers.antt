use Rattle.std.proofs.Common.{rules}
use Rattle.toml.specs.View.{members_view}
use Rattle.names.proofs.Tables.{read_fails, read_more}
use Rattle.names.proofs.table.Names.read.Goals as goal

pub returns-in-Err-clause-refused : goal.returns-in-Err-clause-refused
returns-in-Err-clause-refused c =
    read_fails c.keys.key-iterator c.next.new.self c.in-Some.key.now c.in-Some.value.now (members_view c.args.table.now.entries)
    c.keys.names.entries.items c.in-Err.fault (search rules) c.keys.invariant.2 (rw c.as_str.ensures.value at c.in-Err.ensures.refused)

pub keys-preserved : goal.keys-preserved
keys-preserved c = (
  tt,
  tt,
  read_more c.keys.key-iterator c.next.new.self c.in-Some.key.now c.in-Some.value.now (members_view c.args.table.now.entries)
      c.keys.names.entries.items c.add.new.self.entries.items (search rules) c.keys.invariant.2
      (rw c.as_str.ensures.value at c.in_default.ensures.added),
)
