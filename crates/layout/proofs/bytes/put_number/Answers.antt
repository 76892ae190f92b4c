use Rattle.layout.proofs.Names.{rules, number}
use Rattle.layout.proofs.Numbers.{written, written_before, written_after}
use Rattle.layout.proofs.bytes.put_number.Goals as goal

pub returns-clause-before : goal.returns-clause-before
unfolding number
returns-clause-before c = search (rules, written_before, written)

pub returns-clause-after : goal.returns-clause-after
unfolding number
returns-clause-after c =
    written_after c.args.bytes.now _ c.args.at c.args.n c.requires
    (written c.args.bytes.now c.write_u64.new.buf c.args.at c.args.n c.requires c.write_u64.ensures)
