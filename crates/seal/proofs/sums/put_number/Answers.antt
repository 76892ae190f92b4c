use Rattle.seal.proofs.Spelled.{written}
use Rattle.seal.proofs.sums.put_number.Goals as goal

pub returns : goal.returns
returns c = written c.args.bytes.now c.write_u64.new.buf c.args.at c.args.n c.requires c.write_u64.ensures
