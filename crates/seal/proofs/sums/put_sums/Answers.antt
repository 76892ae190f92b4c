use Rattle.seal.proofs.Spelled.{sums_written}
use Rattle.seal.proofs.sums.put_sums.Goals as goal

pub returns : goal.returns
returns c =
    sums_written c.args.bytes.now c.put_number.new.bytes c.put_number-2.new.bytes c.put_number-3.new.bytes c.args.at c.args.sums c.requires
    c.put_number.ensures c.put_number-2.ensures c.put_number-3.ensures
