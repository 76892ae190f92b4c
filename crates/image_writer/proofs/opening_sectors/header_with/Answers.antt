use Rattle.image_writer.proofs.Names.{arith, words_of}
use Rattle.image_writer.proofs.opening_sectors.header_with.Goals as goal

pub returns-then-row-clause-words : goal.returns-then-row-clause-words
returns-then-row-clause-words c =
    words_of (record { header = c.args.header; root = c.args.root; directory = c.args.directory }) (omega arith) (omega arith)
    (omega arith) (omega arith) (omega arith) (omega arith) (omega arith) (omega arith) (omega arith) (omega arith)

pub returns-else-row-clause-words : goal.returns-else-row-clause-words
returns-else-row-clause-words c =
    words_of (record {
      header = c.args.header;
      root = record { a = 0; b = 0; c = 0 };
      directory = record { a = 0; b = 0; c = 0 };
    }) (omega arith) (omega arith) (omega arith) (omega arith) (omega arith) (omega arith) (omega arith) (omega arith) (omega arith)
    (omega arith)
