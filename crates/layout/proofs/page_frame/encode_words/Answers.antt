use Rattle.layout.proofs.Names.{number, words_bytes}
use Rattle.layout.proofs.page_frame.encode_words.Goals as goal

pub returns : goal.returns
unfolding words_bytes number
returns c = c.write_u64_into.ensures
