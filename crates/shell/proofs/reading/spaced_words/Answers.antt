use Rattle.std.proofs.Common.{◌∙◌}
use Rattle.model.specs.Text.{spaced}
use Rattle.shell.specs.Lines.{words_in}
use Rattle.shell.proofs.Words.{all_read, words_read}
use Rattle.shell.proofs.reading.spaced_words.Goals as goal

pub returns-clause-words : goal.returns-clause-words
returns-clause-words c = all_read c.args.text.now c.loop-byte.words.items (spaced (words_in c.args.text.now)) c.loop-byte.is_apart
    c.loop-byte.byte-index
    c.loop-byte-test.false (c.loop-byte.invariant.same ∙ words_read c.args.text.now)
