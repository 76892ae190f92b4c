use Rattle.image_drawer.specs.Graph.{word_of_state}
use Rattle.image_drawer.proofs.Texts.{process_put}
use Rattle.image_drawer.proofs.part.begin_process.Goals as goal

pub returns-clause-text : goal.returns-clause-text
returns-clause-text c =
    rw (
      c.named-2.ensures.text,
      c.push-2.ensures,
      c.word_of.ensures.word,
      c.push.ensures,
      c.named.ensures.text,
      c.number.ensures.text,
      c.word.ensures,
      c.begin-line.ensures.text,
    )
    (process_put c.args.process.now.root c.args.process.now.annex c.args.process.now.key (word_of_state c.args.process.now.state))
