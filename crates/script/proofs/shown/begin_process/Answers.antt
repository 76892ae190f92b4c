use Rattle.script.proofs.Names.{capability_text, state_text}
use Rattle.script.proofs.Texts.{process_text}
use Rattle.script.proofs.shown.begin_process.Goals as goal

pub returns-clause-text : goal.returns-clause-text
returns-clause-text c =
    let root = c.args.root.now in
    rw (
      c.capability.ensures.text,
      c.word-3.ensures,
      c.numbers.ensures.text,
      c.word-2.ensures,
      c.named-2.ensures.text,
      c.from.ensures,
      c.word.ensures,
      c.state_word.ensures.word,
      c.named.ensures.text,
      c.begin_heading.ensures.text,
    )
    (process_text c.args.number c.args.owner root.annex root.key (state_text root.state) root.words (capability_text root.space))
