use Rattle.std.proofs.Common.{rules}
use Rattle.names.specs.Entries.{entries}
use Rattle.names.specs.Numbered.{are_known, numbered_words}
use Rattle.names.specs.declared.numbering.Place.TheVariants.{Command}
use Rattle.script.specs.Reading.{words_of}
use Rattle.names.proofs.TypedNames.{known_more, numbered_more}
use Rattle.names.proofs.numbering.number_objects.Goals as goal

pub loop-word-preserved : goal.loop-word-preserved
loop-word-preserved c =
    let names = entries c.args.names.now in
    record {
      numbered = numbered_more names c.loop-word.place c.loop-word.words c.next.new.self c.in-Some.word.now (search rules)
          c.after-place.result c.loop-word.numbered.items c.push_word.new.line.items c.push.new.line.items
          (numbered_words names Command (words_of c.args.line.now)) c.after-place.ensures (search rules) (search rules)
          c.loop-word.invariant.numbered;
      known = known_more names c.loop-word.place c.loop-word.words c.next.new.self c.in-Some.word.now (search rules)
          c.after-place.result (are_known names Command (words_of c.args.line.now)) c.after-place.ensures (search rules)
          c.loop-word.invariant.known;
    }
