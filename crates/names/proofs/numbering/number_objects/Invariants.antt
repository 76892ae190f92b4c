use Rattle.std.proofs.Common.{◌≡◌, ◌++◌, length}
use Rattle.names.specs.Entries.{entries}
use Rattle.names.specs.Numbered.{are_known, numbered_words}
use Rattle.names.specs.declared.numbering.Place.TheVariants.{Command}
use Rattle.script.specs.Reading.{words_of}
use Rattle.names.proofs.numbering.number_objects.Given as goal

abbrev pub invariant-loop-word : goal.invariant-loop-word
invariant-loop-word l = record {
  numbered : l.numbered.items ++ numbered_words (entries l.names) l.place l.words ≡
      numbered_words (entries l.names) Command (words_of l.line);
  known : are_known (entries l.names) Command (words_of l.line) ≡ are_known (entries l.names) l.place l.words;
}

abbrev pub decreases-loop-word : goal.decreases-loop-word
decreases-loop-word l = length l.words
