use Rattle.std.proofs.Common.{◌≡◌, ◌+◌, ◌≤◌, [], drop, false, length, true}
use Rattle.shell.proofs.Words.{going_on}
use Rattle.shell.proofs.reading.spaced_words.Given as goal

abbrev pub invariant-loop-byte : goal.invariant-loop-byte
invariant-loop-byte l = record {
  same : going_on l.words.items l.is_apart (drop l.byte-index l.text) ≡ going_on [] false l.text;
  room : length l.words.items ≤ l.byte-index;
  apart : l.is_apart ≡ true → length l.words.items + 1 ≤ l.byte-index;
}
