use Rattle.description.proofs.Names.{drop, replicate, All, set_each}
use Rattle.std.proofs.Common.{◌≡◌, ◌<◌, ◌^◌}
use Rattle.description.proofs.objects.words_of.Given as goal

abbrev pub invariant-loop-entry : goal.invariant-loop-entry
invariant-loop-entry l = record {
  written : set_each (λ w. w.index) (λ w. w.word) (drop l.entry-index l.entries) l.words
      ≡ set_each (λ w. w.index) (λ w. w.word) l.entries (replicate 512 0);
  fits : All (λ w. w < 2 ^ 64) l.words;
}
