use Rattle.description.proofs.Names.{ap, arith, refl, rules, slice_index_or, subst, sym, All, All-replicate, All-set, set_each, words_of}
use Rattle.std.proofs.Common.{◌<◌, ◌^◌}
use Rattle.description.proofs.Lists.{each_done, each_wrote}
use Rattle.description.proofs.objects.words_of.Goals as goal

pub loop-entry-init : goal.loop-entry-init
loop-entry-init c = record {
  written = ap (λ xs. set_each (λ w. w.index) (λ w. w.word) c.args.entries.now xs) c.in_ok-words.ensures;
  fits = subst (All (λ w. w < 2 ^ 64)) (sym c.in_ok-words.ensures) (All-replicate (λ w. w < 2 ^ 64) 512 0 (omega arith));
}

pub loop-entry-preserved : goal.loop-entry-preserved
loop-entry-preserved c =
    let entry = slice_index_or c.args.entries.now c.loop-entry.entry-index (record { index = 0; word = 0 }) in
    let fits : entry.word < 2 ^ 64 = search rules in
    record {
      written = each_wrote (λ w. w.index) (λ w. w.word) _ _ _ _ _ _ _ c.loop-entry-test.true c.set.ensures.set refl
          c.loop-entry.invariant.written;
      fits = subst (All (λ w. w < 2 ^ 64)) (sym c.set.ensures.set) (All-set (λ w. w < 2 ^ 64) _ _ _ fits c.loop-entry.invariant.fits);
    }

pub returns-clause-words : goal.returns-clause-words
unfolding words_of
returns-clause-words c = each_done (λ w. w.index) (λ w. w.word) _ _ _ _ c.loop-entry-test.false c.loop-entry.invariant.written

pub returns-clause-fits : goal.returns-clause-fits
unfolding words_of
returns-clause-fits c = rw (← each_done (λ w. w.index) (λ w. w.word) _ _ _ _ c.loop-entry-test.false c.loop-entry.invariant.written)
    c.loop-entry.invariant.fits
