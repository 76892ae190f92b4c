use Rattle.layout.proofs.Names.{Sums, rules, sym, false≢true}
use Rattle.std.proofs.Common.{◌≡◌, ◌∙◌, Some, None, IsTrue}
use Rattle.std.proofs.lemmas.Option.{same_Some}
use Rattle.layout.proofs.SummedPages.{found_summed, summed_found, sums_equal}
use Rattle.layout.proofs.sealed.page.is_summed.Goals as goal

pub returns-in-Some : goal.returns-in-Some
returns-in-Some c =
    let block = c.args.block.now in
    let words = c.sums_of-words.ensures in
    let named = c.named_sums.ensures in (
      λ eq.
          let same : c.in-Some.named ≡ c.sums_of-words.result = search rules in
          found_summed block c.sums_of-words.result c.named_sums.result words.sums words.fit named.only c.in-Some.ensures.some same,
      λ is.
          let same : c.in-Some.named ≡ c.sums_of-words.result =
          same_Some _ _
          (sym c.in-Some.is ∙ summed_found block c.sums_of-words.result c.named_sums.result words.sums words.fit named.only is) in
          c.eq.ensures ∙ sums_equal c.in-Some.named c.sums_of-words.result same,
    )

pub returns-in-None : goal.returns-in-None
returns-in-None c =
    let block = c.args.block.now in
    let words = c.sums_of-words.ensures in
    let named = c.named_sums.ensures in (
      λ never. absurd (false≢true never),
      λ is.
          let never : None ≡ Some c.sums_of-words.result =
          sym c.in-None.is ∙ summed_found block c.sums_of-words.result c.named_sums.result words.sums words.fit named.only is in
          absurd cc,
    )
