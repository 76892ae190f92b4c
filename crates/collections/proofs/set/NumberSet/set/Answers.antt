use Rattle.std.proofs.Common.{rules}
use Rattle.std.proofs.Common.{◌∙◌}
use Rattle.std.proofs.lemmas.List.{with_items_is}
use Rattle.collections.proofs.Marks.{marks_set, set_summed}
use Rattle.collections.proofs.set.NumberSet.set.Goals as goal

pub invariant_of-self : goal.invariant_of-self
invariant_of-self c =
    let stored = with_items_is c.self.inside.words c.put_bit-word.new.words
    (c.put_bit-word.ensures.put.same_length ∙ c.deref_mut.ensures.len) in
    let stored_summary = with_items_is c.self.inside.summary c.put_bit.new.words
    (c.put_bit.ensures.put.same_length ∙ c.deref_mut-2.ensures.len) in
    set_summed _ _ _ c.self.invariant _ c.self.view_is _ _ c.requires _ _ c.deref_mut.ensures.value c.put_bit-word.ensures.put _ stored
    _ _ _ c.deref_mut-2.ensures.value c.put_bit-word.ensures.word c.put_bit.ensures.put _ stored_summary

pub returns : goal.returns
returns c = search (rules, with_items_is, marks_set)
