use Rattle.space_bank.proofs.Names.{ℕ, true, false, length, take, slice_index_or, is_member}
use Rattle.std.proofs.Common.{◌≡◌, ◌++◌}
use Rattle.std.specs.Prelude.{if◌then◌else◌}
use Rattle.space_bank.proofs.marking.mark_free.Given as goal

abbrev pub invariant-loop-number : goal.invariant-loop-number
invariant-loop-number l = record {
  nodes : length l.nodes ≡ length l.initial.nodes;
  pages : length l.pages ≡ length l.initial.pages;
  marks : (n : ℕ) → slice_index_or (l.nodes ++ l.pages) n false
      ≡ (if is_member (take l.number-index l.numbers) n then true else slice_index_or (l.initial.nodes ++ l.initial.pages) n false);
}
