use Rattle.vezhnake.proofs.Names.{ℕ, true, false, map, take, drop, length, command_of, ServesEach, refuses_at}
use Rattle.std.proofs.Common.{◌≡◌, ◌<◌}
use Rattle.vezhnake.proofs.serving.serve_each.Given as goal

abbrev pub invariant-loop-index : goal.invariant-loop-index
invariant-loop-index g l = record {
  served : ServesEach g.S.ObjectStore.view g.S.Frames.parts l.fn.kernel l.kernel (take l.index (map command_of l.commands))
      (take l.index l.replies);
  rest : drop l.index l.replies ≡ drop l.index l.fn.replies;
  sized : length l.replies ≡ length l.fn.replies;
  goes_on : l.stops ≡ true → (k : ℕ) → k < l.index → refuses_at l.replies k ≡ false;
}
