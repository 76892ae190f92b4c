use Rattle.image_writer.proofs.Names.{ℕ, length, frame_at, frame_bytes, frames_in, AreEnded, AreIn}
use Rattle.std.proofs.Common.{◌≡◌}
use Rattle.image_writer.proofs.blocks.fill_block.Given as goal

abbrev pub invariant-loop-k : goal.invariant-loop-k
invariant-loop-k l =
    AreIn l.home (λ (a : ℕ). frame_bytes l.home.geometry a (frame_at (frames_in l.headers l.contents) a)) l.first l.k l.block
    × AreEnded l.home l.first l.k l.block × (length l.block ≡ 4608)
