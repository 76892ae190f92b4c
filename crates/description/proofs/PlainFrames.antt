-- The plain frames of objects, by number.
use Rattle.description.proofs.Names.{get_or-map, frame_at, free, object_at, Object, plain_frame, plain_frames}
use Rattle.std.specs.Prelude.{ℕ, List, ◌≡◌}

pub plain_at : (os : List Object) (n : ℕ) → frame_at (plain_frames os) n ≡ plain_frame (object_at os n)
unfolding plain_frames
plain_at os n = get_or-map plain_frame os n free
