-- The renewed numbers: those whose allocation counts rose since the last checkpoint or restart.
use Rattle.recovery.proofs.Names.{ℕ, Bool, false, not, Option, None, Some, List, length, replicate, slice_index_or, refl, ap, sym, arith, eq-eqb, ext_get_or}
use Rattle.recovery.proofs.Names.{get_or-replicate, length-replicate, get_or-map-range_with_len, length-map-range_with_len, Frame, Geometry, frame_at}
use Rattle.recovery.proofs.Names.{untouched, Snapshots, FrozenFrames, base_of, renewed_since}
use Rattle.std.proofs.Common.{◌≡◌, ◌+◌, ◌<◌, ◌==◌, ◌∙◌}

-- the allocation count of a number in a list of frames
abbrev pub allocations_at : List Frame → ℕ → ℕ
allocations_at fs n = (frame_at fs n).header.allocations

-- whether the allocation count of a number differs between two lists of frames
abbrev has_risen : List Frame → List Frame → ℕ → Bool
has_risen base fs n = not (allocations_at fs n == allocations_at base n)

pub renewed_at : (base fs : List Frame) (n : ℕ) → n < length base →
    slice_index_or (renewed_since base fs) n false ≡ not (allocations_at fs n == allocations_at base n)
unfolding renewed_since
renewed_at base fs n inside = get_or-map-range_with_len (has_risen base fs) 0 (length base) n n false inside (omega arith)

pub renewed_length : (base fs : List Frame) → length (renewed_since base fs) ≡ length base
unfolding renewed_since
renewed_length base fs = length-map-range_with_len (has_risen base fs) 0 (length base)

-- compared with itself, no number is renewed
pub none_renewed : (g : Geometry) (fs : List Frame) → length fs ≡ g.nodes + g.pages → renewed_since fs fs ≡ untouched g
unfolding untouched
none_renewed g fs count =
    let size = renewed_length fs fs in
    ext_get_or false (renewed_since fs fs) (replicate (g.nodes + g.pages) false)
    (size ∙ (count ∙ sym (length-replicate {A = Bool} (g.nodes + g.pages) false)))
    (λ n inside.
    let known : n < length fs = omega (arith, inside, size) in
    renewed_at fs fs n known ∙ (ap (λ (b : Bool). not b) (eq-eqb (allocations_at fs n) (allocations_at fs n) refl)
    ∙ sym (get_or-replicate (g.nodes + g.pages) n false false (omega (arith, known, count)))))

-- the frames of the last checkpoint if one is frozen, else the saved frames
abbrev pub base_by : List Frame → Option FrozenFrames → List Frame
base_by saved o = elim o [ None ↦ saved | Some f ↦ f.frames ]

pub base_frozen : (a : Snapshots FrozenFrames) (f : FrozenFrames) → a.frozen ≡ Some f → base_of a ≡ f.frames
base_frozen a f is = ap (base_by a.saved.frames) is

pub base_saved : (a : Snapshots FrozenFrames) → a.frozen ≡ None → base_of a ≡ a.saved.frames
base_saved a is = ap (base_by a.saved.frames) is
