-- Frames without their sums and seals.
use Rattle.layout.proofs.Names.{ℕ, Bool, List, length, take, drop, true, false, sym, ap, refl, arith, take_at, drop_at, take-append-drop, length-append}
use Rattle.layout.proofs.Names.{length-take-le, append_assoc, zeros, front_bytes, words_bytes, page_words, page_frame_bytes, Frame, ObjectHeader, header_from}
use Rattle.layout.proofs.Names.{blanked, role_number}
use Rattle.std.proofs.Common.{◌≡◌, ◌≤◌, ◌++◌, ◌∙◌}
use Rattle.layout.proofs.FrameReaders.{header_before}
use Rattle.layout.proofs.Frames.{front_bytes_are, length-front}
use Rattle.layout.proofs.Numbers.{length-zeros}

-- nothing is blanked without sums
pub unblanked : (bytes : List ℕ) → blanked false bytes ≡ bytes
unfolding blanked
unblanked bytes = refl

pub front_long : (h : ObjectHeader) → length (front_bytes h) ≡ 32
front_long h = ap length (front_bytes_are h) ∙ length-front (role_number h.role) h

before_words : (bytes : List ℕ) → 32 ≤ length bytes → length (take 32 bytes ++ zeros 480) ≡ 512
before_words bytes le =
    omega (arith, length-append (take 32 bytes) (zeros 480), length-take-le 32 bytes le, length-zeros 480)

-- the first 32 bytes stay
pub blanked_front : (has_sums : Bool) (bytes : List ℕ) → 32 ≤ length bytes → take 32 (blanked has_sums bytes) ≡ take 32 bytes
unfolding blanked
blanked_front false bytes le = refl
blanked_front true bytes le =
    ap (take 32) (append_assoc (take 32 bytes) (zeros 480) (drop 512 bytes))
    ∙ take_at (take 32 bytes) (zeros 480 ++ drop 512 bytes) 32 (length-take-le 32 bytes le)

pub blanked_long : (has_sums : Bool) (bytes : List ℕ) → 32 ≤ length bytes → 32 ≤ length (blanked has_sums bytes)
unfolding blanked
blanked_long false bytes le = le
blanked_long true bytes le =
    omega (arith, length-append (take 32 bytes ++ zeros 480) (drop 512 bytes), before_words bytes le)

-- the words stay
pub blanked_words : (has_sums : Bool) (bytes : List ℕ) → 32 ≤ length bytes → drop 512 (blanked has_sums bytes) ≡ drop 512 bytes
unfolding blanked
blanked_words false bytes le = refl
blanked_words true bytes le = drop_at (take 32 bytes ++ zeros 480) (drop 512 bytes) 512 (before_words bytes le)

-- bytes with the same front and words are blanked to the same bytes
pub blanked_same : (xs ys : List ℕ) → take 32 xs ≡ take 32 ys → drop 512 xs ≡ drop 512 ys → blanked true xs ≡ blanked true ys
unfolding blanked
blanked_same xs ys front words = rw (front, words) refl

-- a frame of versions 1 and 2 has zeros where the sums and the seal are
pub blanked_page : (has_sums : Bool) (f : Frame) → blanked has_sums (page_frame_bytes f) ≡ page_frame_bytes f
unfolding blanked page_frame_bytes
blanked_page false f = refl
blanked_page true f =
    let front : List ℕ = front_bytes f.header in
    let words : List ℕ = words_bytes (page_words f.content) in
    let before : take 32 ((front ++ zeros 480) ++ words) ≡ front =
    ap (take 32) (append_assoc front (zeros 480) words) ∙ take_at front (zeros 480 ++ words) 32 (front_long f.header) in
    let behind : drop 512 ((front ++ zeros 480) ++ words) ≡ words =
    drop_at (front ++ zeros 480) words 512 (omega (arith, length-append front (zeros 480), front_long f.header, length-zeros 480)) in
    rw (before, behind) refl

-- the front of a page's frame
pub page_front : (f : Frame) → take 32 (page_frame_bytes f) ≡ front_bytes f.header
unfolding page_frame_bytes
page_front f =
    let front : List ℕ = front_bytes f.header in
    let words : List ℕ = words_bytes (page_words f.content) in
    ap (take 32) (append_assoc front (zeros 480) words) ∙ take_at front (zeros 480 ++ words) 32 (front_long f.header)

-- the header of a frame is in its first 32 bytes
header_in_front : (bytes : List ℕ) → 32 ≤ length bytes → header_from bytes ≡ header_from (take 32 bytes)
header_in_front bytes le =
    ap header_from (sym (take-append-drop 32 bytes))
    ∙ header_before (take 32 bytes) (drop 32 bytes) (omega (arith, length-take-le 32 bytes le))

pub blanked_header : (has_sums : Bool) (bytes : List ℕ) → 32 ≤ length bytes → header_from (blanked has_sums bytes) ≡ header_from bytes
blanked_header has_sums bytes le =
    header_in_front (blanked has_sums bytes) (blanked_long has_sums bytes le) ∙ ap header_from (blanked_front has_sums bytes le)
    ∙ sym (header_in_front bytes le)
