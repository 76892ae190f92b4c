-- Where frames lie in a block.
use Rattle.layout.proofs.Names.{Bool, ℕ, List, length, take, drop, inl, inr, sym, ap, refl, arith, true, false, nat_lt, nat_tests, drop_at, take_at}
use Rattle.layout.proofs.Names.{length-append, length-replicate, length-take-le, length-drop, take-append-drop, take-append-le, drop-append-le, between}
use Rattle.layout.proofs.Names.{between_is, drop-put_mid, drop-drop, drop-take, take-take, take-put_mid_below, append-nil, take_all, take_rest, append_assoc}
use Rattle.layout.proofs.Names.{take-replicate, drop-replicate, Frame, Geometry, ObjectHeader, Shape, Image, replicate, replicate-append-replicate, zeros}
use Rattle.layout.proofs.Names.{front_bytes, slots_bytes, slots_of, node_frame_bytes, page_frame_bytes, frame_bytes, frame_length, shape_bytes, shape_end}
use Rattle.layout.proofs.Names.{AreBeside, IsBlankFrom, IsShapeFor, number, words_bytes, page_words, IsFrameOf, BadImage, [], cases_lt, frame_from}
use Rattle.layout.proofs.Names.{HasZerosBeside, header_from, sectors_from, shaped_at, IsHeaderAt, Result, OnOk, subst, IfOk, IfErr, BadFrame, IsPageShape}
use Rattle.layout.proofs.Names.{blanked}
use Rattle.std.proofs.Common.{◌≡◌, ◌+◌, ◌-◌, ◌*◌, ◌<◌, ◌≤◌, ◌++◌, ◌∙◌, ◌∷◌}
use Rattle.std.specs.Prelude.{if◌then◌else◌}
use borrow.Rule.Slice.PartMut.{put_mid}
use Rattle.layout.proofs.Blanked.{blanked_header, blanked_long, blanked_page, unblanked}
use Rattle.layout.proofs.FrameReaders.{header_before, header_is}
use Rattle.layout.proofs.Frames.{drop_zeros, mid_put}
use Rattle.layout.proofs.Numbers.{length-number, length-zeros}

zeros_more : (m n : ℕ) → zeros m ++ zeros n ≡ zeros (m + n)
unfolding zeros
zeros_more m n = replicate-append-replicate m n 0

no_bytes : (bytes : List ℕ) → length bytes ≡ 0 → bytes ≡ zeros 0
unfolding zeros
no_bytes [] e = refl
no_bytes (b ∷ bs) e = absurd (omega (arith, e))

-- ---- the end of a frame

-- the bytes of a node's frame from 800 on are zeros
node_last : (f : Frame) (bytes : List ℕ) → bytes ≡ node_frame_bytes f → length bytes ≡ 1024 → drop 800 bytes ≡ zeros 224
unfolding node_frame_bytes
node_last f bytes e size =
    let front : List ℕ = front_bytes f.header in
    let slots : List ℕ = slots_bytes (slots_of f.content) in
    let whole : bytes ≡ (front ++ slots) ++ zeros 224 = e in
    ap (drop 800) whole ∙
    drop_at (front ++ slots) (zeros 224) 800 (omega (
      arith,
      ap length whole,
      size,
      length-append (front ++ slots) (zeros 224),
      length-zeros 224,
    ))

zeros_front : (k n : ℕ) → k ≤ n → take k (zeros n) ≡ zeros k
unfolding zeros
zeros_front k n le = take-replicate k n 0 le

node_rest : (f : Frame) (bytes : List ℕ) (k : ℕ) → bytes ≡ node_frame_bytes f → length bytes ≡ 1024 → 800 ≤ k → k ≤ 1024 →
    drop k bytes ≡ zeros (1024 - k)
node_rest f bytes k e size low high =
    let at : 800 + (k - 800) ≡ k = omega (arith, low) in
    let few : 224 - (k - 800) ≡ 1024 - k = omega (arith, low, high) in
    ap (λ (n : ℕ). drop n bytes) (sym at) ∙ sym (drop-drop (k - 800) 800 bytes) ∙ ap (drop (k - 800)) (node_last f bytes e size)
    ∙ drop_zeros (k - 800) 224 ∙
    ap zeros few

is_node : (n nodes : ℕ) → n < nodes → nat_lt n nodes ≡ true
is_node n nodes lt = grind (arith, nat_tests)

is_page : (n nodes : ℕ) → nodes ≤ n → nat_lt n nodes ≡ false
is_page n nodes le = grind (arith, nat_tests)

-- the bytes of a frame that its block leaves out are zeros
rest_of : (g : Geometry) (n : ℕ) (s : Shape) (f : Frame) (bytes : List ℕ) → IsShapeFor g n s → bytes ≡ frame_bytes g n f →
    length bytes ≡ 512 * frame_length g n → (s.bytes ≤ length bytes) × (drop s.bytes bytes ≡ zeros (length bytes - s.bytes))
    × (length bytes - s.bytes ≡ 1024 - s.bytes)
rest_of g n s f bytes fits e size = elim (cases_lt n g.nodes) [
  | inl lt ↦
      let long : length bytes ≡ 1024 = size ∙ ap (λ test. 512 * (if test then 2 else 9)) (is_node n g.nodes lt) in
      let node : bytes ≡ node_frame_bytes f = e ∙ ap (λ test. if test then node_frame_bytes f else page_frame_bytes f)
      (is_node n g.nodes lt) in
      let most = (fits.node lt).0 in (
        omega (arith, most, long),
        node_rest f bytes s.bytes node long fits.least most ∙ ap (λ (m : ℕ). zeros (m - s.bytes)) (sym long),
        omega (arith, long),
      )
  | inr le ↦
      let long : length bytes ≡ 4608 = size ∙ ap (λ test. 512 * (if test then 2 else 9)) (is_page n g.nodes le) in
      let whole : s.bytes ≡ 4608 = (fits.page le).2 in
      let none : length bytes - s.bytes ≡ 0 = omega (arith, long, whole) in (
        omega (arith, long, whole),
        no_bytes (drop s.bytes bytes) (length-drop s.bytes bytes ∙ none) ∙ ap zeros (sym none),
        omega (arith, long, whole),
      )
]

-- a frame is its bytes in a block, followed by the zeros that the block leaves out
trimmed : (g : Geometry) (n : ℕ) (s : Shape) (f : Frame) (bytes : List ℕ) → IsShapeFor g n s → bytes ≡ frame_bytes g n f →
    length bytes ≡ 512 * frame_length g n → take s.bytes bytes ++ zeros (1024 - s.bytes) ≡ bytes
trimmed g n s f bytes fits e size =
    let rest = rest_of g n s f bytes fits e size in
    ap (λ (end : List ℕ). take s.bytes bytes ++ end) (ap zeros (sym rest.2) ∙ sym rest.1) ∙ take-append-drop s.bytes bytes

-- a frame as it is encoded has no sums
unsummed : (g : Geometry) (n : ℕ) (s : Shape) (f : Frame) (bytes : List ℕ) → IsShapeFor g n s → bytes ≡ frame_bytes g n f →
    length bytes ≡ 512 * frame_length g n → blanked s.has_sums (take s.bytes bytes) ≡ take s.bytes bytes
unsummed g n s f bytes fits e size = elim (cases_lt n g.nodes) [
  | inl lt ↦
      subst (λ (b : Bool). blanked b (take s.bytes bytes) ≡ take s.bytes bytes) (sym (fits.node lt).2) (unblanked (take s.bytes bytes))
  | inr le ↦
      let rest = rest_of g n s f bytes fits e size in
      let long : length bytes ≡ 4608 = size ∙ ap (λ test. 512 * (if test then 2 else 9)) (is_page n g.nodes le) in
      let whole : take s.bytes bytes ≡ bytes = take_all s.bytes bytes (omega (arith, long, (fits.page le).2)) in
      let page : bytes ≡ page_frame_bytes f = e ∙ ap (λ test. if test then node_frame_bytes f else page_frame_bytes f)
      (is_page n g.nodes le) in
      ap (blanked s.has_sums) (whole ∙ page) ∙ blanked_page s.has_sums f ∙ sym (whole ∙ page)
]

-- if a shape fits a number, a block of 4608 bytes can hold the number's frame from the shape's offset on
pub has_room : (g : Geometry) (n : ℕ) (s : Shape) → IsShapeFor g n s → s.offset + 512 * frame_length g n ≤ 4608
has_room g n s fits = elim (cases_lt n g.nodes) [
  | inl lt ↦
      let node = fits.node lt in
      subst (λ test. s.offset + 512 * (if test then 2 else 9) ≤ 4608) (sym (is_node n g.nodes lt))
      (omega (arith, fits.inside, fits.least, node.1))
  | inr le ↦ subst (λ test. s.offset + 512 * (if test then 2 else 9) ≤ 4608) (sym (is_page n g.nodes le))
      (omega (arith, (fits.page le).1))
]

-- ---- bytes are put into a block

-- the bytes from at + k on, after n bytes at `at` were replaced by ys
behind_put : (at k n : ℕ) (xs ys : List ℕ) → at ≤ length xs → drop (at + k) (put_mid at n xs ys) ≡ drop k (ys ++ drop (at + n) xs)
behind_put at k n xs ys low =
    ap (drop (at + k)) (mid_put at n xs ys ∙ append_assoc (take at xs) ys (drop (at + n) xs))
    ∙ sym (drop-drop k at (take at xs ++ (ys ++ drop (at + n) xs))) ∙
    ap (drop k) (drop_at (take at xs) (ys ++ drop (at + n) xs) at (length-take-le at xs low))

piece : (at k : ℕ) (xs : List ℕ) → between at (at + k) xs ≡ take k (drop at xs)
piece at k xs = let size : at + k - at ≡ k = omega arith in ap (λ (m : ℕ). take m (drop at xs)) size

pub length-piece : (at k : ℕ) (xs : List ℕ) → at + k ≤ length xs → length (between at (at + k) xs) ≡ k
length-piece at k xs le = ap length (piece at k xs) ∙ length-take-le k (drop at xs) (omega (arith, le, length-drop at xs))

module _ (s : Shape) (xs ys : List ℕ) (n : ℕ) where
  -- the frame of shape s in a block after bytes were put at its offset: these bytes, and the zeros left out
  pub put_there : s.offset ≤ length xs → s.bytes ≤ length ys → shape_bytes s (put_mid s.offset n xs ys)
      ≡ blanked s.has_sums (take s.bytes ys) ++ zeros (1024 - s.bytes)
  put_there low few =
      let here = behind_put s.offset 0 n xs ys low in
      let at : s.offset + 0 ≡ s.offset = omega arith in
      ap (λ (b : List ℕ). blanked s.has_sums b ++ zeros (1024 - s.bytes)) (piece s.offset s.bytes (put_mid s.offset n xs ys) ∙
      ap (take s.bytes) (ap (λ (m : ℕ). drop m (put_mid s.offset n xs ys)) (sym at) ∙ here)
      ∙ take-append-le s.bytes ys (drop (s.offset + n) xs) few)

  -- putting the bytes of shape s leaves the frame of a shape beside it unchanged
  pub others_stay : (t : Shape) → shape_end s ≤ length xs → n ≡ s.bytes → length ys ≡ n → AreBeside s t →
      shape_bytes t (put_mid s.offset n xs ys) ≡ shape_bytes t xs
  others_stay t le whole size (inl behind) =
      ap (λ (b : List ℕ). blanked t.has_sums (take (shape_end t - t.offset) b) ++ zeros (1024 - t.bytes))
      (drop-put_mid s.offset n xs ys t.offset (omega (arith, behind, whole)) (omega (arith, le)) size)
  others_stay t le whole size (inr before) =
      ap (λ (b : List ℕ). blanked t.has_sums b ++ zeros (1024 - t.bytes)) (between_is (put_mid s.offset n xs ys) t.offset (shape_end t) ∙
      ap (drop t.offset) (take-put_mid_below s.offset n xs ys (shape_end t) before (omega (arith, le)))
      ∙ sym (between_is xs t.offset (shape_end t)))

-- after a frame was copied from another block, it is the one of that block
pub copied_there : (s : Shape) (from xs ys : List ℕ) (n : ℕ) → shape_end s ≤ length from → s.offset ≤ length xs →
    ys ≡ between s.offset (shape_end s) from → shape_bytes s (put_mid s.offset n xs ys) ≡ shape_bytes s from
copied_there s from xs ys n le low is =
    let size : length ys ≡ s.bytes = ap length is ∙ length-piece s.offset s.bytes from le in
    put_there s xs ys n low (omega (arith, size)) ∙ ap (λ (b : List ℕ). blanked s.has_sums b ++ zeros (1024 - s.bytes))
    (take_all s.bytes ys (omega (arith, size)) ∙ is)

-- facts about a block after frame f was put into it
module _ (g : Geometry) (number : ℕ) (s : Shape) (f : Frame) (xs ys : List ℕ) (n : ℕ) (fits : IsShapeFor g number s)
    (is : ys ≡ frame_bytes g number f)
    (size : length ys ≡ 512 * frame_length g number) (whole : n ≡ length ys) (low : s.offset + n ≤ length xs) where
  pub frame_put : shape_bytes s (put_mid s.offset n xs ys) ≡ frame_bytes g number f
  frame_put =
      put_there s xs ys n (omega (arith, low)) (rest_of g number s f ys fits is size).0
      ∙ ap (λ (b : List ℕ). b ++ zeros (1024 - s.bytes)) (unsummed g number s f ys fits is size) ∙ trimmed g number s f ys fits is size ∙ is

  length-put : length (put_mid s.offset n xs ys) ≡ length xs
  length-put =
      let front : List ℕ = take s.offset xs in
      let end : List ℕ = drop (s.offset + n) xs in
      ap length (mid_put s.offset n xs ys) ∙ ap length (append_assoc front ys end) ∙ length-append front (ys ++ end) ∙
      omega (arith, length-append ys end, length-take-le s.offset xs (omega (arith, low)), length-drop (s.offset + n) xs, whole, low)

  pub blank_behind : IsBlankFrom (shape_end s) xs → IsBlankFrom (shape_end s) (put_mid s.offset n xs ys)
  blank_behind blank =
      let rest = rest_of g number s f ys fits is size in
      let far : s.offset + s.bytes + (n - s.bytes) ≡ s.offset + n = omega (arith, rest.0, whole) in
      let tail : drop (s.offset + n) xs ≡ zeros (length xs - (s.offset + n)) =
      ap (λ (m : ℕ). drop m xs) (sym far) ∙ sym (drop-drop (n - s.bytes) (s.offset + s.bytes) xs) ∙ ap (drop (n - s.bytes)) blank ∙
      drop_zeros (n - s.bytes) (length xs - (s.offset + s.bytes)) ∙ ap zeros (omega (arith, rest.0, whole)) in
      let sum : length ys - s.bytes + (length xs - (s.offset + n)) ≡ length (put_mid s.offset n xs ys) - shape_end s =
      omega (arith, length-put, rest.0, whole, low) in
      behind_put s.offset s.bytes n xs ys (omega (arith, low)) ∙ drop-append-le s.bytes ys (drop (s.offset + n) xs) rest.0
      ∙ ap (λ (b : List ℕ). b ++ drop (s.offset + n) xs) rest.1 ∙ ap (λ (b : List ℕ). zeros (length ys - s.bytes) ++ b) tail
      ∙ zeros_more (length ys - s.bytes) (length xs - (s.offset + n)) ∙ ap zeros sum

-- ---- a node's frame by itself

pub unpacked : (s : Shape) (block node copied bytes : List ℕ) → shape_end s ≤ length block → s.bytes ≤ 1024 → s.has_sums ≡ false
    → length node ≡ 1024 → copied ≡ between s.offset (shape_end s) block → bytes ≡ take s.bytes (copied ++ drop s.bytes node) ++ zeros
    (length (copied ++ drop s.bytes node) - s.bytes)
    → bytes ≡ shape_bytes s block
unpacked s block node copied bytes le few plain size is written =
    let long : length copied ≡ s.bytes = ap length is ∙ length-piece s.offset s.bytes block le in
    let rest : length (copied ++ drop s.bytes node) - s.bytes ≡ 1024 - s.bytes =
    omega (arith, length-append copied (drop s.bytes node), length-drop s.bytes node, long, size, few) in
    written ∙ ap (λ (n : ℕ). take s.bytes (copied ++ drop s.bytes node) ++ zeros n) rest
    ∙ ap (λ (b : List ℕ). b ++ zeros (1024 - s.bytes)) (take_at copied (drop s.bytes node) s.bytes long ∙ is
    ∙ sym (ap (λ (has : Bool). blanked has (between s.offset (shape_end s) block)) plain
    ∙ unblanked (between s.offset (shape_end s) block)))

-- ---- blocks

words_long : (ws : List ℕ) → length (words_bytes ws) ≡ 8 * length ws
unfolding words_bytes
words_long [] = refl
words_long (w ∷ ws) = length-append (number w) (words_bytes ws) ∙ omega (arith, words_long ws, length-number w)

front_long : (h : ObjectHeader) → length (front_bytes h) ≡ 32
unfolding front_bytes number zeros
front_long h = refl

pub page_long : (f : Frame) → length (page_words f.content) ≡ 512 → length (page_frame_bytes f) ≡ 4608
unfolding page_frame_bytes
page_long f few =
    let front : List ℕ = front_bytes f.header in
    let words : List ℕ = words_bytes (page_words f.content) in
    let whole : length ((front ++ zeros 480) ++ words) ≡ 4608 =
    omega (
      arith,
      length-append (front ++ zeros 480) words,
      length-append front (zeros 480),
      front_long f.header,
      length-zeros 480,
      words_long (page_words f.content),
      few,
    ) in
    whole

-- a page's frame is its whole block
pub page_whole : (s : Shape) (block : List ℕ) → IsPageShape s → length block ≡ 4608 → shape_bytes s block ≡ blanked s.has_sums block
unfolding zeros
page_whole s block is size =
    let none : 1024 - s.bytes ≡ 0 = omega (arith, is.2) in
    let all : between s.offset (shape_end s) block ≡ block =
    piece s.offset s.bytes block ∙ ap (λ (n : ℕ). take s.bytes (drop n block)) is.1 ∙ take_all s.bytes block (omega (arith, size, is.2)) in
    ap (λ (b : List ℕ). blanked s.has_sums b ++ zeros (1024 - s.bytes)) all ∙ ap (λ (n : ℕ). blanked s.has_sums block ++ zeros n) none
    ∙ append-nil (blanked s.has_sums block)

-- a page's frame by itself
pub page_unpacked : (s : Shape) (block copied gap : List ℕ) → IsPageShape s → s.has_sums ≡ true → length block ≡ 4608 → copied ≡ block
    → gap ≡ zeros (length (take 480 (drop 32 copied))) → put_mid 32 480 copied gap ≡ shape_bytes s block
unfolding blanked
page_unpacked s block copied gap is has size same blank =
    let rest : length (take 480 (drop 32 block)) ≡ 480 =
    length-take-le 480 (drop 32 block) (omega (arith, length-drop 32 block, size)) in
    let put : put_mid 32 480 copied gap ≡ take 32 block ++ zeros 480 ++ drop 512 block =
    mid_put 32 480 copied gap ∙ ap (λ (b : List ℕ). take 32 b ++ gap ++ drop 512 b) same
    ∙ ap (λ (z : List ℕ). take 32 block ++ z ++ drop 512 block)
    (blank ∙ ap (λ (b : List ℕ). zeros (length (take 480 (drop 32 b)))) same ∙ ap zeros rest) in
    put ∙ sym (page_whole s block is size ∙ ap (λ (b : Bool). blanked b block) has)

-- if a frame ends within the first n bytes of a block, these bytes contain it
pub front_shape : (s : Shape) (n : ℕ) (xs : List ℕ) → shape_end s ≤ n → shape_bytes s (take n xs) ≡ shape_bytes s xs
front_shape s n xs le =
    ap (λ (b : List ℕ). blanked s.has_sums b ++ zeros (1024 - s.bytes)) (between_is (take n xs) s.offset (shape_end s)
    ∙ ap (drop s.offset) (take-take (shape_end s) n xs le) ∙
    sym (between_is xs s.offset (shape_end s)))

-- if a block has only zeros from `at` on, so have its first n bytes
pub front_blank : (at n : ℕ) (xs : List ℕ) → n ≤ length xs → IsBlankFrom at xs → IsBlankFrom at (take n xs)
front_blank at n xs le blank = elim (cases_lt at n) [
  | inl lt ↦
      let sum : at + (n - at) ≡ n = omega (arith, lt) in
      ap (λ (m : ℕ). drop at (take m xs)) (sym sum) ∙ drop-take at (n - at) xs ∙ ap (take (n - at)) blank ∙
      zeros_front (n - at) (length xs - at) (omega (arith, le)) ∙ ap (λ (m : ℕ). zeros (m - at)) (sym (length-take-le n xs le))
  | inr ge ↦
      let none : length (take n xs) - at ≡ 0 = omega (arith, length-take-le n xs le, ge) in
      no_bytes (drop at (take n xs)) (length-drop at (take n xs) ∙ none) ∙ ap zeros (sym none)
]

-- ---- a frame alone in its block is written

pub alone_written : (s : Shape) (old new : List ℕ) (n : ℕ) → n ≤ length new → shape_end s ≤ n → n ≤ 4608 → old ≡ replicate 4608 0 →
    take s.offset new ≡ take s.offset old → (IsBlankFrom (shape_end s) old → IsBlankFrom (shape_end s) new) → HasZerosBeside s (take n new)
unfolding zeros
alone_written s old new n le inside most blank before behind = record {
  before = take-take s.offset n new (omega (arith, inside)) ∙ before ∙ ap (take s.offset) blank
      ∙ take-replicate s.offset 4608 0 (omega (arith, inside, most));
  behind = front_blank (shape_end s) n new le (behind (ap (drop (shape_end s)) blank ∙ drop-replicate (shape_end s) 4608 0 ∙
      ap (λ (m : ℕ). replicate (m - shape_end s) 0) (sym (ap length blank ∙ length-replicate {A = ℕ} 4608 0))));
}

pub header_there : (image : Image) (at : ℕ) (s : Shape) {block : List ℕ} {header : ObjectHeader} → shape_end s ≤ length block →
    800 ≤ s.bytes → sectors_from image at s.sectors ≡ block → header ≡ header_from (between s.offset (length block) block) →
    IsHeaderAt image at s header
header_there image at s {block} {header} le least read is g number =
    let front : List ℕ = take (shape_end s - s.offset) (drop s.offset block) in
    let long : 32 ≤ length front = omega (arith, length-piece s.offset s.bytes block le, least) in
    is ∙ ap header_from (take_rest block s.offset ∙ sym (take-append-drop (shape_end s - s.offset) (drop s.offset block)))
    ∙ header_before front (drop (shape_end s - s.offset) (drop s.offset block)) long
    ∙ sym (header_before (blanked s.has_sums front) (zeros (1024 - s.bytes)) (blanked_long s.has_sums front long)
    ∙ blanked_header s.has_sums front long)
    ∙ sym (header_is g number (shape_bytes s block)) ∙ ap (λ (b : List ℕ). (frame_from g number (shape_bytes s b)).header) (sym read)

-- if a block was written to the image, so was each frame in it
pub frame_there : {T E : Type 0} (result : Result T E) (image : Image) (at n : ℕ) (s : Shape) (block : List ℕ) {bytes : List ℕ} →
    shape_end s ≤ n → OnOk result (sectors_from image at s.sectors ≡ take n block) → shape_bytes s block ≡ bytes →
    OnOk result (shaped_at image at s ≡ bytes)
frame_there {T} {E} result image at n s block {bytes} le written is = grind (arith, nat_tests, front_shape s n block le)

pub zeros_there : {T E : Type 0} (result : Result T E) (image : Image) (at n : ℕ) (s : Shape) (block : List ℕ) →
    OnOk result (sectors_from image at s.sectors ≡ take n block) → HasZerosBeside s (take n block) →
    OnOk result (HasZerosBeside s (sectors_from image at s.sectors))
zeros_there {T} {E} result image at n s block written zeros = grind (arith, nat_tests)

-- a block of a page has 4608 bytes
pub page_size : (g : Geometry) (n : ℕ) (s : Shape) (block : List ℕ) → IsShapeFor g n s → g.nodes ≤ n → length block ≡ 512 * s.sectors →
    length block ≡ 4608
page_size g n s block fits le size = size ∙ ap (λ (k : ℕ). 512 * k) (fits.page le).0

-- without sums the frame of a page is its whole block
pub block_page : (g : Geometry) (n : ℕ) (s : Shape) (block : List ℕ) → IsShapeFor g n s → g.nodes ≤ n → length block ≡ 512 * s.sectors →
    s.has_sums ≡ false → shape_bytes s block ≡ block
block_page g n s block fits le size plain =
    page_whole s block (fits.page le) (page_size g n s block fits le size) ∙ ap (λ (has : Bool). blanked has block) plain
    ∙ unblanked block

module _ (g : Geometry) (n age : ℕ) (s : Shape) (block : List ℕ) (fits : IsShapeFor g n s) (le : g.nodes ≤ n)
    (size : length block ≡ 512 * s.sectors) (plain : s.has_sums ≡ false) where
  pub page_found : {R E : Type 0} (result : Result R E) (frame : R → Frame) → IfOk result (λ read. IsFrameOf g age n block (frame read)) →
      IfOk result (λ read. IsFrameOf g age n (shape_bytes s block) (frame read))
  page_found {R} {E} result frame found =
      subst (λ (b : List ℕ). IfOk result (λ read. IsFrameOf g age n b (frame read))) (sym (block_page g n s block fits le size plain)) found

  pub page_refused : {R : Type 0} (result : Result R BadImage) → IfErr result
      (λ e. (e ≡ BadFrame) × ((f : Frame) → IsFrameOf g age n block f → ⊥)) →
      IfErr result (λ e. (e ≡ BadFrame) × ((f : Frame) → IsFrameOf g age n (shape_bytes s block) f → ⊥))
  page_refused {R} result refused =
      subst (λ (b : List ℕ). IfErr result (λ e. (e ≡ BadFrame) × ((f : Frame) → IsFrameOf g age n b f → ⊥)))
      (sym (block_page g n s block fits le size plain)) refused
