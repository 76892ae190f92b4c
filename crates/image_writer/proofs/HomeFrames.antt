-- Homes are written one after another.
use Rattle.image_writer.proofs.Names.{nat_tests, ℕ, Bool, List, true, false, length, take, arith, cases_lt, get_or_read, inl, inr, ap, sym, subst, ⊎_elim, Cap}
use Rattle.image_writer.proofs.Names.{Frame, ObjectHeader, Content, frame_at, frames_in, header_at, slice_index_or, object_count, Image, Elsewhere, frame_bytes}
use Rattle.image_writer.proofs.Names.{home_place, place_length, shape_of, shape_bytes, sectors_from, same_sectors, Plan, IsPlan, IsObject, IsFirstOf}
use Rattle.image_writer.proofs.Names.{one_length, places_within, places_apart, places_begin, AreHomes, Ends, EndsBy, LieAt, row, front_bytes, IsShapeFor}
use Rattle.image_writer.proofs.Names.{frame_front, Free, get_or_default}
use Rattle.std.proofs.Common.{◌≡◌, ◌+◌, ◌-◌, ◌*◌, ◌<◌, ◌≤◌, ◌∙◌}
use Rattle.capability.proofs.FrameLists.{frame_in}
use Rattle.image_writer.proofs.Firsts.{first_itself, first_shared, has_first, one_first}

-- ---- blocks of one home

-- how a block ends doesn't depend on which of the objects in it is named
ends_by : (b : Bool) (p : Plan) (a n : ℕ) (block : List ℕ) → IsObject p.geometry n → home_place p n ≡ home_place p a → EndsBy b p n block →
    EndsBy b p a block
ends_by false p a n block is same ends = λ at behind. ends at (λ m is_m one. behind m is_m (one ∙ same))
ends_by true p a n block is same ends = λ first start. ends first (first_shared p is same start)

pub ends_shared : (p : Plan) (a n : ℕ) (block : List ℕ) → IsObject p.geometry n → home_place p n ≡ home_place p a → Ends p n block →
    Ends p a block
ends_shared p a n block is same ends = ends_by (row p.version).sealed p a n block is same ends

-- ---- blocks that don't change

-- a block that doesn't change still has its frames
pub lie_same : (p : Plan) (frames : List Frame) (n at : ℕ) (old new : Image) → IsPlan p → IsObject p.geometry n →
    sectors_from new at (place_length p n) ≡ sectors_from old at (place_length p n) → LieAt p frames n at old → LieAt p frames n at new
lie_same p frames n at old new fits is same was = record {
  size = ap length same ∙ was.size;
  frame = λ a is_a home.
      let long : place_length p n ≡ place_length p a = sym (one_length p a n fits is_a is home) in
      ap (λ (k : ℕ). shape_bytes (shape_of p a) (sectors_from new at k)) (sym long) ∙ ap (shape_bytes (shape_of p a)) same
      ∙ ap (λ (k : ℕ). shape_bytes (shape_of p a) (sectors_from old at k)) long ∙ was.frame a is_a home;
  zeros = subst (Ends p n) (sym same) was.zeros;
}

module _ (old mid new : Image) (p : Plan) (n : ℕ) (fits : IsPlan p) (lt : n < object_count p.geometry)
    (change : Elsewhere (home_place p n) (place_length p n) mid new) where
  -- writing a home changes only sectors between the headers and the end
  pub stays_between : Elsewhere (row p.version).first_home (p.total - (row p.version).first_home) old mid →
      Elsewhere (row p.version).first_home (p.total - (row p.version).first_home) old new
  stays_between so_far =
      let begins = places_begin p n fits lt in
      let within = places_within p n fits lt in
      let ends : home_place p n + place_length p n ≤ p.total = within.1 in
      record {
        before = λ i low. change.before i (omega (arith, low, begins)) ∙ so_far.before i low;
        after = λ i le. change.after i (omega (arith, le, begins, ends)) ∙ so_far.after i le;
      }

  -- writing a home changes no other home
  pub other_home : (a : ℕ) → IsObject p.geometry a → (home_place p a ≡ home_place p n → ⊥) →
      sectors_from new (home_place p a) (place_length p a) ≡ sectors_from mid (home_place p a) (place_length p a)
  other_home a is differ =
      same_sectors (home_place p a) (place_length p a) mid new
      (λ k inside. ⊎_elim (λ le. change.before (home_place p a + k) (omega (arith, le, inside)))
      (λ le. change.after (home_place p a + k) (omega (arith, le)))
      (places_apart p a n fits is lt differ))

  module _ (start : IsFirstOf p n n) where
    -- a lesser number has another home
    pub lesser : (a : ℕ) → a < n → home_place p a ≡ home_place p n → ⊥
    lesser a less same = let least = start.least a (omega (arith, less, lt)) same in omega (arith, least, less)

    -- writing the home of n completes the homes of the first n + 1 numbers
    pub one_more : (frames : List Frame) → AreHomes p frames n mid → LieAt p frames n (home_place p n) new → AreHomes p frames (n + 1) new
    one_more frames so_far here a below first = elim (cases_lt a n) [
      | inl before ↦
          let is : a < object_count p.geometry = omega (arith, before, lt) in
          lie_same p frames a (home_place p a) mid new fits is (other_home a is (lesser a before)) (so_far a before first)
      | inr not_before ↦
          let same : n ≡ a = omega (arith, below, not_before) in
          subst (λ (m : ℕ). LieAt p frames m (home_place p m) new) same here
    ]

-- if n shares its home with a lesser number, the homes of the first n + 1 numbers are complete already
pub none_more : (p : Plan) (frames : List Frame) (n first : ℕ) (image : Image) → n < object_count p.geometry → first < n →
    IsFirstOf p n first → AreHomes p frames n image → AreHomes p frames (n + 1) image
none_more p frames n first image lt low start so_far a below itself = elim (cases_lt a n) [
  | inl less ↦ so_far a less itself
  | inr le ↦
      let at : a ≡ n = omega (arith, below, le) in
      let same = one_first p n first n (omega (arith, low, lt)) lt start (subst (λ (m : ℕ). IsFirstOf p m m) at itself) in
      absurd (omega (arith, same, low))
]

-- ---- all homes

module _ (p : Plan) (frames : List Frame) (image : Image) (fits : IsPlan p)
    (homes : AreHomes p frames (object_count p.geometry) image) (a : ℕ) (is : IsObject p.geometry a) where
  -- the home of an object, from that of the first number with it
  pub home_lies : LieAt p frames a (home_place p a) image
  home_lies =
      let start = has_first p a fits is in
      let first : ℕ = start.0 in
      let one : home_place p first ≡ home_place p a = start.2.home in
      let there = homes first start.1 (first_itself p start.2) in
      let long : place_length p first ≡ place_length p a = one_length p first a fits start.1 is one in
      let here = subst (λ (sector : ℕ). LieAt p frames first sector image) one there in
      record {
        size = subst (λ (k : ℕ). length (sectors_from image (home_place p a) k) ≡ 512 * k) long here.size;
        frame = λ b is_b same. here.frame b is_b (same ∙ sym one);
        zeros = subst (λ (k : ℕ). Ends p a (sectors_from image (home_place p a) k)) long
            (ends_shared p a first (sectors_from image (home_place p a) (place_length p first)) start.1 one here.zeros);
      }

-- the frame of a number is its header and its content
pub frame_there : (hs : List ObjectHeader) (cs : List (Content Cap)) (n : ℕ) (c : Content Cap) → n < length hs → length cs ≡ length hs →
    c ≡ slice_index_or cs n c
    → record { header = header_at hs n; content = c } ≡ frame_at (frames_in hs cs) n
frame_there hs cs n c lt size is = search (arith, get_or_read, frame_in)

-- the shape of a number's frame fits its number
shape_fits : (p : Plan) (n : ℕ) → IsShapeFor p.geometry n (shape_of p n)
shape_fits p n = grind (arith, nat_tests)

-- a page's block begins with the front of its frame
pub front_there : (p : Plan) (hs : List ObjectHeader) (cs : List (Content Cap)) (n : ℕ) (block : List ℕ) → IsPlan p →
    IsObject p.geometry n → length hs ≡ object_count p.geometry → length cs ≡ object_count p.geometry → length block ≡ 4608 →
    shape_bytes (shape_of p n) block ≡ frame_bytes p.geometry n (frame_at (frames_in hs cs) n) → (shape_of p n).has_sums ≡ true →
    take 32 block ≡ front_bytes (header_at hs n)
front_there p hs cs n block fits is headers contents size frame has =
    let c : Content Cap = slice_index_or cs n Free in
    let there = frame_there hs cs n c (omega (arith, is, headers)) (contents ∙ sym headers)
    (get_or_default cs n Free c (omega (arith, is, contents))) in
    frame_front p.geometry n (shape_of p n) (frame_at (frames_in hs cs) n) block (shape_fits p n) size frame has
    ∙ ap (λ (f : Frame). front_bytes f.header) (sym there)
