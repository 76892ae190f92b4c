-- Bytes that encode a value are read as that value.
use Rattle.layout.proofs.Names.{nat_tests, ℕ, List, length, arith, same_lists, length-map-range_with_len, get_or-map-range_with_len, Frame, Geometry, frame_at}
use Rattle.layout.proofs.Names.{blank_frame, IsKeepable, Image, Entry, IsFrameOf, frame_bytes, frame_from, frame_in, HasPlan, HasHeader}
use Rattle.layout.proofs.Names.{HasDirectory, Encodes, count_of, frame_read, frames_read, IsSpelt, AreSpelt, Plan}
use Rattle.std.proofs.Common.{◌≡◌, ◌<◌, refl, subst, sym, true}
use Rattle.layout.specs.Version.{row}
use Rattle.layout.specs.declared.sealed.header.SealedHeader.{SealedHeader}
use Rattle.layout.specs.sealed.Units.{HasUnits}
use Rattle.layout.specs.Spelt.{state_in}
use Rattle.layout.proofs.FrameReaders.{frame_again}

pub length_read : (image : Image) (p : Plan) (generation : ℕ) (es : List Entry) → length (frames_read image p generation es) ≡ count_of p
unfolding frames_read
length_read image p generation es = length-map-range_with_len (frame_read image p generation es) 0 (count_of p)

pub read_at : (image : Image) (p : Plan) (generation : ℕ) (es : List Entry) (n : ℕ) → n < count_of p →
    frame_at (frames_read image p generation es) n ≡ frame_read image p generation es n
unfolding frames_read
read_at image p generation es n lt = get_or-map-range_with_len (frame_read image p generation es) 0 (count_of p) n n blank_frame lt
    (omega arith)

-- two images have the same frames if the bytes of their frames are the same
pub read_same : (new old : Image) (p : Plan) (a b : ℕ) (ds es : List Entry) →
    ((n : ℕ) → n < count_of p → frame_in new p a ds n ≡ frame_in old p b es n) → frames_read new p a ds ≡ frames_read old p b es
unfolding frames_read
read_same new old p a b ds es same = grind (arith, nat_tests, same_lists, length-map-range_with_len, get_or-map-range_with_len)

-- if bytes that encode a frame are unchanged, they still encode it
pub spelt_same : (new old : Image) (p : Plan) (age a b : ℕ) (ds es : List Entry) (n : ℕ) → frame_in new p a ds n ≡ frame_in old p b es n →
    IsSpelt old p age b es n → IsSpelt new p age a ds n
spelt_same new old p age a b ds es n same is = grind (arith, nat_tests)

-- bytes that encode a frame are read as that frame, and are a valid encoding
pub spelt_read : (image : Image) (p : Plan) (age generation : ℕ) (es : List Entry) (n : ℕ) (f : Frame) →
    IsFrameOf p.geometry age n (frame_in image p generation es n) f
    → IsSpelt image p age generation es n × (frame_read image p generation es n ≡ f)
spelt_read image p age generation es n f is = grind (arith, nat_tests, frame_again p.geometry age n (frame_in image p generation es n) f is)

-- if the bytes of object n encode a frame at one age, and the frame may be kept at another, they encode it at that age too
pub spelt_at : (image : Image) (p : Plan) (first second generation : ℕ) (es : List Entry) (n : ℕ) → IsSpelt image p first generation es n →
    IsKeepable p.geometry second n (frame_read image p generation es n)
    → IsSpelt image p second generation es n
spelt_at image p first second generation es n is keepable = (keepable, is.1)

-- an image denotes the state that is read from it, if all its frames are encoded and, in version 3, its units are sealed
pub denotes : (image : Image) (size : ℕ) (p : Plan) (h : SealedHeader) (es : List Entry) → HasPlan image size p → HasHeader image p h →
    HasDirectory image p h es → AreSpelt image p h.header.age h.header.generation es
    → ((row p.version).sealed ≡ true → HasUnits image p h.root h.header.generation es) → Encodes image size (state_in image p h.header es)
denotes image size p h es plan header directory spelt units = record {
  plan = plan;
  commit = h;
  same = refl;
  header = header;
  directory = directory;
  count = length_read image p h.header.generation es;
  each = λ n lt.
      subst (IsFrameOf p.geometry h.header.age n (frame_in image p h.header.generation es n))
      (sym (read_at image p h.header.generation es n lt)) (spelt n lt);
  units = units;
}

-- the bytes of a frame that may be kept are read as that frame, and are its encoding
pub bytes_spelt : (g : Geometry) (age n : ℕ) (bytes : List ℕ) (f : Frame) → IsKeepable g age n f → bytes ≡ frame_bytes g n f →
    IsFrameOf g age n bytes (frame_from g n bytes) × (frame_from g n bytes ≡ f)
bytes_spelt g age n bytes f keepable is = grind (arith, nat_tests, frame_again g age n bytes f (keepable, is))
