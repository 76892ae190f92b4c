-- The frames of a world, and its headers and contents.
use Rattle.description.proofs.Names.{nat_tests, ℕ, zero, suc, List, replicate, refl, ap, arith, vec_len, with_item, Cap, Frame, ObjectHeader, Content, Role}
use Rattle.description.proofs.Names.{blank_frame, blank_header, frames_in, role_of, set_in, World, first_frame, IsPut, keepable_later, AreKeepable}
use Rattle.description.proofs.Names.{object_count, HasFields, HasNumbers, IsDescribed, AreLaid, Description}
use Rattle.std.proofs.Common.{◌≡◌, ◌<◌, ◌∷◌}
use Rattle.model.specs.declared.object.Content.TheVariants as content

-- free headers with free contents are free frames
blank_frames : (n : ℕ) → frames_in (replicate n blank_header) (replicate n content.Free) ≡ replicate n blank_frame
unfolding frames_in
blank_frames zero = refl
blank_frames (suc n) = ap (λ (fs : List Frame). blank_frame ∷ fs) (blank_frames n)

pub free_frames : (hs : List ObjectHeader) (cs : List (Content Cap)) (n : ℕ) → hs ≡ replicate n blank_header →
    cs ≡ replicate n content.Free → frames_in hs cs ≡ replicate n blank_frame
free_frames hs cs n headers contents = rw (headers, contents) (blank_frames n)

-- the header of an object that was never rescinded
abbrev pub first_header : Role → ℕ → ObjectHeader
first_header role owner = record { role = role; allocations = 0; calls = 0; owner = owner }

-- putting a header and a content at a number puts their frame there
pub put_there : (w : World) (n owner : ℕ) (held : Content Cap) (role : Role) → role ≡ role_of held → n < vec_len w.headers →
    vec_len w.contents ≡ vec_len w.headers
    → IsPut n (first_frame owner held) w (record {
      headers = with_item w.headers n (first_header role owner);
      contents = with_item w.contents n held;
    })
put_there w n owner held role is within even = grind (arith, nat_tests, set_in)

-- if the frames of a world are laid, its headers and contents are
pub world_laid : (d : Description) (w : World) → HasNumbers d × HasFields d → IsDescribed d (frames_in w.headers.items w.contents.items) →
    AreKeepable d.geometry 0 (frames_in w.headers.items w.contents.items) → vec_len w.headers ≡ object_count d.geometry →
    vec_len w.contents ≡ object_count d.geometry → AreLaid d w.headers.items w.contents.items
world_laid d w named described keepable header_each content_each = record {
  numbers = named.0;
  fields = named.1;
  described = described;
  keepable = keepable_later d.geometry 0 d.age (frames_in w.headers.items w.contents.items) (omega arith) keepable;
  header_each = omega (arith, w.headers.ok.0, header_each);
  content_each = omega (arith, w.contents.ok.0, content_each);
}
