-- Facts about frames, from the headers and contents in memory.
use Rattle.recovery.proofs.Names.{nat_tests, ℕ, List, length, sym, ap, arith, get_or_past, Cap, Frame, ObjectHeader, Content, blank_frame, frame_at, header_at}
use Rattle.recovery.proofs.Names.{headers, held_at, Parts, frames_of, frame_in, headers_in, length_in, role_at}
use Rattle.std.proofs.Common.{◌≡◌, ◌<◌, ◌≤◌, ◌∙◌}
use Rattle.model.specs.declared.object.Role.TheVariants as role
use Rattle.recovery.proofs.Standing.{header_is}

-- a header that was read is the one in the frame
pub header_read : (p : Parts) (hs : List ObjectHeader) (h : ObjectHeader) (n : ℕ) → hs ≡ p.headers → h ≡ header_at hs n →
    h ≡ (frame_at (frames_of p) n).header
header_read p hs h n table is =
    is
    ∙ ap (λ (ks : List ObjectHeader). header_at ks n) (table ∙ sym (headers_in p.headers p.contents))
    ∙ header_is (frames_of p) n

-- a content that was read is the one in the frame
pub content_read : (p : Parts) (n : ℕ) (c : Content Cap) → n < length p.headers → c ≡ held_at p.contents n →
    c ≡ (frame_at (frames_of p) n).content
content_read p n c known is = is ∙ sym (ap (λ (f : Frame). f.content) (frame_in p.headers p.contents n known))

-- the table has the headers of the frames
pub table_read : (p : Parts) (hs : List ObjectHeader) → hs ≡ p.headers → hs ≡ headers (frames_of p)
table_read p hs table = table ∙ sym (headers_in p.headers p.contents)

-- a number past the table has no frame, and counts as free
pub frame_beyond : (p : Parts) (n : ℕ) → length p.headers ≤ n → frame_at (frames_of p) n ≡ blank_frame
frame_beyond p n past = get_or_past (frames_of p) n blank_frame (omega (arith, length_in p.headers p.contents, past))

pub role_known : (p : Parts) (n : ℕ) → (role_at (frames_of p) n ≡ role.Free → ⊥) → n < length p.headers
role_known p n used = grind (arith, nat_tests, frame_beyond)

pub annex_known : (p : Parts) (n : ℕ) → role_at (frames_of p) n ≡ role.Annex → n < length p.headers
annex_known p n annex = role_known p n (λ free. let wrong : role.Annex ≡ role.Free = sym annex ∙ free in cc)

pub bank_known : (p : Parts) (n : ℕ) → role_at (frames_of p) n ≡ role.Bank → n < length p.headers
bank_known p n bank = role_known p n (λ free. let wrong : role.Bank ≡ role.Free = sym bank ∙ free in cc)
