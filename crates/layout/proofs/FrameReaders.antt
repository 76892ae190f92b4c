-- Bytes that encode a frame are read as that frame.
use Rattle.layout.proofs.Names.{nat_tests, [], ℕ, Bool, List, length, take, drop, refl, sym, ap, subst, append_assoc, inl, inr, arith, cases_lt, lt-ltb, le-ltb}
use Rattle.layout.proofs.Names.{drop_at, take-append-le, drop-append-le, length-drop, All-head, All-tail, All, little_number, little_from-take, Cap, Frame}
use Rattle.layout.proofs.Names.{ObjectHeader, Geometry, Content, Role, IsKeptCap, role_of, role_number, number, number_from, zeros, capability_bytes}
use Rattle.layout.proofs.Names.{head_number, number_of, front_numbers, slots_of, slots_bytes, words_bytes, page_words, role_in, body_in, page_body_in}
use Rattle.layout.proofs.Names.{content_of, IsNodeFrame, IsPageFrame, node_frame_bytes, page_frame_bytes, IsFront, IsFrameOf, cap_with, cap_from, slots_from}
use Rattle.layout.proofs.Names.{words_from, header_from, node_from, page_from, frame_from}
use Rattle.std.proofs.Common.{◌≡◌, ◌+◌, ◌^◌, ◌<◌, ◌≤◌, ◌∷◌, ◌++◌, ◌∙◌}
use Rattle.std.specs.Prelude.{if◌then◌else◌, nat_lt}
use Rattle.layout.proofs.Capabilities.{as_numbers, follows_fits, head_below, made_again, same_cap}
use Rattle.layout.proofs.Numbers.{AllFit, stream, number_reported}
use Rattle.layout.proofs.Frames.{front_stream, content_again, role_again, role_fits, node_parts, front_list, length-front}
use Rattle.layout.proofs.Pages as page
use Rattle.layout.proofs.Keepables.{node_of_frame, page_of_frame}
use Rattle.layout.proofs.SlotLists.{slots_bytes-cons, length-capability}

-- a number is read back from its bytes, whatever bytes follow
pub reported : (n : ℕ) (rest bytes : List ℕ) → n < 2 ^ 64 → bytes ≡ number n ++ rest → number_from bytes ≡ n
reported n rest bytes fits e = sym (number_reported bytes rest n fits e)

cap_is : (head object count : ℕ) (c : Cap) (g : Geometry) (age : ℕ) → IsKeptCap g age c → head ≡ head_number c.what →
    object ≡ number_of c.what → count ≡ c.count → cap_with head object count ≡ c
cap_is head object count c g age kept eh eo ec = grind (arith, nat_tests, follows_fits, same_cap, made_again)

pub cap_again : (g : Geometry) (age : ℕ) (c : Cap) (rest : List ℕ) → IsKeptCap g age c → cap_from (capability_bytes c ++ rest) ≡ c
unfolding cap_from number
cap_again g age c rest kept =
    let all = follows_fits g age c.count c.what kept in
    let h : List ℕ = number (head_number c.what) in
    let o : List ℕ = number (number_of c.what) in
    let n : List ℕ = number c.count in
    let bytes : List ℕ = capability_bytes c ++ rest in
    let whole : bytes ≡ h ++ (o ++ (n ++ rest)) = grind (arith, nat_tests, as_numbers, append_assoc) in
    cap_is (number_from bytes) (number_from (drop 8 bytes)) (number_from (drop 16 bytes)) c g age kept
    (reported (head_number c.what) (o ++ (n ++ rest)) bytes (head_below c.what all.head) whole)
    (reported (number_of c.what) (n ++ rest) (drop 8 bytes) all.object (ap (drop 8) whole))
    (reported c.count rest (drop 16 bytes) all.count (ap (drop 16) whole))

slots_again : (g : Geometry) (age : ℕ) (cs : List Cap) (rest : List ℕ) → All (IsKeptCap g age) cs →
    slots_from (length cs) (slots_bytes cs ++ rest) ≡ cs
unfolding slots_from
slots_again g age [] rest all = refl
slots_again g age (c ∷ cs) rest all =
    let whole : slots_bytes (c ∷ cs) ++ rest ≡ capability_bytes c ++ (slots_bytes cs ++ rest) =
    ap (λ (b : List ℕ). b ++ rest) (slots_bytes-cons c cs) ∙
    append_assoc (capability_bytes c) (slots_bytes cs) rest in
    let behind : drop 24 (slots_bytes (c ∷ cs) ++ rest) ≡ slots_bytes cs ++ rest = ap (drop 24) whole ∙
    drop_at (capability_bytes c) (slots_bytes cs ++ rest) 24 (length-capability c) in
    ap (λ (x : Cap). x ∷ slots_from (length cs) (drop 24 (slots_bytes (c ∷ cs) ++ rest)))
    (ap cap_from whole ∙ cap_again g age c (slots_bytes cs ++ rest) (All-head (IsKeptCap g age) c cs all))
    ∙ ap (λ (xs : List Cap). c ∷ xs) (ap (slots_from (length cs)) behind ∙ slots_again g age cs rest (All-tail (IsKeptCap g age) c cs all))

words_again : (ws : List ℕ) (rest : List ℕ) → AllFit ws → words_from (length ws) (stream ws rest) ≡ ws
unfolding words_from number
words_again [] rest fits = refl
words_again (w ∷ ws) rest fits =
    ap (λ (x : ℕ). x ∷ words_from (length ws) (drop 8 (stream (w ∷ ws) rest)))
    (reported w (stream ws rest) (stream (w ∷ ws) rest) fits.0 refl)
    ∙ ap (λ (xs : List ℕ). w ∷ xs) (words_again ws rest fits.1)

abbrev header_of : Role → ℕ → ℕ → ℕ → ObjectHeader
header_of r a c o = record { role = r; allocations = a; calls = c; owner = o }

same_header : (r r' : Role) (a a' c c' o o' : ℕ) → r ≡ r' → a ≡ a' → c ≡ c' → o ≡ o' → header_of r a c o ≡ header_of r' a' c' o'
same_header r r' a a' c c' o o' er ea ec eo = rw (er, ea, ec, eo) refl

-- the first 32 bytes of a frame are read as this number and this header
pub record FrontTells (first : ℕ) (h : ObjectHeader) (bytes : List ℕ) : Type 0 where
  pub first_is : number_from bytes ≡ first
  pub header_is : header_from bytes ≡ h

pub front_tells : (first : ℕ) (h : ObjectHeader) (bytes rest : List ℕ) → AllFit (front_list first h) → role_in first ≡ h.role →
    bytes ≡ front_numbers first h ++ rest → FrontTells first h bytes
unfolding header_from number
front_tells first h bytes rest fits is e =
    let whole : bytes ≡ stream (front_list first h) rest = e ∙ front_stream first h rest in
    let role : number_from bytes ≡ first = reported first (stream (h.allocations ∷ h.calls ∷ h.owner ∷ []) rest) bytes fits.0 whole in
    record {
      first_is = role;
      header_is = same_header (role_in (number_from bytes)) h.role (number_from (drop 8 bytes)) h.allocations (number_from (drop 16 bytes))
          h.calls
          (number_from (drop 24 bytes)) h.owner
          (ap role_in role ∙ is) (reported h.allocations (stream (h.calls ∷ h.owner ∷ []) rest) (drop 8 bytes) fits.1.0 (ap (drop 8) whole))
          (reported h.calls (stream (h.owner ∷ []) rest) (drop 16 bytes) fits.1.1.0 (ap (drop 16) whole))
          (reported h.owner rest (drop 24 bytes) fits.1.1.1.0 (ap (drop 24) whole));
    }

record FrontIs (f : Frame) (bytes : List ℕ) : Type 0 where
  pub role : number_from bytes ≡ role_number (role_of f.content)
  pub header : header_from bytes ≡ f.header

front_again : (age : ℕ) (f : Frame) (bytes rest : List ℕ) → IsFront age f →
    bytes ≡ front_numbers (role_number f.header.role) f.header ++ rest → FrontIs f bytes
front_again age f bytes rest is e =
    let tells = front_tells (role_number f.header.role) f.header bytes rest
    (role_fits f.header.role, (is.allocations.1, (is.calls.1, (is.owner, tt))))
    (role_again f.header.role) e in
    record { role = tells.first_is ∙ ap role_number is.role; header = tells.header_is }

abbrev frame_with : ObjectHeader → Content Cap → Frame
frame_with h c = record { header = h; content = c }

same_frame : (h h' : ObjectHeader) (c c' : Content Cap) → h ≡ h' → c ≡ c' → frame_with h c ≡ frame_with h' c'
same_frame h h' c c' eh ec = rw (eh, ec) refl

node_again : (g : Geometry) (age : ℕ) (f : Frame) (bytes : List ℕ) → IsNodeFrame g age f → bytes ≡ node_frame_bytes f → node_from bytes ≡ f
node_again g age f bytes is e =
    let parts = node_parts g age f bytes is e in
    let slots : List Cap = slots_of f.content in
    let rest : List ℕ = slots_bytes slots ++ zeros 224 in
    let front = front_again age f bytes rest is.front parts.whole in
    let behind : drop 32 bytes ≡ rest = ap (drop 32) parts.whole ∙ drop_at (front_numbers (role_number f.header.role) f.header) rest 32
    (length-front (role_number f.header.role) f.header) in
    let read : slots_from 32 (drop 32 bytes) ≡ slots = grind (arith, nat_tests, slots_again g age slots (zeros 224) is.slots.each) in
    let content : content_of (body_in (number_from bytes) (slots_from 32 (drop 32 bytes))) (slots_from 32 (drop 32 bytes)) [] ≡ f.content =
    grind (arith, nat_tests, content_again) in
    same_frame (header_from bytes) f.header (content_of (body_in (number_from bytes) (slots_from 32 (drop 32 bytes)))
    (slots_from 32 (drop 32 bytes)) [])
    f.content front.header content

page_again : (age : ℕ) (f : Frame) (bytes : List ℕ) → IsPageFrame age f → bytes ≡ page_frame_bytes f → page_from bytes ≡ f
page_again age f bytes is e =
    let parts = page.page_parts f bytes e in
    let words : List ℕ = page_words f.content in
    let front = front_again age f bytes (zeros 480 ++ words_bytes words) is.front parts.whole in
    let held = page.words_fit f.content is.holds in
    let read : words_from 512 (drop 512 bytes) ≡ words =
    ap (words_from 512) (parts.last ∙ page.words_stream words) ∙ subst (λ (n : ℕ). words_from n (stream words []) ≡ words) held.count_is
    (words_again words [] (page.all_fit words held.each)) in
    let content : content_of (page_body_in (number_from bytes)) [] (words_from 512 (drop 512 bytes)) ≡ f.content =
    grind (arith, nat_tests) in
    same_frame (header_from bytes) f.header (content_of (page_body_in (number_from bytes)) [] (words_from 512 (drop 512 bytes))) f.content
    front.header content

-- bytes that encode a frame are read as that frame
pub frame_again : (g : Geometry) (age object : ℕ) (bytes : List ℕ) (f : Frame) → IsFrameOf g age object bytes f →
    frame_from g object bytes ≡ f
unfolding frame_from
frame_again g age object bytes f is = elim (cases_lt object g.nodes) [
  | inl lt ↦
      let node = node_of_frame g age object bytes f lt is in
      ap (λ (b : Bool). if b then node_from bytes else page_from bytes) (lt-ltb object g.nodes lt) ∙ node_again g age f bytes node.0 node.1
  | inr le ↦
      let one = page_of_frame g age object bytes f le is in
      ap (λ (b : Bool). if b then node_from bytes else page_from bytes) (le-ltb object g.nodes le) ∙ page_again age f bytes one.0 one.1
]

-- ---- the front of a frame in its first sector

number_front : (xs ys : List ℕ) → take 8 xs ≡ take 8 ys → number_from xs ≡ number_from ys
unfolding number_from
number_front xs ys same = sym (little_from-take 0 8 8 xs (omega arith)) ∙ ap (λ (b : List ℕ). little_number 8 b) same
    ∙ little_from-take 0 8 8 ys (omega arith)

-- a number that is read in xs doesn't depend on the bytes after xs
number_before : (xs ys : List ℕ) (k : ℕ) → k + 8 ≤ length xs → number_from (drop k (xs ++ ys)) ≡ number_from (drop k xs)
number_before xs ys k room =
    number_front (drop k (xs ++ ys)) (drop k xs)
    (ap (take 8) (drop-append-le k xs ys (omega (arith, room))) ∙ take-append-le 8 (drop k xs) ys (omega (arith, room, length-drop k xs)))

pub header_before : (xs ys : List ℕ) → 32 ≤ length xs → header_from (xs ++ ys) ≡ header_from xs
unfolding header_from
header_before xs ys room =
    cc (same_header (role_in (number_from (xs ++ ys))) (role_in (number_from xs)) (number_from (drop 8 (xs ++ ys)))
    (number_from (drop 8 xs)) (number_from (drop
    16 (xs ++ ys))) (number_from (drop 16 xs)) (number_from (drop 24 (xs ++ ys))) (number_from (drop 24 xs))
    (ap role_in (number_front (xs ++ ys) xs
    (take-append-le 8 xs ys (omega (arith, room))))) (number_before xs ys 8 (omega (arith, room)))
    (number_before xs ys 16 (omega (arith, room))) (number_before
    xs ys 24 (omega (arith, room))))

abbrev header_held : Frame → ObjectHeader
header_held f = f.header

header_by : (b : Bool) (bytes : List ℕ) → header_held (if b then node_from bytes else page_from bytes) ≡ header_from bytes
header_by b bytes = grind (arith, nat_tests)

-- a frame's header is read from its first 32 bytes, whatever its object's number
pub header_is : (g : Geometry) (object : ℕ) (bytes : List ℕ) → (frame_from g object bytes).header ≡ header_from bytes
unfolding frame_from
header_is g object bytes = header_by (nat_lt object g.nodes) bytes
