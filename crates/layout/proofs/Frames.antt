-- Frames are read back from their bytes.
use Rattle.layout.proofs.Names.{nat_tests, [], ℕ, zero, suc, List, length, take, drop, refl, sym, ap, subst, append_assoc, arith, replicate, between}
use Rattle.layout.proofs.Names.{replicate-append-replicate, drop-replicate, drop-drop, take_at, drop_at, take-append-drop, length-append, length-take-le}
use Rattle.layout.proofs.Names.{length-map, Cap, Frame, ObjectHeader, Geometry, Content, Role, Root, State, void_held, IsCount, AreKeptSlots, role_of}
use Rattle.layout.proofs.Names.{role_number, state_number, number, short_number, zeros, Body, capability_bytes, head_bytes, front_numbers, front_bytes}
use Rattle.layout.proofs.Names.{slots_of, slots_bytes, node_frame_bytes, root_slots, root_from, role_in, state_in, body_in, content_of, FollowsRole, IsFront}
use Rattle.layout.proofs.Names.{IsBody, IsNodeFrame, All-replicate, IsTrue, IsKeptCap, is_free, take-replicate}
use Rattle.std.proofs.Common.{◌≡◌, ◌+◌, ◌-◌, ◌*◌, ◌^◌, ◌<◌, ◌≤◌, ◌∷◌, ◌++◌, ◌∙◌}
use borrow.Rule.Slice.PartMut.{put_mid}
use Rattle.model.specs.declared.object.Content.TheVariants as content
use Rattle.layout.proofs.Numbers.{stream, AllFit, stream_splits, IsWritten}
use Rattle.layout.proofs.SlotLists.{slots_bytes-nil, slots_bytes-cons, slots_bytes-append, length-slots, slots_split}

four : (a b c d z : List ℕ) → (a ++ b ++ c ++ d) ++ z ≡ a ++ (b ++ (c ++ (d ++ z)))
four a b c d z = simp append_assoc

-- the first 32 bytes of a frame are those of four numbers
pub front_stream : (role : ℕ) (h : ObjectHeader) (rest : List ℕ) → front_numbers role h ++ rest
    ≡ stream (role ∷ h.allocations ∷ h.calls ∷ h.owner ∷ []) rest
unfolding front_numbers
front_stream role h rest = four (number role) (number h.allocations) (number h.calls) (number h.owner) rest

pub four_read : (bytes : List ℕ) (role : ℕ) (h : ObjectHeader) → bytes ≡ number role ++ drop 8 bytes →
    drop 8 bytes ≡ number h.allocations ++ drop 16 bytes → drop 16 bytes ≡ number h.calls ++ drop 24 bytes →
    drop 24 bytes ≡ number h.owner ++ drop 32 bytes → bytes ≡ front_numbers role h ++ drop 32 bytes
four_read bytes role h er ea ec eo = grind (arith, nat_tests, front_stream)

pub front_is : (role : ℕ) (h : ObjectHeader) → ([] ++ number role) ++ number h.allocations ++ number h.calls ++ number h.owner
    ≡ front_numbers role h
unfolding front_numbers
front_is role h = refl

pub front_written : (old new : List ℕ) (n : ℕ) (h : ObjectHeader) → n ≡ role_number h.role
    → IsWritten old (number n ++ number h.allocations ++ number h.calls ++ number h.owner) new 32
    → record { before : take 32 new ≡ front_numbers (role_number h.role) h; after : drop 32 new ≡ drop 32 old }
front_written old new n h is was = grind (arith, nat_tests, front_is)

-- ---- void slots as bytes

void_bytes : capability_bytes void_held ≡ zeros 24
unfolding capability_bytes head_bytes short_number number zeros
void_bytes = refl

pub zeros_add : (m n : ℕ) → zeros m ++ zeros n ≡ zeros (m + n)
unfolding zeros
zeros_add m n = replicate-append-replicate m n 0

pub zeros_none : zeros 0 ≡ []
unfolding zeros
zeros_none = refl

pub drop_zeros : (m n : ℕ) → drop m (zeros n) ≡ zeros (n - m)
unfolding zeros
drop_zeros m n = drop-replicate m n 0

voids_bytes : (k : ℕ) → slots_bytes (replicate k void_held) ≡ zeros (24 * k)
voids_bytes zero = slots_bytes-nil ∙ sym zeros_none
voids_bytes (suc k) = grind (arith, nat_tests, slots_bytes-cons, void_bytes, zeros_add, voids_bytes k)

-- ---- writing

pub mid_put : (a k : ℕ) (xs ys : List ℕ) → put_mid a k xs ys ≡ take a xs ++ ys ++ drop (a + k) xs
mid_put a k xs ys = sym (append_assoc (take a xs) ys (drop k (drop a xs))) ∙ ap (λ (r : List ℕ). take a xs ++ ys ++ r) (drop-drop k a xs)

role_bytes : (r : Role) → role_number r ∷ zeros 7 ≡ number (role_number r)
unfolding zeros number
role_bytes r = grind (arith, nat_tests)

pub front_bytes_are : (h : ObjectHeader) → front_bytes h ≡ front_numbers (role_number h.role) h
unfolding front_bytes front_numbers
front_bytes_are h = ap (λ (r : List ℕ). r ++ number h.allocations ++ number h.calls ++ number h.owner) (role_bytes h.role)

rest_size : (n k : ℕ) → n + k ≡ 32 → 992 - 24 * n ≡ 24 * k + 224
rest_size n k e = omega arith

regroup : (a b c d : List ℕ) → a ++ b ++ (c ++ d) ≡ a ++ (b ++ c) ++ d
regroup a b c d = simp append_assoc

pub node_written : (f : Frame) (fronted new : List ℕ) (caps : List Cap) (k : ℕ)
    → take 32 fronted ≡ front_numbers (role_number f.header.role) f.header
    → slots_of f.content ≡ caps ++ replicate k void_held → length caps + k ≡ 32
    → new ≡ take 32 fronted ++ slots_bytes caps ++ zeros (992 - 24 * length caps) → new ≡ node_frame_bytes f
unfolding node_frame_bytes
node_written f fronted new caps k before slots all is =
    grind (arith, nat_tests, rest_size, zeros_add, slots_bytes-append, voids_bytes, front_bytes_are, regroup)

-- if slots were put after the front of a frame, and zeros after them, the rest is as before
pub slots_put : (old mid new : List ℕ) (caps : List Cap) (k : ℕ) → length caps ≤ 32 → length old ≡ 1024 → k ≡ 24 * length caps →
    mid ≡ put_mid 32 k old (slots_bytes caps)
    → new ≡ take (32 + 24 * length caps) mid ++ zeros (1024 - (32 + 24 * length caps)) →
    new ≡ take 32 old ++ slots_bytes caps ++ zeros (992 - 24 * length caps)
slots_put old mid new caps k few len size is put =
    let n : ℕ = length caps in
    let front : length (take 32 old ++ slots_bytes caps) ≡ 32 + 24 * n = length-append (take 32 old) (slots_bytes caps) ∙
    omega (arith, length-take-le 32 old (omega arith), length-slots caps) in
    let less : 1024 - (32 + 24 * n) ≡ 992 - 24 * n = omega arith in
    put ∙ ap (λ (r : List ℕ). take (32 + 24 * n) r ++ zeros (1024 - (32 + 24 * n))) (is ∙ mid_put 32 k old (slots_bytes caps))
    ∙ ap (λ (r : List ℕ). r ++ zeros (1024 - (32 + 24 * n))) (take_at (take 32 old ++ slots_bytes caps) (drop (32 + k) old) (32 + 24 * n)
    front)
    ∙ ap (λ (m : ℕ). take 32 old ++ slots_bytes caps ++ zeros m) less

-- ---- a content is determined by its role and its slots

state_again : (s : State) → state_in (state_number s) ≡ s
state_again s = grind (arith, nat_tests)

abbrev pub root_of : State → List ℕ → ℕ → ℕ → Cap → Root Cap
root_of s ws key annex space = record { state = s; words = ws; key = key; annex = annex; space = space }

root_again : (s : State) (ws : List ℕ) (key annex : ℕ) (space : Cap) → length ws ≡ 4 → key < 2 ^ 16
    → root_from (slots_of (content.Root (root_of s ws key annex space))) ≡ root_of s ws key annex space
root_again s [] key annex space len fits = absurd (omega (arith, len))
root_again s (a ∷ []) key annex space len fits = absurd (omega (arith, len))
root_again s (a ∷ b ∷ []) key annex space len fits = absurd (omega (arith, len))
root_again s (a ∷ b ∷ c ∷ []) key annex space len fits = absurd (omega (arith, len))
root_again s (a ∷ b ∷ c ∷ d ∷ []) key annex space len fits = grind (arith, nat_tests, state_again)
root_again s (a ∷ b ∷ c ∷ d ∷ e ∷ ws) key annex space len fits = absurd (omega (arith, len))

pub content_again : (c : Content Cap) → FollowsRole c → content_of (body_in (role_number (role_of c)) (slots_of c)) (slots_of c) [] ≡ c
content_again (content.Page words) f = absurd f
content_again (content.Root r) f = ap (λ (x : Root Cap). content.Root x) (root_again r.state r.words r.key r.annex r.space f.0 f.1)
content_again other f = refl

pub role_again : (r : Role) → role_in (role_number r) ≡ r
role_again r = grind (arith, nat_tests)

-- ---- reading

-- the bytes of a node's frame: front, slots, zeros
pub record HasParts (f : Frame) (bytes : List ℕ) : Type 0 where
  pub whole : bytes ≡ front_numbers (role_number f.header.role) f.header ++ (slots_bytes (slots_of f.content) ++ zeros 224)
  pub middle : between 32 800 bytes ≡ slots_bytes (slots_of f.content)
  pub last : drop 800 bytes ≡ zeros 224

pub length-front : (role : ℕ) (h : ObjectHeader) → length (front_numbers role h) ≡ 32
unfolding front_numbers number
length-front role h = refl

pub node_parts : (g : Geometry) (age : ℕ) (f : Frame) (bytes : List ℕ) → IsNodeFrame g age f → bytes ≡ node_frame_bytes f → HasParts f bytes
unfolding node_frame_bytes
node_parts g age f bytes fits e =
    let front : List ℕ = front_numbers (role_number f.header.role) f.header in
    let slots : List ℕ = slots_bytes (slots_of f.content) in
    let size : length slots ≡ 768 = length-slots (slots_of f.content) ∙ ap (λ (n : ℕ). 24 * n) fits.slots.count in
    let whole : bytes ≡ front ++ (slots ++ zeros 224) = grind (arith, nat_tests, front_bytes_are, append_assoc) in
    let behind : drop 32 bytes ≡ slots ++ zeros 224 = ap (drop 32) whole ∙ drop_at front (slots ++ zeros 224) 32 (length-front _ f.header)
    in
    record {
      whole = whole;
      middle = ap (take 768) behind ∙ take_at slots (zeros 224) 768 size;
      last = sym (drop-drop 768 32 bytes) ∙ ap (drop 768) behind ∙ drop_at slots (zeros 224) 768 size;
    }

-- these values were read from the bytes of frame f
pub record IsReadOf (f : Frame) (role : ℕ) (h : ObjectHeader) (slots : List Cap) : Type 0 where
  pub role_is : role ≡ role_number (role_of f.content)
  pub header_is : h ≡ f.header
  pub slots_are : slots ≡ slots_of f.content

abbrev pub front_list : ℕ → ObjectHeader → List ℕ
front_list role h = role ∷ h.allocations ∷ h.calls ∷ h.owner ∷ []

abbrev header_of : Role → ℕ → ℕ → ℕ → ObjectHeader
header_of r a c o = record { role = r; allocations = a; calls = c; owner = o }

same_front : (r r' : Role) (n a c o n' a' c' o' : ℕ) → n ∷ a ∷ c ∷ o ∷ [] ≡ n' ∷ a' ∷ c' ∷ o' ∷ [] → r ≡ role_in n → role_in n' ≡ r'
    → (n ≡ n') × (header_of r a c o ≡ header_of r' a' c' o')
same_front r r' n a c o n' a' c' o' e is is' = grind (arith, nat_tests)

pub role_fits : (r : Role) → role_number r < 2 ^ 64
role_fits r = grind (arith, nat_tests)

pub front_reported : (age role : ℕ) (h : ObjectHeader) (f : Frame) (x y : List ℕ) → AllFit (front_list role h) → h.role ≡ role_in role →
    IsFront age f → front_numbers role h ++ x ≡ front_numbers (role_number f.header.role) f.header ++ y →
    (role ≡ role_number (role_of f.content)) × (h ≡ f.header)
front_reported age role h f x y fits is front e =
    let n : ℕ = role_number f.header.role in
    let s = stream_splits (front_list role h) (front_list n f.header) x y fits
    (role_fits f.header.role, (front.allocations.1, (front.calls.1, (front.owner, tt)))) refl
    (sym (front_stream role h x) ∙ e ∙ front_stream n f.header y) in
    let same = same_front h.role f.header.role role h.allocations h.calls h.owner n f.header.allocations f.header.calls f.header.owner s.0
    is
    (role_again f.header.role) in
    (same.0 ∙ ap role_number front.role, same.1)

pub node_reported : (g : Geometry) (age role : ℕ) (h : ObjectHeader) (slots : List Cap) (f : Frame) (bytes rest : List ℕ) →
    AllFit (front_list role h) → h.role ≡ role_in role → AreKeptSlots g age slots
    → bytes ≡ front_numbers role h ++ rest → between 32 800 bytes ≡ slots_bytes slots → IsNodeFrame g age f → bytes ≡ node_frame_bytes f →
    IsReadOf f role h slots
node_reported g age role h slots f bytes rest fits role_is are front middle is e =
    let parts = node_parts g age f bytes is e in
    let reported = front_reported age role h f rest (slots_bytes (slots_of f.content) ++ zeros 224) fits role_is is.front
    (sym front ∙ parts.whole) in
    let same = slots_split g age slots (slots_of f.content) [] [] are.each is.slots.each (are.count ∙ sym is.slots.count)
    (ap (λ (r : List ℕ). r ++ []) (sym middle ∙ parts.middle)) in
    record { role_is = reported.0; header_is = reported.1; slots_are = same.0 }

-- the body that is read from a frame's bytes gives the frame's content
pub body_reported : (f : Frame) (role : ℕ) (h : ObjectHeader) (slots : List Cap) (age : ℕ) → IsReadOf f role h slots →
    FollowsRole f.content → IsFront age f → IsBody role h.owner slots (content_of (body_in role slots) slots [])
body_reported f role h slots age read follows front =
    let same : content_of (body_in role slots) slots [] ≡ f.content = grind (arith, nat_tests, content_again) in
    subst (IsBody role h.owner slots) (sym same)
    (record {
      role_is = read.role_is;
      slots_are = read.slots_are;
      follows = follows;
      unowned = grind (arith, nat_tests);
    })

-- the content of a node's frame doesn't depend on the words
same_content : (b : Body) (slots : List Cap) (words : List ℕ) → FollowsRole (content_of b slots []) →
    content_of b slots [] ≡ content_of b slots words
same_content b slots words f = grind (arith, nat_tests)

pub any_words : (role owner : ℕ) (b : Body) (slots : List Cap) (words : List ℕ) → IsBody role owner slots (content_of b slots []) →
    IsBody role owner slots (content_of b slots words)
any_words role owner b slots words is = subst (IsBody role owner slots) (same_content b slots words is.follows) is

-- if the front, slots and zeros that were read form a valid frame, the bytes encode it
pub node_found : (g : Geometry) (age role : ℕ) (h : ObjectHeader) (slots : List Cap) (c : Content Cap) (bytes : List ℕ) →
    AllFit (front_list role h) → h.role ≡ role_in role
    → IsCount age h.allocations × IsCount age h.calls → AreKeptSlots g age slots → IsBody role h.owner slots c
    → bytes ≡ front_numbers role h ++ drop 32 bytes → between 32 800 bytes ≡ slots_bytes slots → drop 800 bytes ≡ zeros 224
    → IsNodeFrame g age (record { header = h; content = c }) × (bytes ≡ node_frame_bytes (record { header = h; content = c }))
unfolding node_frame_bytes
node_found g age role h slots c bytes fits role_is counts are is front middle last =
    grind (
      arith,
      nat_tests,
      take-append-drop 768 (drop 32 bytes),
      drop-drop 768 32 bytes,
      role_again (role_of c),
      front_bytes_are h,
      append_assoc (front_bytes
          h) (slots_bytes (slots_of c)) (zeros 224),
    )

-- ---- free numbers

all_void : slots_bytes (replicate 32 void_held) ≡ zeros 768
all_void = voids_bytes 32

front_zeros : (m n : ℕ) → m ≤ n → take m (zeros n) ≡ zeros m
unfolding zeros
front_zeros m n le = take-replicate m n 0 le

-- if the bytes after the front are zeros and nobody owns the number, the bytes encode a free number
pub free_node_found : (g : Geometry) (age : ℕ) (h : ObjectHeader) (bytes : List ℕ) → AllFit (front_list 0 h) → h.role ≡ role_in 0
    → IsCount age h.allocations × IsCount age h.calls → h.owner ≡ 0 → bytes ≡ front_numbers 0 h ++ drop 32 bytes → drop 32 bytes ≡ zeros 992
    → IsNodeFrame g age (record { header = h; content = content.Free }) × (bytes
    ≡ node_frame_bytes (record { header = h; content = content.Free }))
free_node_found g age h bytes fits role_is counts unowned front blank =
    node_found g age 0 h (replicate 32 void_held) content.Free bytes fits role_is counts
    (record { count = refl; each = All-replicate (IsKeptCap g age) 32 void_held refl })
    (record { role_is = refl; slots_are = refl; follows = tt; unowned = λ _. unowned })
    front (ap (take 768) blank ∙ front_zeros 768 992 (omega arith) ∙ sym all_void)
    (sym (drop-drop 768 32 bytes) ∙ ap (drop 768) blank ∙ drop_zeros 768 992)

-- these bytes encode a free number below g.nodes
pub record IsFreeSpelling (age : ℕ) (h : ObjectHeader) (bytes : List ℕ) : Type 0 where
  pub counts : IsCount age h.allocations × IsCount age h.calls
  pub unowned : h.owner ≡ 0
  pub blank : drop 32 bytes ≡ zeros 992

free_slots : (c : Content Cap) → FollowsRole c → 0 ≡ role_number (role_of c) →
    record { free : IsTrue (is_free c); slots : slots_of c ≡ replicate 32 void_held }
free_slots c f e = grind (arith, nat_tests)

pub free_node_spelling : (g : Geometry) (age : ℕ) (h : ObjectHeader) (f : Frame) (bytes rest : List ℕ) → AllFit (front_list 0 h) →
    h.role ≡ role_in 0 → bytes ≡ front_numbers 0 h ++ rest → IsNodeFrame g age f → bytes ≡ node_frame_bytes f → IsFreeSpelling age h bytes
free_node_spelling g age h f bytes rest fits role_is front is e =
    let parts = node_parts g age f bytes is e in
    let spelt : List ℕ = slots_bytes (slots_of f.content) ++ zeros 224 in
    let reported = front_reported age 0 h f rest spelt fits role_is is.front (sym front ∙ parts.whole) in
    let same : h ≡ f.header = reported.1 in
    let free = free_slots f.content is.follows reported.0 in
    record {
      counts = subst (λ (x : ObjectHeader). IsCount age x.allocations × IsCount age x.calls) (sym same)
          (is.front.allocations, is.front.calls);
      unowned = ap (λ (x : ObjectHeader). x.owner) same ∙ is.front.unowned free.free;
      blank = ap (drop 32) parts.whole ∙ drop_at (front_numbers (role_number f.header.role) f.header) spelt 32 (length-front _ f.header)
          ∙ ap (λ (s : List Cap). slots_bytes s ++ zeros 224) free.slots ∙ ap (λ (r : List ℕ). r ++ zeros 224) all_void ∙ zeros_add 768 224;
    }

-- given bytes encode at most one frame
pub one_node_frame : (g : Geometry) (age : ℕ) (e f : Frame) → IsNodeFrame g age e → IsNodeFrame g age f →
    node_frame_bytes e ≡ node_frame_bytes f → e ≡ f
one_node_frame g age e f ie if same =
    let parts = node_parts g age e (node_frame_bytes e) ie refl in
    let read = node_reported g age (role_number e.header.role) e.header (slots_of e.content) f (node_frame_bytes e)
    (slots_bytes (slots_of e.content) ++ zeros 224)
    (role_fits e.header.role, (ie.front.allocations.1, (ie.front.calls.1, (ie.front.owner, tt)))) (sym (role_again e.header.role)) ie.slots
    parts.whole
    parts.middle if same in
    let contents : e.content ≡ f.content = grind (arith, nat_tests, content_again) in
    ap (λ (h : ObjectHeader). record { header = h; content = e.content }) read.header_is
    ∙ ap (λ (c : Content Cap). record { header = f.header; content = c })
    contents

pub root_count : (r : Root Cap) (held : List Cap) → held ≡ root_slots r → length r.words ≡ 4 → length held + 24 ≡ 32
root_count r held e len = grind (arith, nat_tests, length-append, length-map)

pub root_tail : (r : Root Cap) (held : List Cap) → held ≡ root_slots r → length r.words ≡ 4 →
    held ++ replicate (32 - length held) void_held ≡ slots_of (content.Root r)
root_tail r held e len = grind (arith, nat_tests, root_count)
