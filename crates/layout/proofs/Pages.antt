-- Frames of pages are read back from their bytes.
use Rattle.layout.proofs.Names.{nat_tests, [], ℕ, suc, List, length, take, drop, refl, sym, ap, subst, append_assoc, arith, IsTrue, All, flat_map}
use Rattle.layout.proofs.Names.{length-replicate, drop-drop, take_at, drop_at, take_all, take-append-drop, append-nil, length-drop, drop-take}
use Rattle.layout.proofs.Names.{drop_all, take-add, flat_map-append, All-replicate, Cap, Frame, ObjectHeader, Content, IsCount, AreKeptWords, role_of}
use Rattle.layout.proofs.Names.{role_number, is_free, zero_words, number, zeros, Body, front_numbers, front_bytes, page_words, words_bytes, page_frame_bytes}
use Rattle.layout.proofs.Names.{role_in, page_body_in, content_of, HoldsPage, IsPageFrame, IsPageBody, zero, get_or, get_or-drop, get_or_default, take_more}
use Rattle.layout.proofs.Names.{little_number, IsRead, Bor, content_behind, ContentRef}
use Rattle.std.proofs.Common.{◌≡◌, ◌+◌, ◌-◌, ◌*◌, ◌^◌, ◌<◌, ◌≤◌, ◌∷◌, ◌++◌, ◌∙◌}
use Rattle.std.specs.Prelude.{◌⊎◌}
use borrow.Rule.Slice.PartMut.{put_mid}
use Rattle.layout.proofs.Numbers.{length-number, length-zeros, stream, AllFit, stream_splits, IsBytes, number_read}
use Rattle.layout.proofs.Frames.{length-front, front_list, front_reported, front_bytes_are, role_again, role_fits, drop_zeros}
use Rattle.model.specs.declared.object.ContentRef.TheVariants as content_ref

pub words_bytes-nil : words_bytes [] ≡ []
unfolding words_bytes
words_bytes-nil = refl

words_bytes-push : (ws : List ℕ) (w : ℕ) → words_bytes (ws ++ w ∷ []) ≡ words_bytes ws ++ number w
unfolding words_bytes
words_bytes-push ws w = flat_map-append number ws (w ∷ []) ∙ ap (λ (r : List ℕ). flat_map number ws ++ r) (append-nil (number w))

pub words_stream : (ws : List ℕ) → words_bytes ws ≡ stream ws []
unfolding words_bytes
words_stream [] = refl
words_stream (w ∷ ws) = ap (λ (r : List ℕ). number w ++ r) (words_stream ws)

pub all_fit : (ws : List ℕ) → All (λ w. w < 2 ^ 64) ws → AllFit ws
all_fit [] all = tt
all_fit (w ∷ ws) all = (all 0 0 (omega arith), all_fit ws (λ k d lt. all (suc k) d (omega arith)))

-- ---- reading words

-- the first i words that were read are encoded by the first 8 i bytes
words_taken : (bytes words : List ℕ) → IsBytes bytes → length bytes ≡ 4096 → length words ≡ 512 → IsRead little_number 8 bytes words
    → (i : ℕ) → i ≤ 512 → take (8 * i) bytes ≡ words_bytes (take i words)
words_taken bytes words small size count read zero le = sym words_bytes-nil
words_taken bytes words small size count read (suc i) le =
    let next : 8 * suc i ≡ 8 * i + 8 = omega arith in
    let n : ℕ = get_or words i 0 in
    let on : suc i ≡ i + 1 = omega arith in
    let more : take (suc i) words ≡ take i words ++ n ∷ [] = ap (λ (m : ℕ). take m words) on ∙ take_more words i 0 (omega arith) in
    let is : drop (8 * i) bytes ≡ number n ++ drop (8 * i + 8) bytes = number_read bytes (8 * i) n (omega arith) small
    (read i (omega arith)) in
    let piece : take 8 (drop (8 * i) bytes) ≡ number n = ap (take 8) is ∙ take_at (number n) (drop (8 * i + 8) bytes) 8 (length-number n) in
    ap (λ (m : ℕ). take m bytes) next ∙ take-add (8 * i) 8 bytes
    ∙ ap (λ (r : List ℕ). r ++ take 8 (drop (8 * i) bytes)) (words_taken bytes words small size count read i (omega arith))
    ∙ ap (λ (r : List ℕ). words_bytes (take i words) ++ r) piece ∙ sym (words_bytes-push (take i words) n) ∙ ap words_bytes (sym more)

word_fits : (bytes words : List ℕ) → IsBytes bytes → IsRead little_number 8 bytes words → (k d : ℕ) → k < length words →
    get_or words k d < 2 ^ 64
word_fits bytes words small read k d lt = grind (arith, nat_tests, get_or-drop, get_or_default)

-- 512 words that were read may be kept, and the bytes are theirs
pub words_read : (bytes words : List ℕ) → IsBytes bytes → length bytes ≡ 4096 → length words ≡ 512 → IsRead little_number 8 bytes words
    → AreKeptWords 512 words × (bytes ≡ words_bytes words)
words_read bytes words small size count read = (
  record { count_is = count; each = word_fits bytes words small read },
  sym (take_all (8 * 512) bytes (omega arith)) ∙ words_taken bytes words small size count read 512 (omega arith)
      ∙ ap words_bytes (take_all 512 words (omega arith)),
)

-- ---- free pages

pub zero_words_fit : AreKeptWords 512 zero_words
unfolding zero_words
zero_words_fit = record { count_is = length-replicate {A = ℕ} 512 0; each = All-replicate (λ (w : ℕ). w < 2 ^ 64) 512 0 (omega arith) }

pub zero_words_bytes : words_bytes zero_words ≡ zeros 4096
unfolding words_bytes zero_words zeros number
zero_words_bytes = refl

-- ---- frames

pub words_fit : (c : Content Cap) → HoldsPage c → AreKeptWords 512 (page_words c)
words_fit c h = grind (arith, nat_tests, zero_words_fit)

pub content_again : (c : Content Cap) → HoldsPage c → content_of (page_body_in (role_number (role_of c))) [] (page_words c) ≡ c
content_again c h = grind (arith, nat_tests)

pub record HasPageParts (f : Frame) (bytes : List ℕ) : Type 0 where
  pub whole : bytes ≡ front_numbers (role_number f.header.role) f.header ++ (zeros 480 ++ words_bytes (page_words f.content))
  pub gap : take 480 (drop 32 bytes) ≡ zeros 480
  pub last : drop 512 bytes ≡ words_bytes (page_words f.content)

pub page_parts : (f : Frame) (bytes : List ℕ) → bytes ≡ page_frame_bytes f → HasPageParts f bytes
unfolding page_frame_bytes
page_parts f bytes e =
    let front : List ℕ = front_numbers (role_number f.header.role) f.header in
    let words : List ℕ = words_bytes (page_words f.content) in
    let whole : bytes ≡ front ++ (zeros 480 ++ words) = grind (arith, nat_tests, front_bytes_are, append_assoc) in
    let behind : drop 32 bytes ≡ zeros 480 ++ words = ap (drop 32) whole ∙ drop_at front (zeros 480 ++ words) 32 (length-front _ f.header)
    in
    record {
      whole = whole;
      gap = ap (take 480) behind ∙ take_at (zeros 480) words 480 (length-zeros 480);
      last = sym (drop-drop 480 32 bytes) ∙ ap (drop 480) behind ∙ drop_at (zeros 480) words 480 (length-zeros 480);
    }

pub record IsPageReadOf (f : Frame) (role : ℕ) (h : ObjectHeader) (words : List ℕ) : Type 0 where
  pub role_is : role ≡ role_number (role_of f.content)
  pub header_is : h ≡ f.header
  pub words_are : words ≡ page_words f.content

pub page_reported : (age role : ℕ) (h : ObjectHeader) (words : List ℕ) (f : Frame) (bytes rest : List ℕ) → AllFit (front_list role h) →
    h.role ≡ role_in role → AreKeptWords 512 words
    → bytes ≡ front_numbers role h ++ rest → drop 512 bytes ≡ words_bytes words → IsPageFrame age f → bytes ≡ page_frame_bytes f →
    IsPageReadOf f role h words
page_reported age role h words f bytes rest fits role_is are front last is e =
    let parts = page_parts f bytes e in
    let reported = front_reported age role h f rest (zeros 480 ++ words_bytes (page_words f.content)) fits role_is is.front
    (sym front ∙ parts.whole) in
    let held = words_fit f.content is.holds in
    let same = stream_splits words (page_words f.content) [] [] (all_fit words are.each) (all_fit (page_words f.content) held.each)
    (are.count_is ∙ sym held.count_is)
    (sym (words_stream words) ∙ sym last ∙ parts.last ∙ words_stream (page_words f.content)) in
    record { role_is = reported.0; header_is = reported.1; words_are = same.0 }

page_kind : (role owner : ℕ) (last : List ℕ) (c : Content Cap) → role ≡ role_number (role_of c) → last ≡ words_bytes (page_words c) →
    HoldsPage c → (IsTrue (is_free c) → owner ≡ 0) → (role ≡ 1) ⊎ ((role ≡ 0) × (owner ≡ 0) × (last ≡ zeros 4096))
page_kind role owner last c r l h unowned = grind (arith, nat_tests, zero_words_bytes)

-- these bytes encode a frame with the number of a page
pub record IsPageSpelling (age role : ℕ) (h : ObjectHeader) (bytes : List ℕ) : Type 0 where
  pub counts : IsCount age h.allocations × IsCount age h.calls
  pub gap : take 480 (drop 32 bytes) ≡ zeros 480
  pub kind : (role ≡ 1) ⊎ ((role ≡ 0) × (h.owner ≡ 0) × (drop 512 bytes ≡ zeros 4096))

pub page_spelling : (age role : ℕ) (h : ObjectHeader) (f : Frame) (bytes rest : List ℕ) → AllFit (front_list role h) → h.role ≡ role_in role
    → bytes ≡ front_numbers role h ++ rest → IsPageFrame age f → bytes ≡ page_frame_bytes f → IsPageSpelling age role h bytes
page_spelling age role h f bytes rest fits role_is front is e =
    let parts = page_parts f bytes e in
    let reported = front_reported age role h f rest (zeros 480 ++ words_bytes (page_words f.content)) fits role_is is.front
    (sym front ∙ parts.whole) in
    let same : h ≡ f.header = reported.1 in
    record {
      counts = subst (λ (x : ObjectHeader). IsCount age x.allocations × IsCount age x.calls) (sym same)
          (is.front.allocations, is.front.calls);
      gap = parts.gap;
      kind = page_kind role h.owner (drop 512 bytes) f.content reported.0 parts.last is.holds
          (λ t. ap (λ (x : ObjectHeader). x.owner) same ∙ is.front.unowned t);
    }

-- c is the content with this role, owner and words
record IsPageContent (role owner : ℕ) (words : List ℕ) (c : Content Cap) : Type 0 where
  pub role_is : role ≡ role_number (role_of c)
  pub words_are : words ≡ page_words c
  pub holds : HoldsPage c
  pub unowned : IsTrue (is_free c) → owner ≡ 0

page_content : (role owner : ℕ) (slots : List Cap) (words : List ℕ) → AreKeptWords 512 words → IsPageBody role owner words →
    IsPageContent role owner words (content_of (page_body_in role) slots words)
page_content role owner slots words are h1 = grind (arith, nat_tests)

pub page_found : (age role : ℕ) (h : ObjectHeader) (slots : List Cap) (words : List ℕ) (b : Body) (bytes : List ℕ) →
    AllFit (front_list role h) → h.role ≡ role_in role → b ≡ page_body_in role
    → IsCount age h.allocations × IsCount age h.calls → AreKeptWords 512 words → IsPageBody role h.owner words
    → bytes ≡ front_numbers role h ++ drop 32 bytes → take 480 (drop 32 bytes) ≡ zeros 480 → drop 512 bytes ≡ words_bytes words
    → IsPageFrame age (record { header = h; content = content_of b slots words }) ×
    (bytes ≡ page_frame_bytes (record { header = h; content = content_of b slots words }))
unfolding page_frame_bytes
page_found age role h slots words b bytes fits role_is body_is counts are was front gap last =
    let c : Content Cap = content_of b slots words in
    let f : Frame = record { header = h; content = c } in
    let is : IsPageContent role h.owner words c = grind (arith, nat_tests, page_content) in
    let same_role : h.role ≡ role_of c = role_is ∙ ap role_in is.role_is ∙ role_again (role_of c) in
    let behind : drop 32 bytes ≡ zeros 480 ++ words_bytes words = cc (take-append-drop 480 (drop 32 bytes), drop-drop 480 32 bytes) in
    let spelt : bytes ≡ front_bytes h ++ (zeros 480 ++ words_bytes (page_words c)) = grind (arith, nat_tests, front_bytes_are) in (
      record {
        front = record { role = same_role; allocations = counts.0; calls = counts.1; owner = fits.1.1.1.0; unowned = is.unowned };
        holds = is.holds;
      },
      spelt ∙ sym (append_assoc (front_bytes h) (zeros 480) (words_bytes (page_words c))),
    )

-- given bytes encode at most one frame of a page's number
pub one_page_frame : (age : ℕ) (e f : Frame) → IsPageFrame age e → IsPageFrame age f → page_frame_bytes e ≡ page_frame_bytes f → e ≡ f
one_page_frame age e f ie if same =
    let parts = page_parts e (page_frame_bytes e) refl in
    let read = page_reported age (role_number e.header.role) e.header (page_words e.content) f (page_frame_bytes e)
    (zeros 480 ++ words_bytes (page_words e.content))
    (role_fits e.header.role, (ie.front.allocations.1, (ie.front.calls.1, (ie.front.owner, tt)))) (sym (role_again e.header.role))
    (words_fit e.content ie.holds) parts.whole parts.last if same in
    let contents : e.content ≡ f.content = grind (arith, nat_tests, content_again) in
    ap (λ (h : ObjectHeader). record { header = h; content = e.content }) read.header_is
    ∙ ap (λ (c : Content Cap). record { header = f.header; content = c })
    contents

-- ---- writing

take_gap : (xs : List ℕ) → take 480 (drop 32 xs) ≡ drop 32 (take 512 xs)
take_gap xs = sym (drop-take 32 480 xs)

pub fronted : (h : ObjectHeader) (blanked new : List ℕ) → take 512 blanked ≡ zeros 512
    → take 32 new ≡ front_numbers (role_number h.role) h → drop 32 new ≡ drop 32 blanked → take 512 new ≡ front_bytes h ++ zeros 480
fronted h blanked new blank before after = grind (
  arith,
  nat_tests,
  take_gap blanked,
  drop_zeros 32 512,
  take-add 32 480 new,
  front_bytes_are h,
)

pub page_written : (f : Frame) (front new body : List ℕ) → take 512 front ≡ front_bytes f.header ++ zeros 480 →
    body ≡ words_bytes (page_words f.content) → new ≡ take 512 front ++ body → new ≡ page_frame_bytes f
unfolding page_frame_bytes
page_written f front new body before spelt is = grind (arith, nat_tests)

pub put_last : (xs ys : List ℕ) (at : ℕ) → put_mid at (length xs - at) xs ys ≡ take at xs ++ ys
put_last xs ys at = grind (arith, nat_tests, drop_all, length-drop, append-nil)

pub default_written : (f : Frame) (front new : List ℕ) → take 512 front ≡ front_bytes f.header ++ zeros 480 →
    page_words f.content ≡ zero_words → new ≡ take 512 front ++ zeros 4096 → new ≡ page_frame_bytes f
default_written f front new before words is = page_written f front new (zeros 4096) before
    (sym zero_words_bytes ∙ ap words_bytes (sym words)) is

pub not_page : (r : ContentRef) → ((words : Bor (List ℕ)) → r ≡ content_ref.Page words → ⊥) → page_words (content_behind r) ≡ zero_words
not_page r h = grind (arith, nat_tests)
