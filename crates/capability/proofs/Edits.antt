-- The objects of frames after a header, a content or a root changed at one number, and what such an edit leaves unchanged.
use Rattle.capability.proofs.Names.{ℕ, suc, inl, inr, nat_lt, List, [], map, length, slice_index_or, slice_set, refl, sym, ap, subst, arith, All, get_or-map}
use Rattle.capability.proofs.Names.{map-set_same, cases_lt, nat_tests, length-set, map-set, set-get_or, All-replicate, All-set, Cap, Capability, Void, Page}
use Rattle.capability.proofs.Names.{Node, Space, Process, Start, Resume, Bank, Frame, ObjectHeader, Content, Object, blank_header, conveyed, current_count}
use Rattle.capability.proofs.Names.{frames_in, header_at, headers, held_at, object_of, objects_of, void_held, owned_by, claimed, AreCurrent, IsCurrent, caps_in}
use Rattle.capability.proofs.Names.{all_slots, map_content, role_of, with_slot_in, with_word_in, content_at, with_content, Fresh, Parts, frames_of}
use Rattle.capability.proofs.Names.{fresh_content, with_both, with_header, with_held, objects_in, true, Geometry, Root, State, AreKeptWords, IsKeepable}
use Rattle.capability.proofs.Names.{IsKeptCap, MayBeKept, with_space, IsSpace, is_root, root_in, root_at, with_root, with_state, live_cap, with_root_in, IsTrue}
use Rattle.capability.proofs.Names.{AreKeepable, is_annex, is_process, with_slot, with_word, with_slots_from, Becomes, Edits, with_slots_in, set-set}
use Rattle.capability.proofs.Names.{get_or-set_same}
use Rattle.std.proofs.Common.{◌≡◌, ◌<◌, if◌then◌else◌, ◌∷◌, ◌∙◌, ◌^◌, ◌+◌}
use Rattle.model.specs.declared.object.Content.TheVariants as content
use Rattle.capability.proofs.FrameLists.{at_set, content_there, frame_in, frame_past, headers_in, owner_in, set_in}
use Rattle.capability.proofs.Keeping.{refilled, keepable_at, one_keepable, with_slot_keeps, with_word_keeps}

-- functions that agree on all items of a list map it to the same list
pub map_agree : {A B : Type 0} (f g : A → B) (xs : List A) → All (λ x. f x ≡ g x) xs → map f xs ≡ map g xs
map_agree f g [] each = refl
map_agree f g (x ∷ xs) each = cc (each 0 x (omega arith), map_agree f g xs (λ k d inside. each (suc k) d (omega arith)))

pub content_agree : (f g : Cap → Capability) (c : Content Cap) → All (λ x. f x ≡ g x) (caps_in c) → map_content f c ≡ map_content g c
content_agree f g x2 each = grind (arith, nat_tests, map_agree)

-- two headers have the same counts
abbrev pub HasCounts : ObjectHeader → ObjectHeader → Type 0
HasCounts h k = (h.allocations ≡ k.allocations) × (h.calls ≡ k.calls)

-- if a new header has the same field as the old one, this field is unchanged in the whole table
pub field_same : (field : ObjectHeader → ℕ) (hs : List ObjectHeader) (n : ℕ) (h : ObjectHeader) → field h ≡ field (header_at hs n) →
    (m : ℕ) → field (header_at (slice_set hs n h) m) ≡ field (header_at hs m)
field_same field hs n h same m =
    cc (get_or-map field (slice_set hs n h) m blank_header, map-set_same field hs n h blank_header same, get_or-map field hs m blank_header)

module _ (hs : List ObjectHeader) (n : ℕ) (h : ObjectHeader) (same : HasCounts h (header_at hs n)) where
  allocations_same : (m : ℕ) → (header_at (slice_set hs n h) m).allocations ≡ (header_at hs m).allocations
  allocations_same = field_same (λ (k : ObjectHeader). k.allocations) hs n h same.0

  pub current_same : (w : Capability) → current_count (slice_set hs n h) w ≡ current_count hs w
  current_same (Page o a) = allocations_same o
  current_same (Node o a) = allocations_same o
  current_same (Space o l a) = allocations_same o
  current_same (Process q) = allocations_same q
  current_same (Start q key) = allocations_same q
  current_same (Resume q) = field_same (λ (k : ObjectHeader). k.calls) hs n h same.1 q
  current_same (Bank b) = allocations_same b
  current_same other = refl

  pub conveyed_same : (c : Cap) → conveyed (slice_set hs n h) c ≡ conveyed hs c
  conveyed_same c = ap (λ (m : ℕ). if nat_lt c.count m then Void else c.what) (current_same c.what)

-- changing only a content keeps the header
pub header_kept : (p : Parts) (n : ℕ) (c : Content Cap) → with_held p n c ≡ with_both p n (header_at p.headers n) c
header_kept p n c = grind (arith, nat_tests, set-get_or)

pub content_kept : (p : Parts) (n : ℕ) (h : ObjectHeader) → with_header p n h ≡ with_both p n h (held_at p.contents n)
content_kept p n h = grind (arith, nat_tests, set-get_or)

-- if all frames are current, so are the capabilities of each content
pub current_held : (p : Parts) → AreCurrent (frames_of p) → (n : ℕ) → n < length p.headers →
    All (IsCurrent p.headers) (caps_in (held_at p.contents n))
current_held p current n known =
    subst (λ (hs : List ObjectHeader). All (IsCurrent hs) (caps_in (held_at p.contents n))) (headers_in p.headers p.contents)
    (subst (λ (f : Frame). All (IsCurrent (headers (frames_of p))) (caps_in f.content)) (frame_in p.headers p.contents n known) (current n))

pub current_from : (p : Parts) → ((n : ℕ) → n < length p.headers → All (IsCurrent p.headers) (caps_in (held_at p.contents n))) →
    AreCurrent (frames_of p)
current_from p each n = elim (cases_lt n (length p.headers)) [
  | inl known ↦
      subst (λ (f : Frame). All (IsCurrent (headers (frames_of p))) (caps_in f.content)) (sym (frame_in p.headers p.contents n known))
      (subst (λ (hs : List ObjectHeader). All (IsCurrent hs) (caps_in (held_at p.contents n))) (sym (headers_in p.headers p.contents))
      (each n known))
  | inr past ↦
      subst (λ (f : Frame). All (IsCurrent (headers (frames_of p))) (caps_in f.content)) (sym (frame_past p.headers p.contents n past))
      (λ k d inside. absurd (omega arith))
]

-- ---- an edit at a number that leaves both counts: only the object there changes
module _ (p : Parts) (n : ℕ) (h : ObjectHeader) (c : Content Cap) (inside : n < length p.contents)
    (same : HasCounts h (header_at p.headers n)) where
  pub objects_set : objects_in (with_both p n h c)
      ≡ slice_set (objects_in p) n (record { owner = h.owner; content = map_content (conveyed p.headers) c })
  unfolding objects_of
  objects_set =
      let hs = slice_set p.headers n h in
      let fs = frames_in hs (slice_set p.contents n c) in
      let frame : Frame = record { header = h; content = c } in
      let alike : (f : Frame) → object_of hs f ≡ object_of p.headers f =
      λ f. ap (λ (d : Content Capability). let o : Object = record { owner = f.header.owner; content = d } in o)
      (content_agree (conveyed hs) (conveyed p.headers) f.content (λ k d within. conveyed_same p.headers n h same
      (slice_index_or (caps_in f.content) k d))) in
      ap (λ (ks : List ObjectHeader). map (object_of ks) fs) (headers_in hs (slice_set p.contents n c))
      ∙ map_agree (object_of hs) (object_of p.headers) fs (λ k d within. alike (slice_index_or fs k d))
      ∙ ap (map (object_of p.headers)) (set_in p.headers p.contents n h c inside)
      ∙ map-set (object_of p.headers) (frames_of p) n frame
      ∙ ap (λ (ks : List ObjectHeader). slice_set (map (object_of ks) (frames_of p)) n (object_of p.headers frame))
      (sym (headers_in p.headers p.contents))

  -- if the new capabilities are live or stale, so are all
  pub current_set : All (IsCurrent p.headers) (caps_in c) → AreCurrent (frames_of p) → AreCurrent (frames_of (with_both p n h c))
  current_set new current =
      let hs = slice_set p.headers n h in
      current_from (with_both p n h c) (λ m known.
      let old : m < length p.headers = omega (arith, length-set p.headers n h) in
      let held : All (IsCurrent p.headers) (caps_in (held_at (slice_set p.contents n c) m)) =
      at_set (λ (k : ℕ) (d : Content Cap). All (IsCurrent p.headers) (caps_in d)) p.contents n m c content.Free new
      (current_held p current m old) in
      λ k d within. let is = current_same p.headers n h same (slice_index_or (caps_in (held_at (slice_set p.contents n c) m)) k d).what in
      rw is (held k d within))

-- facts if only a content has changed
module _ (p : Parts) (n : ℕ) (c : Content Cap) (known : n < length p.headers) (inside : n < length p.contents) where
  pub held_objects : objects_in (with_held p n c) ≡ with_content (objects_in p) n (map_content (conveyed p.headers) c)
  unfolding with_content
  held_objects = grind (arith, nat_tests, header_kept, objects_set, owner_in)

  pub held_current : All (IsCurrent p.headers) (caps_in c) → AreCurrent (frames_of p) → AreCurrent (frames_of (with_held p n c))
  held_current new current = grind (arith, nat_tests, header_kept, current_set)

-- changing a slot, a word or a message commutes with mapping the capabilities
pub slot_through_map : (f : Cap → Capability) (c : Content Cap) (i : ℕ) (held : Cap) →
    map_content f (with_slot_in c i held) ≡ with_slot_in (map_content f c) i (f held)
slot_through_map f c i held = grind (arith, nat_tests, map-set)

pub word_through_map : (f : Cap → Capability) (c : Content Cap) (i word : ℕ) →
    map_content f (with_word_in c i word) ≡ with_word_in (map_content f c) i word
word_through_map f c i word = grind (arith, nat_tests)

-- after a slot is set, all capabilities of the content are live or stale if the new one is
pub slot_current : (hs : List ObjectHeader) (c : Content Cap) (i : ℕ) (held : Cap) → IsCurrent hs held → All (IsCurrent hs) (caps_in c) →
    All (IsCurrent hs) (caps_in (with_slot_in c i held))
slot_current hs (content.Node slots) i held is all = All-set (IsCurrent hs) slots i held is all
slot_current hs (content.Annex registers) i held is all = All-set (IsCurrent hs) registers i held is all
slot_current hs other i held is all = all

pub word_current : (hs : List ObjectHeader) (c : Content Cap) (i word : ℕ) → All (IsCurrent hs) (caps_in c) →
    All (IsCurrent hs) (caps_in (with_word_in c i word))
word_current hs c i word all = grind (arith, nat_tests)

-- a capability stored with its object's count conveys itself
pub live : (hs : List ObjectHeader) (c : Capability) → conveyed hs (record { what = c; count = current_count hs c }) ≡ c
live hs c = grind (arith, nat_tests)

-- The edits of `objects` and `roots`; q has the parts after the edit.
module _ (p q : Parts) (n : ℕ) (known : n < length p.headers) (inside : n < length p.contents) where
  pub owner_objects : (bank : ℕ) → q ≡ with_header p n (owned_by bank (header_at p.headers n)) →
      objects_in q ≡ slice_set (objects_in p) n (record { owner = bank; content = content_at (objects_in p) n })
  owner_objects bank is = grind (arith, nat_tests, content_kept, objects_set, content_there)

  pub owner_stays_current : (bank : ℕ) → q ≡ with_header p n (owned_by bank (header_at p.headers n)) → AreCurrent (frames_of p) →
      AreCurrent (frames_of q)
  owner_stays_current bank is current = grind (arith, nat_tests, content_kept, current_set, current_held)

slots_current : (hs : List ObjectHeader) → All (IsCurrent hs) (all_slots void_held)
unfolding all_slots
slots_current hs = All-replicate (IsCurrent hs) 32 void_held (omega arith)

module _ (p q : Parts) (n : ℕ) (inside : n < length p.contents) (f : Fresh) (owner : ℕ)
    (is : q ≡ with_both p n (claimed (role_of (fresh_content void_held f)) owner (header_at p.headers n)) (fresh_content void_held f)) where
  pub claim_objects : objects_in q ≡ slice_set (objects_in p) n (record { owner = owner; content = fresh_content Void f })
  unfolding all_slots
  claim_objects = grind (arith, nat_tests, objects_set)

  pub claim_stays_current : AreCurrent (frames_of p) → AreCurrent (frames_of q)
  claim_stays_current current = grind (arith, nat_tests, current_set, slots_current)

-- a change of a root commutes with mapping its capabilities
abbrev pub GoesThrough : (Root Cap → Root Cap) → (Root Capability → Root Capability) → (Cap → Capability) → Type 0
GoesThrough change after f = (r : Root Cap) → map_content f (content.Root (change r))
    ≡ content.Root (after (root_in (map_content f (content.Root r))))

pub through_map : (change : Root Cap → Root Cap) (after : Root Capability → Root Capability) (f : Cap → Capability) →
    GoesThrough change after f → (c : Content Cap) →
    is_root (map_content f c) ≡ true → map_content f (with_root_in change c) ≡ content.Root (after (root_in (map_content f c)))
through_map change after f through c is = grind (arith, nat_tests)

pub root_current : (hs : List ObjectHeader) (change : Root Cap → Root Cap) →
    ((r : Root Cap) → IsCurrent hs r.space → IsCurrent hs (change r).space) → (c : Content Cap) →
    All (IsCurrent hs) (caps_in c) → All (IsCurrent hs) (caps_in (with_root_in change c))
root_current hs change stays c all = grind (arith, nat_tests)

pub root_keeps : (g : Geometry) (age n : ℕ) (h : ObjectHeader) (change : Root Cap → Root Cap) →
    ((r : Root Cap) → MayBeKept g age (content.Root r) → MayBeKept g age (content.Root (change r))) → (c : Content Cap) →
    IsKeepable g age n (record { header = h; content = c }) → IsKeepable g age n (record { header = h; content = with_root_in change c })
root_keeps g age n h change stays c k = grind (arith, nat_tests, refilled)

-- the words of a root may be kept after one of them is set to a 64-bit word
pub word_kept : (i word : ℕ) (ws : List ℕ) → word < 2 ^ 64 → AreKeptWords 4 ws → AreKeptWords 4 (slice_set ws i word)
word_kept i word ws fits k = record { count_is = length-set ws i word ∙ k.count_is; each = All-set (λ w. w < 2 ^ 64) ws i word fits k.each }

pub state_is : (os : List Object) (p : ℕ) (s : State) → with_state os p s ≡ with_root os p (record (root_at os p) { state = s })
unfolding with_state
state_is os p s = refl

pub space_through : (hs : List ObjectHeader) (w : Capability) (held : Cap) → held ≡ live_cap hs w →
    GoesThrough (λ (r : Root Cap). record r { space = held }) (λ (r : Root Capability). with_space r w) (conveyed hs)
space_through hs w held is r = grind (arith, nat_tests, live)

pub space_kept : (g : Geometry) (age : ℕ) (hs : List ObjectHeader) (w : Capability) (held : Cap) → held ≡ live_cap hs w →
    IsKeptCap g age (live_cap hs w) → IsSpace w → (r : Root Cap) →
    MayBeKept g age (content.Root r) → MayBeKept g age (content.Root (record r { space = held }))
space_kept g age hs w held is kept space r k = grind (arith, nat_tests)

-- an edit: the objects afterwards, and for which ages the frames may still be kept
pub record IsEdit (p q : Parts) (after : List Object) (may : ℕ → Type 0) : Type 0 where
  pub objects : objects_in q ≡ after
  pub current : AreCurrent (frames_of p) → AreCurrent (frames_of q)
  pub keepable : (age : ℕ) → may age → AreKeepable p.geometry age (frames_of p) → AreKeepable p.geometry age (frames_of q)

-- The content at number n has changed; q has the parts after the edit.
module _ (p q : Parts) (n : ℕ) (known : n < length p.headers) (inside : n < length p.contents) where
  abbrev held : Content Cap
  held = held_at p.contents n

  abbrev kept : Content Cap → ℕ → Type 0
  kept c age = IsKeepable p.geometry age n (record { header = header_at p.headers n; content = c })

  there : content_at (objects_in p) n ≡ map_content (conveyed p.headers) held
  there = content_there p n known held refl

  content_edit : (new : Content Cap) (conveys : Content Capability) (may : ℕ → Type 0) → map_content (conveyed p.headers) new ≡ conveys →
      (All (IsCurrent p.headers) (caps_in held) → All (IsCurrent p.headers) (caps_in new)) →
      ((age : ℕ) → may age → kept held age → kept new age) → q ≡ with_held p n new → IsEdit p q (with_content (objects_in p) n conveys) may
  content_edit new conveys may through current keeps is = record {
    objects = ap (λ (r : Parts). objects_in r) is ∙ held_objects p n new known inside ∙ ap (with_content (objects_in p) n) through;
    current = λ k. subst (λ (r : Parts). AreCurrent (frames_of r)) (sym is)
        (held_current p n new known inside (current (current_held p k n known)) k);
    keepable = λ age allowed k.
        one_keepable p.geometry age age (omega arith) p q n (header_at p.headers n) new inside (is ∙ header_kept p n new)
        (keeps age allowed (keepable_at p.geometry age p n known k)) k;
  }

  pub word_edit : (i word : ℕ) → word < 2 ^ 64 → q ≡ with_held p n (with_word_in held i word) →
      IsEdit p q (with_word (objects_in p) n i word) (λ age. Unit {0})
  unfolding with_word
  word_edit i word fits h1 = search (content_edit, word_through_map, there, word_current, with_word_keeps)

  pub slot_edit : (i : ℕ) (w : Capability) → q ≡ with_held p n (with_slot_in held i (live_cap p.headers w)) →
      IsEdit p q (with_slot (objects_in p) n i w) (λ age. IsKeptCap p.geometry age (live_cap p.headers w)
      × (IsTrue (is_annex held) → i ≡ 0 → w ≡ Void))
  unfolding with_slot
  slot_edit i w =
      let f = conveyed p.headers in
      content_edit (with_slot_in held i (live_cap p.headers w)) (with_slot_in (content_at (objects_in p) n) i w) _
      (slot_through_map f held i (live_cap p.headers w) ∙ ap (with_slot_in (map_content f held) i) (live p.headers w) ∙
      ap (λ (d : Content Capability). with_slot_in d i w) (sym there))
      (slot_current p.headers held i (live_cap p.headers w) (omega arith))
      (λ age may. with_slot_keeps p.geometry age n (header_at p.headers n) held i (live_cap p.headers w) may.0
      (λ annex zeroth. ap (live_cap p.headers) (may.1 annex zeroth)))

  pub root_edit : (change : Root Cap → Root Cap) (after : Root Capability → Root Capability) (may : ℕ → Type 0) →
      GoesThrough change after (conveyed p.headers) →
      ((r : Root Cap) → IsCurrent p.headers r.space → IsCurrent p.headers (change r).space) →
      ((age : ℕ) → may age → (r : Root Cap) → MayBeKept p.geometry age (content.Root r) →
      MayBeKept p.geometry age (content.Root (change r))) → is_process (objects_in p) n ≡ true →
      q ≡ with_held p n (with_root_in change held) → IsEdit p q (with_root (objects_in p) n (after (root_at (objects_in p) n))) may
  unfolding with_root
  root_edit change after may through current stays process =
      content_edit (with_root_in change held) (content.Root (after (root_at (objects_in p) n))) may
      (through_map change after (conveyed p.headers) through held (sym (ap is_root there) ∙ process) ∙
      ap (λ (d : Content Capability). content.Root (after (root_in d))) (sym there))
      (root_current p.headers change current held) (λ age allowed. root_keeps p.geometry age n (header_at p.headers n) change
      (stays age allowed) held)

-- setting the slots from i on, where 0 < i, is an edit
pub slots_edit : (p q : Parts) (n : ℕ) → n < length p.headers → n < length p.contents → (i : ℕ) → 0 < i → (cs : List Capability) →
    q ≡ with_held p n (with_slots_in (held_at p.contents n) i (map (live_cap p.headers) cs)) →
    IsEdit p q (with_slots_from (objects_in p) n i cs) (λ age. All (λ c. IsKeptCap p.geometry age (live_cap p.headers c)) cs)
slots_edit p q n known inside i behind [] is = grind (arith, nat_tests, set-get_or)
slots_edit p q n known inside i behind (c ∷ cs) is =
    let first : Content Cap = with_slot_in (held_at p.contents n) i (live_cap p.headers c) in
    let mid : Parts = with_held p n first in
    let step = slot_edit p mid n known inside i c refl in
    let last : Content Cap → Parts = λ d. with_held mid n (with_slots_in d (i + 1) (map (live_cap p.headers) cs)) in
    let again : with_held p n (with_slots_in first (i + 1) (map (live_cap p.headers) cs)) ≡ last first =
    grind (arith, nat_tests, set-set) in
    let rest = slots_edit mid q n known (omega (arith, length-set p.contents n first)) (i + 1) (omega arith) cs
    (is ∙ again ∙ ap last (sym (get_or-set_same p.contents n first content.Free inside))) in
    record {
      objects = rest.objects ∙ ap (λ (os : List Object). with_slots_from os n (i + 1) cs) step.objects;
      current = λ current. rest.current (step.current current);
      keepable = λ age may keepable.
          rest.keepable age (λ k d within. may (suc k) d (omega arith))
          (step.keepable age (may 0 Void (omega arith), λ annex zeroth. absurd (omega arith)) keepable);
    }

-- changing a content is an edit
pub edited : {S : Type 0} (parts : S → Parts) (Fetched Announced : S → ℕ → Type 0) (Continues : S → S → Type 0) (old new : S) (n : ℕ)
    (c : Content Cap) (after : List Object) (may : ℕ → Type 0) → Becomes parts Fetched Announced Continues old new
    (with_held (parts old) n c) → IsEdit (parts old) (parts new) after may → Edits parts Fetched Announced Continues old new after may
edited parts Fetched Announced Continues old new n c after may becomes edit = grind (arith, nat_tests)
