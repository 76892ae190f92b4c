-- Frames that may be kept at an age (they have encodings at it) may be kept after each change, at the same or the next age.
use Rattle.capability.proofs.Names.{nat_tests, rules, ℕ, List, length, slice_index_or, slice_set, refl, sym, ap, subst, arith, IsTrue, get_or_past, length-set}
use Rattle.capability.proofs.Names.{All-replicate, All-set, All-weaker, Cap, Capability, Frame, ObjectHeader, Geometry, Content, blank_frame, blank_header}
use Rattle.capability.proofs.Names.{called, claimed, frame_at, header_at, held_at, owned_by, void_held, AreKeepable, AreKeptSlots, AreKeptWords, Follows}
use Rattle.capability.proofs.Names.{IsCount, IsKeepable, IsKeptCap, MayBeKept, all_slots, is_annex, role_of, with_slot_in, with_word_in, zero_words, IsOfKind}
use Rattle.capability.proofs.Names.{object_count, Fresh, FreshFits, HaveTheirRoles, IsFreshAt, Parts, frames_of, fresh_content, with_both, with_header}
use Rattle.std.proofs.Common.{◌≡◌, ◌+◌, ◌^◌, ◌<◌, ◌≤◌, ◌∙◌}
use Rattle.model.specs.declared.object.Content.TheVariants as content
use Rattle.model.specs.declared.object.Role.TheVariants as role
use Rattle.capability.specs.declared.present.Fresh.TheVariants as fresh
use Rattle.capability.proofs.FrameLists.{at_set, frame_in, length_in, pair_at, set_in}

-- a count that may be kept at an age may be kept at a later one
count_later : (age later n : ℕ) → age ≤ later → IsCount age n → IsCount later n
count_later age later n le c = (omega (arith, c.0), c.1)

follows_later : (g : Geometry) (age later count : ℕ) → age ≤ later → (w : Capability) → Follows g age count w → Follows g later count w
follows_later g age later count le w f = grind (arith, nat_tests, count_later)

slots_later : (g : Geometry) (age later : ℕ) → age ≤ later → (slots : List Cap) → AreKeptSlots g age slots → AreKeptSlots g later slots
slots_later g age later le slots s = grind (arith, nat_tests, All-weaker, follows_later)

pub frame_later : (g : Geometry) (age later n : ℕ) (f : Frame) → age ≤ later → IsKeepable g age n f → IsKeepable g later n f
frame_later g age later n f le k = grind (arith, nat_tests, count_later, slots_later, follows_later)

-- frames that may be kept at an age may be kept at a later one
pub keepable_later : (g : Geometry) (age later : ℕ) (fs : List Frame) → age ≤ later → AreKeepable g age fs → AreKeepable g later fs
keepable_later g age later fs le k = grind (arith, nat_tests, frame_later)

-- if all frames may be kept, there is a header for each object number
pub keepable_count : (g : Geometry) (age : ℕ) (p : Parts) → AreKeepable g age (frames_of p) → length p.headers ≡ object_count g
keepable_count g age p k = sym (length_in p.headers p.contents) ∙ k.count

pub keepable_at : (g : Geometry) (age : ℕ) (p : Parts) (n : ℕ) → n < length p.headers → AreKeepable g age (frames_of p) →
    IsKeepable g age n (pair_at p.headers p.contents n)
keepable_at g age p n known k = grind (arith, nat_tests, frame_in p.headers p.contents n known, keepable_count g age p k)

pub keepable_from : (g : Geometry) (age : ℕ) (p : Parts) → length p.headers ≡ object_count g →
    ((n : ℕ) → n < length p.headers → IsKeepable g age n (pair_at p.headers p.contents n)) → AreKeepable g age (frames_of p)
keepable_from g age p count each = grind (arith, nat_tests, length_in, frame_in)

-- if frames may be kept, each header has the role of its content
pub keepable_roles : (g : Geometry) (age : ℕ) (fs : List Frame) → AreKeepable g age fs → HaveTheirRoles fs
keepable_roles g age fs k n = grind (arith, nat_tests, get_or_past)

-- facts if the object at n is replaced by one that may be kept at a later age
module _ (g : Geometry) (age later : ℕ) (le : age ≤ later) (p q : Parts) (n : ℕ) (h : ObjectHeader) (c : Content Cap)
    (inside : n < length p.contents) where
  pub one_keepable : q ≡ with_both p n h c → IsKeepable g later n (record { header = h; content = c }) → AreKeepable g age (frames_of p) →
      AreKeepable g later (frames_of q)
  one_keepable is new k =
      let frame : Frame = record { header = h; content = c } in
      subst (λ (fs : List Frame). AreKeepable g later fs) (sym (ap (λ (r : Parts). frames_of r) is
      ∙ set_in p.headers p.contents n h c inside))
      (record {
        count = length-set (frames_of p) n frame ∙ k.count;
        each = λ m known. at_set (λ (i : ℕ) (f : Frame). IsKeepable g later i f) (frames_of p) n m frame blank_frame new
            (frame_later g age later m (frame_at (frames_of p) m) le (k.each m known));
      })

-- a content may be replaced by another of its role, if that may be kept
pub refilled : (g : Geometry) (age n : ℕ) (h : ObjectHeader) (c d : Content Cap) → role_of d ≡ role_of c → IsOfKind g n d →
    MayBeKept g age d → IsKeepable g age n (record { header = h; content = c }) → IsKeepable g age n (record { header = h; content = d })
refilled g age n h c d same kind may k = grind (arith, nat_tests)

slots_set : (g : Geometry) (age : ℕ) (slots : List Cap) (i : ℕ) (held : Cap) → IsKeptCap g age held → AreKeptSlots g age slots →
    AreKeptSlots g age (slice_set slots i held)
slots_set g age slots i held new s = record {
  count = length-set slots i held ∙ s.count;
  each = All-set (IsKeptCap g age) slots i held new s.each;
}

pub with_slot_keeps : (g : Geometry) (age n : ℕ) (h : ObjectHeader) (c : Content Cap) (i : ℕ) (held : Cap) → IsKeptCap g age held →
    (IsTrue (is_annex c) → i ≡ 0 → held ≡ void_held) → IsKeepable g age n (record { header = h; content = c }) →
    IsKeepable g age n (record { header = h; content = with_slot_in c i held })
with_slot_keeps g age n h content.Free i held new first k = k
with_slot_keeps g age n h (content.Page words) i held new first k = k
with_slot_keeps g age n h (content.Node slots) i held new first k = search (refilled, slots_set)
with_slot_keeps g age n h (content.Root r) i held new first k = k
with_slot_keeps g age n h (content.Annex registers) i held new first k =
    refilled g age n h (content.Annex registers) (content.Annex (slice_set registers i held)) refl k.kind (
      slots_set g age registers i held new k.kept.content.0,
      at_set (λ (m : ℕ) (d : Cap). m ≡ 0 → d ≡ void_held) registers i 0 held void_held (first refl) (λ _. k.kept.content.1) refl,
    ) k
with_slot_keeps g age n h (content.Bank limit) i held new first k = k

pub with_word_keeps : (g : Geometry) (age n : ℕ) (h : ObjectHeader) (c : Content Cap) (i word : ℕ) → word < 2 ^ 64 →
    IsKeepable g age n (record { header = h; content = c }) → IsKeepable g age n (record { header = h; content = with_word_in c i word })
with_word_keeps g age n h content.Free i word fits k = k
with_word_keeps g age n h (content.Page words) i word fits k = search (refilled, length-set, All-set)
with_word_keeps g age n h (content.Node slots) i word fits k = k
with_word_keeps g age n h other i word fits k = k

-- one header changes, and the content of its object stays
module _ (g : Geometry) (age later : ℕ) (le : age ≤ later) (p q : Parts) (n : ℕ) (h : ObjectHeader) where
  header_keepable : q ≡ with_header p n h → IsKeepable g later n (record { header = h; content = held_at p.contents n }) →
      AreKeepable g age (frames_of p) → AreKeepable g later (frames_of q)
  header_keepable is new k =
      subst (λ (r : Parts). AreKeepable g later (frames_of r)) (sym is)
      (keepable_from g later (with_header p n h) (length-set p.headers n h ∙ keepable_count g age p k)
      (λ m within.
      let known : m < length p.headers = omega (arith, length-set p.headers n h) in
      at_set (λ (i : ℕ) (o : ObjectHeader). IsKeepable g later i (record { header = o; content = held_at p.contents i })) p.headers n m h
      blank_header new
      (frame_later g age later m (pair_at p.headers p.contents m) le (keepable_at g age p m known k))))

module _ (g : Geometry) (age : ℕ) (p q : Parts) (n : ℕ) (known : n < length p.headers) where
  pub owner_stays_keepable : (bank : ℕ) → bank < 2 ^ 64 → ((header_at p.headers n).role ≡ role.Free → bank ≡ 0) →
      q ≡ with_header p n (owned_by bank (header_at p.headers n)) → AreKeepable g age (frames_of p) → AreKeepable g age (frames_of q)
  owner_stays_keepable bank fits unowned is k =
      let old = keepable_at g age p n known k in
      header_keepable g age age (omega arith) p q n (owned_by bank (header_at p.headers n)) is
      (record {
        kind = old.kind;
        kept = grind (arith, nat_tests);
      }) k

  -- after a call count was raised by one, the frames may be kept at the next age
  pub call_stays_keepable : age + 1 < 2 ^ 64 → q ≡ with_header p n (called (header_at p.headers n)) →
      AreKeepable g age (frames_of p) → AreKeepable g (age + 1) (frames_of q)
  call_stays_keepable few is k =
      let before = keepable_at g age p n known k in
      let old = frame_later g age (age + 1) n (pair_at p.headers p.contents n) (omega arith) before in
      header_keepable g age (age + 1) (omega arith) p q n (called (header_at p.headers n)) is
      (record {
        kind = old.kind;
        kept = grind (arith, nat_tests);
      }) k

-- 32 void slots may be kept
blank_slots : (g : Geometry) (age : ℕ) → AreKeptSlots g age (all_slots void_held)
unfolding all_slots
blank_slots g age = record { count = refl; each = All-replicate (IsKeptCap g age) 32 void_held refl }

blank_words : AreKeptWords 512 zero_words
unfolding zero_words
blank_words = record { count_is = refl; each = All-replicate (λ w. w < 2 ^ 64) 512 0 (omega arith) }

first_blank : slice_index_or (all_slots void_held) 0 void_held ≡ void_held
unfolding all_slots
first_blank = refl

fresh_kept : (g : Geometry) (age : ℕ) (f : Fresh) → FreshFits f → MayBeKept g age (fresh_content void_held f)
fresh_kept g age fresh.Page fits = blank_words
fresh_kept g age fresh.Node fits = blank_slots g age
fresh_kept g age (fresh.Root annex) fits = (record { count_is = refl; each = search rules }, omega arith, fits, refl, tt)
fresh_kept g age fresh.Annex fits = (blank_slots g age, first_blank)
fresh_kept g age (fresh.Bank limit) fits = fits

fresh_kind : (g : Geometry) (n : ℕ) (f : Fresh) → n < object_count g → IsFreshAt g n f → IsOfKind g n (fresh_content void_held f)
fresh_kind g n f known place = grind (arith, nat_tests)

pub claim_stays_keepable : (age : ℕ) (p q : Parts) (n : ℕ) → n < length p.headers → n < length p.contents → (f : Fresh) (owner : ℕ) →
    owner < 2 ^ 64 → FreshFits f → IsFreshAt p.geometry n f →
    q ≡ with_both p n (claimed (role_of (fresh_content void_held f)) owner (header_at p.headers n)) (fresh_content void_held f) →
    AreKeepable p.geometry age (frames_of p) → AreKeepable p.geometry age (frames_of q)
claim_stays_keepable age p q n known inside f owner fits fresh_fits place is k =
    let g = p.geometry in
    let old = keepable_at g age p n known k in
    let h = claimed (role_of (fresh_content void_held f)) owner (header_at p.headers n) in
    one_keepable g age age (omega arith) p q n h (fresh_content void_held f) inside is
    (record {
      kind = fresh_kind g n f (subst (λ m. n < m) (keepable_count g age p k) known) place;
      kept = grind (arith, nat_tests, fresh_kept g age f fresh_fits);
    }) k
