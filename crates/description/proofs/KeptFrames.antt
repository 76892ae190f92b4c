-- The frames that are laid are those that the description names, and they have encodings.
use Rattle.description.proofs.Names.{nat_tests, inl, inr, ℕ, Option, None, Some, List, map, length, replicate, slice_index_or, unwrap_or, refl, sym, ap, subst}
use Rattle.description.proofs.Names.{arith, All, Contains, length-replicate, All-contains, All-replicate, slice_get-get_or, Cap, Capability, Void, Frame}
use Rattle.description.proofs.Names.{Geometry, Available, IsWellFormed, blank_frame, frame_at, void_held, AreKeepable, AreKeptSlots, Follows, IsCount, IsKept}
use Rattle.description.proofs.Names.{IsKeptCap, IsKeepable, IsOfKind, IsSpace, object_count, fresh_cap, BankEntry, Description, NodeEntry, PageEntry}
use Rattle.description.proofs.Names.{ProcessEntry, SlotEntry, WordEntry, World, AreSlots, AreWords, HasFields, HasNamedWords, HasNumbers, HoldsNamed}
use Rattle.description.proofs.Names.{IsSomeCapability, IsDescribed, IsProcessEntry, IsSpaceEntry, first_named, AllHave, AllIn, AllOfProcess, Entry, IfNamed}
use Rattle.description.proofs.Names.{IsLaid, OfAnnex, OfBank, OfNode, OfPage, OfRoot, entries, frame_of, laid, number_of, slot_held, slots_of, IsTarget}
use Rattle.description.proofs.Names.{words_of, Fits, IsGeometry}
use Rattle.std.proofs.Common.{◌≡◌, ◌≢◌, ◌+◌, ◌^◌, ◌<◌, ◌≤◌, ◌∙◌}
use Rattle.description.proofs.Entries.{IsFrameOf, IsOf, entries_distinct, entries_of, in_range, numbers_are, of_entries}
use Rattle.description.proofs.LaidFrames.{laid_both}
use Rattle.description.proofs.Lists.{all_from, contains_either, each_at, each_holds, each_of, each_other, first_map, length_each, map_contains, same_at}

-- ---- slots and words

abbrev void_slots : List Cap
void_slots = replicate 32 void_held

abbrev zeros : List ℕ
zeros = replicate 512 0

pub holds_named : (first : ℕ) (es : List SlotEntry) → AreSlots first es → HoldsNamed es (slots_of es)
unfolding slots_of
holds_named first es are = record {
  count = length_each (λ s. s.index) slot_held es void_slots ∙ length-replicate 32 void_held;
  each = λ i lt.
      let size : length (slots_of es) ≡ 32 = length_each (λ s. s.index) slot_held es void_slots ∙ length-replicate 32 void_held in
      slice_get-get_or (slots_of es) i void_held (rw size lt)
      ∙ ap Some (each_at (λ s. s.index) slot_held es void_slots i void_held are.distinct
      (λ k d inside. rw (length-replicate 32 void_held) (are.places k d inside).1)
      ∙ ap (λ v. first_named (λ s. s.index) slot_held v es i) (same_at 32 i void_held)
      ∙ first_map (λ s. s.index) (λ s. unwrap_or s.capability Void) fresh_cap Void es i);
}

pub holds_words : (es : List WordEntry) → AreWords es → HasNamedWords es (words_of es)
unfolding words_of
holds_words es are = record {
  count = length_each (λ w. w.index) (λ w. w.word) es zeros ∙ length-replicate {A = ℕ} 512 0;
  each = λ i lt.
      let size : length (words_of es) ≡ 512 = length_each (λ w. w.index) (λ w. w.word) es zeros ∙ length-replicate {A = ℕ} 512 0 in
      slice_get-get_or (words_of es) i 0 (rw size lt)
      ∙ ap Some (each_at (λ w. w.index) (λ w. w.word) es zeros i 0 are.distinct
      (λ k d inside. rw (length-replicate {A = ℕ} 512 0) (are.places k d inside))
      ∙ ap (λ v. first_named (λ w. w.index) (λ w. w.word) v es i) (same_at 512 i 0));
}

-- if no entry has index 0, slot 0 is void
pub first_void : (es : List SlotEntry) → AreSlots 1 es → slice_index_or (slots_of es) 0 void_held ≡ void_held
unfolding slots_of
first_void es are = each_other (λ s. s.index) slot_held es _ 0 _ (λ h. let found = map_contains (λ s. s.index) 0 es h in
    let place = All-contains (λ s. (1 ≤ s.index) × (s.index < 32)) es _ are.places found.1 in
    omega (arith, place.0, found.2))
    ∙ same_at 32 0 _

-- ---- capabilities

node_fits : (g : Geometry) (n : ℕ) → IsGeometry g → n < g.nodes → n < 2 ^ 64
node_fits g n is lt = omega (arith, lt, is.most_nodes)

page_fits : (g : Geometry) (n : ℕ) → IsGeometry g → n < g.nodes + g.pages → n < 2 ^ 64
page_fits g n is lt = omega (arith, lt, is.most_nodes, is.most_pages)

no_count : IsCount 0 0
no_count = (omega arith, omega arith)

pub follows : (g : Geometry) (c : Capability) → IsGeometry g → IsWellFormed c → IsTarget g c → Follows g 0 0 c
follows g c is formed target = grind (arith, nat_tests, page_fits, no_count, node_fits)

slot_kept : (g : Geometry) (o : Option Capability) → IsGeometry g → IsSomeCapability o → IfNamed (IsTarget g) o →
    IsKeptCap g 0 (fresh_cap (unwrap_or o Void))
slot_kept g o is formed target = search (arith, follows)

space_kept : (g : Geometry) (o : Option Capability) → IsGeometry g → IsSpaceEntry o → IfNamed (IsTarget g) o →
    IsKeptCap g 0 (fresh_cap (unwrap_or o Void)) × IsSpace (unwrap_or o Void)
space_kept g o is formed target = search (arith, follows)

pub slots_kept : (g : Geometry) (first : ℕ) (es : List SlotEntry) → IsGeometry g → AreSlots first es → AllIn (IsTarget g) es →
    AreKeptSlots g 0 (slots_of es)
unfolding slots_of
slots_kept g first es is are targets = record {
  count = length_each (λ s. s.index) slot_held es void_slots ∙ length-replicate 32 void_held;
  each = each_holds (λ s. s.index) slot_held (IsKeptCap g 0) es void_slots (All-replicate (IsKeptCap g 0) 32 void_held refl)
      (λ k d lt. slot_kept g (slice_index_or es k d).capability is (are.held k d lt) (targets k d lt));
}

-- ---- the frame of an object

kept_entry : (d : Description) (e : Entry) → IsGeometry d.geometry → HasNumbers d → HasFields d → AllHave (IsTarget d.geometry) d →
    IsOf d e → Fits e → IsKept d.geometry 0 (frame_of e)
kept_entry d (OfBank b) is numbers fields targets of fits = record {
  role = refl;
  allocations = no_count;
  calls = no_count;
  owner = fits.0;
  unowned = λ free. absurd cc;
  content = fits.1;
}
kept_entry d (OfRoot p) is numbers fields targets of fits =
    let good : IsProcessEntry p = All-contains IsProcessEntry d.processes.items p fields.processes of in
    let target = All-contains (AllOfProcess (IsTarget d.geometry)) d.processes.items p targets.processes of in
    let space = space_kept d.geometry p.space is good.space target.0 in
    record {
      role = refl;
      allocations = no_count;
      calls = no_count;
      owner = fits.0;
      unowned = λ free. absurd cc;
      content = (fits.1, good.key, node_fits _ _ is (in_range d (OfAnnex p) numbers of), space.0, space.1);
    }
kept_entry d (OfAnnex p) is numbers fields targets of fits =
    let good : IsProcessEntry p = All-contains IsProcessEntry d.processes.items p fields.processes of in
    let target = All-contains (AllOfProcess (IsTarget d.geometry)) d.processes.items p targets.processes of in
    record {
      role = refl;
      allocations = no_count;
      calls = no_count;
      owner = fits;
      unowned = λ free. absurd cc;
      content = (slots_kept d.geometry 1 p.registers.items is good.registers target.1, first_void _ good.registers);
    }
kept_entry d (OfNode n) is numbers fields targets of fits = record {
  role = refl;
  allocations = no_count;
  calls = no_count;
  owner = fits;
  unowned = λ free. absurd cc;
  content = slots_kept _ 0 _ is (All-contains (λ m. AreSlots 0 m.slots.items) _ n fields.nodes of)
      (All-contains (λ m. AllIn (IsTarget d.geometry) m.slots.items) _ n targets.nodes of);
}
kept_entry d (OfPage p) is numbers fields targets of fits = record {
  role = refl;
  allocations = no_count;
  calls = no_count;
  owner = fits.0;
  unowned = λ free. absurd cc;
  content = record {
    count_is = (holds_words _ (All-contains (λ q. AreWords q.words.items) d.pages.items p fields.pages of)).count;
    each = fits.1;
  };
}

kind_entry : (d : Description) (e : Entry) → HasNumbers d → IsOf d e → IsOfKind d.geometry (number_of e) (frame_of e).content
kind_entry d e numbers of = grind (arith, nat_tests, in_range)

-- if an option isn't `None`, it is `Some` of its value
there : {X : Type 0} → (o : Option X) (d : X) → o ≢ None → o ≡ Some (unwrap_or o d)
there o d some = search arith

is_frame : (d : Description) (e : Entry) → HasFields d → IsOf d e → IsFrameOf e (frame_of e)
is_frame d (OfBank b) fields of = refl
is_frame d (OfRoot p) fields of =
    let good : IsProcessEntry p = All-contains IsProcessEntry _ p fields.processes of in
    (unwrap_or p.state Available, unwrap_or p.space Void, there _ _ good.state, search (arith, good.space), refl)
is_frame d (OfAnnex p) fields of =
    let good : IsProcessEntry p = All-contains IsProcessEntry _ p fields.processes of in
    (slots_of p.registers.items, holds_named 1 _ good.registers, refl)
is_frame d (OfNode n) fields of = (
  slots_of n.slots.items,
  holds_named 0 _ (All-contains (λ m. AreSlots 0 m.slots.items) _ n fields.nodes
      of),
  refl,
)
is_frame d (OfPage p) fields of = (
  words_of p.words.items,
  holds_words _ (All-contains (λ q. AreWords q.words.items) _ p fields.pages of),
  refl,
)

-- ---- all frames

abbrev pub blanks : Description → List Frame
blanks d = replicate (object_count d.geometry) blank_frame

below : (d : Description) (e : Entry) → HasNumbers d → IsOf d e → number_of e < object_count d.geometry
below d e numbers of = grind (arith, nat_tests, in_range)

pub laid_entry : (d : Description) (e : Entry) → HasNumbers d → IsOf d e → frame_at (laid (entries d) (blanks d)) (number_of e) ≡ frame_of e
unfolding laid
laid_entry d e numbers of = each_of number_of frame_of _ _ e _ (entries_distinct d numbers)
    (all_from (λ f. number_of f < length (blanks d)) _
    (λ f h. subst (λ n. number_of f < n) (sym (length-replicate _ _)) (below d f numbers (entries_of d f h)))) (of_entries d e of)

pub laid_free : (d : Description) (n : ℕ) → (Contains (map number_of (entries d)) n → ⊥) →
    frame_at (laid (entries d) (blanks d)) n ≡ blank_frame
unfolding laid
laid_free d n none = each_other number_of frame_of (entries d) (blanks d) n blank_frame none
    ∙ same_at (object_count d.geometry) n blank_frame

pub laid_count : (d : Description) → length (laid (entries d) (blanks d)) ≡ object_count d.geometry
unfolding laid
laid_count d = length_each number_of frame_of (entries d) (blanks d) ∙ length-replicate (object_count d.geometry) blank_frame

laid_is : (d : Description) (e : Entry) → HasNumbers d → HasFields d → IsOf d e →
    IsFrameOf e (frame_at (laid (entries d) (blanks d)) (number_of e))
laid_is d e numbers fields of = subst (IsFrameOf e) (sym (laid_entry d e numbers of)) (is_frame d e fields of)

pub laid_described : (d : Description) → HasNumbers d → HasFields d → IsDescribed d (laid (entries d) (blanks d))
laid_described d numbers fields = record {
  count = laid_count d;
  banks = all_from _ d.banks.items (λ b of. laid_is d (OfBank b) numbers fields of);
  roots = all_from _ d.processes.items (λ p of. laid_is d (OfRoot p) numbers fields of);
  annexes = all_from _ d.processes.items (λ p of. laid_is d (OfAnnex p) numbers fields of);
  nodes = all_from _ d.nodes.items (λ n of. laid_is d (OfNode n) numbers fields of);
  pages = all_from _ d.pages.items (λ p of. laid_is d (OfPage p) numbers fields of);
  others = λ n none. laid_free d n (λ h. none (subst (λ ns. Contains ns n) (numbers_are d) h));
}

blank_kept : (g : Geometry) (n : ℕ) → IsKeepable g 0 n blank_frame
blank_kept g n = grind (arith, nat_tests, no_count)

pub laid_keepable : (d : Description) → IsGeometry d.geometry → HasNumbers d → HasFields d → AllHave (IsTarget d.geometry) d →
    All Fits (entries d) → AreKeepable d.geometry 0 (laid (entries d) (blanks d))
laid_keepable d is numbers fields targets fits = record {
  count = laid_count d;
  each = λ n lt. elim (contains_either (map number_of (entries d)) n) [
    | inl h ↦
        let found = map_contains number_of n (entries d) h in
        let of = entries_of d found.0 found.1 in
        let whole : IsKeepable d.geometry 0 (number_of found.0) (frame_of found.0) = record {
          kind = kind_entry d found.0 numbers of;
          kept = kept_entry d found.0 is numbers fields targets of (All-contains Fits (entries d) found.0 fits found.1);
        } in
        rw (← found.2) (rw (laid_entry d found.0 numbers of) whole)
    | inr none ↦ rw (laid_free d n none) (blank_kept d.geometry n)
  ];
}

-- ---- the worlds after each part

pub all_within : {E : Type 0} → (d : Description) (entry : E → Entry) (es xs : List E) (n : ℕ) → HasNumbers d →
    ((e : E) → Contains es e → IsOf d (entry e)) → xs ≡ es → n ≡ object_count d.geometry → All (λ e. number_of (entry e) < n) xs
all_within d entry es xs n numbers each same size = rw same (all_from (λ e. number_of (entry e) < n) es
    (λ e h. rw size (below d (entry e) numbers (each e h))))

laid_same : {E : Type 0} → (entry : E → Entry) (xs ys : List E) (old new : World) → xs ≡ ys → IsLaid (map entry xs) old new →
    IsLaid (map entry ys) old new
laid_same entry xs ys old new same is = subst (λ zs. IsLaid (map entry zs) old new) same is

pub laid_five : (d : Description) (bs : List BankEntry) (rs annexes : List ProcessEntry) (ns : List NodeEntry) (ps : List PageEntry)
    (w0 w1 w2 w3 w4 w5 : World) → bs ≡ d.banks.items → rs ≡ d.processes.items → annexes ≡ d.processes.items → ns ≡ d.nodes.items →
    ps ≡ d.pages.items
    → IsLaid (map OfBank bs) w0 w1 → IsLaid (map OfRoot rs) w1 w2 → IsLaid (map OfAnnex annexes) w2 w3 → IsLaid (map OfNode ns) w3 w4 →
    IsLaid (map OfPage ps) w4 w5
    → IsLaid (entries d) w0 w5
laid_five d bs rs annexes ns ps w0 w1 w2 w3 w4 w5 eb er ea en ep b r a n p =
    let one = laid_same OfBank bs _ w0 w1 eb b in
    let two = laid_both _ _ w0 w1 w2 one (laid_same OfRoot rs _ w1 w2 er r) in
    let three = laid_both _ _ w0 w2 w3 two (laid_same OfAnnex _ _ w2 w3 ea a) in
    let four = laid_both _ _ w0 w3 w4 three (laid_same OfNode ns _ w3 w4 en n) in
    laid_both _ _ w0 w4 w5 four (laid_same OfPage ps _ w4 w5 ep p)
