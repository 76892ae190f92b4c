-- Renumbering capabilities and frames for an image of other sizes.
use Rattle.image_describer.proofs.Names.{ℕ, Bool, true, false, List, [], map, Option, Some, None, refl, sym, ap, subst, arith, All, nat_tests, length-map}
use Rattle.image_describer.proofs.Names.{All-map, All-weaker, slice_get-map, Cap, Capability, Void, Page, Space, Frame, Geometry, Content, Object, IsWellFormed}
use Rattle.image_describer.proofs.Names.{named, map_content, IsSpace, object_count, fresh_cap, SlotEntry, AreDistinct, AreSlots, HoldsNamed, IsSomeCapability}
use Rattle.image_describer.proofs.Names.{IsSpaceEntry, named_at, AreBriefSlots, AreRising, plain_frame, moved, moved_capability, moved_held, moved_object}
use Rattle.image_describer.proofs.Names.{moved_slot, IsWide, NamesWide, SpellsSlot, unwrap_or}
use Rattle.std.proofs.Common.{◌≡◌, ◌≢◌, ◌+◌, ◌-◌, ◌<◌, ◌≤◌, if◌then◌else◌, ◌∷◌, ◌∙◌}
use Rattle.std.specs.Prelude.{◌==◌, IfSome, option_map}

-- ---- numbers

pub node_stays : (old new : Geometry) (n : ℕ) → n < old.nodes → moved old new n ≡ n
node_stays old new n below = grind (arith, nat_tests)

pub page_moves : (old new : Geometry) (n : ℕ) → old.nodes ≤ n → n < object_count old → moved old new n ≡ n - old.nodes + new.nodes
page_moves old new n above below = grind (arith, nat_tests)

pub stays_itself : (g : Geometry) (n : ℕ) → moved g g n ≡ n
stays_itself g n = grind (arith, nat_tests)

-- if a number has 64 bits, so has its new number
pub moved_wide : (old new : Geometry) (n : ℕ) → object_count old ≤ 8192 → new.nodes ≤ 4096 → IsWide n → IsWide (moved old new n)
moved_wide old new n few also wide = grind (arith, nat_tests)

-- ---- capabilities

module _ (at : ℕ → ℕ) where
  pub well_formed_moved : (c : Capability) → IsWellFormed c → IsWellFormed (moved_capability at c)
  well_formed_moved c h = grind (arith, nat_tests)

  pub space_moved : (c : Capability) → IsSpace c → IsSpace (moved_capability at c)
  space_moved Void h = tt
  space_moved (Page o a) h = tt
  space_moved (Space o k a) h = tt
  space_moved other h = absurd h

  pub void_moved : (c : Capability) → moved_capability at c ≡ Void → c ≡ Void
  void_moved Void h = refl
  void_moved other h = absurd cc

  pub named_moved : ((n : ℕ) → IsWide n → IsWide (at n)) → (c : Capability) → IfSome (named c) IsWide →
      IfSome (named (moved_capability at c)) IsWide
  named_moved on c h = grind (arith, nat_tests)

  -- renumbering an absent capability gives void, as renumbering void does
  pub held_moved : (o : Option Capability) → unwrap_or (moved_held at o) Void ≡ moved_capability at (unwrap_or o Void)
  held_moved None = refl
  held_moved (Some c) = refl

  pub some_moved : (o : Option Capability) → IsSomeCapability o → IsSomeCapability (moved_held at o)
  some_moved None h = h
  some_moved (Some c) h = well_formed_moved c h

  pub space_entry_moved : (o : Option Capability) → IsSpaceEntry o → IsSpaceEntry (moved_held at o)
  space_entry_moved None h = h
  space_entry_moved (Some c) h = (well_formed_moved c h.0, space_moved c h.1)

  pub wide_moved : ((n : ℕ) → IsWide n → IsWide (at n)) → (o : Option Capability) → NamesWide o → NamesWide (moved_held at o)
  wide_moved on None h = tt
  wide_moved on (Some c) h = named_moved on c h

  pub not_void_moved : (o : Option Capability) → o ≢ Some Void → moved_held at o ≢ Some Void
  not_void_moved None h is = absurd cc
  not_void_moved (Some c) h is =
      let same : moved_capability at c ≡ Void = ap (λ (p : Option Capability). unwrap_or p Void) is in
      h (ap (λ (d : Capability). Some d) (void_moved c same))

  -- renumbering capabilities keeps the indexes of slots
  pub indexes_moved : (es : List SlotEntry) → map (λ s. s.index) (map (moved_slot at) es) ≡ map (λ s. s.index) es
  indexes_moved [] = refl
  indexes_moved (e ∷ es) = ap (λ (ns : List ℕ). e.index ∷ ns) (indexes_moved es)

  pub slots_moved : (first : ℕ) (es : List SlotEntry) → AreSlots first es → AreSlots first (map (moved_slot at) es)
  slots_moved first es are = record {
    places = All-map (λ (s : SlotEntry). (first ≤ s.index) × (s.index < 32)) (moved_slot at) es are.places;
    distinct = subst AreDistinct (sym (indexes_moved es)) are.distinct;
    held = All-map (λ (s : SlotEntry). IsSomeCapability s.capability) (moved_slot at) es
        (All-weaker (λ (s : SlotEntry). IsSomeCapability s.capability) (λ (s : SlotEntry). IsSomeCapability (moved_held at s.capability))
        (λ s h. some_moved s.capability h) es are.held);
  }

  pub spelled_moved : ((n : ℕ) → IsWide n → IsWide (at n)) → (es : List SlotEntry) → All SpellsSlot es →
      All SpellsSlot (map (moved_slot at) es)
  spelled_moved on es all = All-map SpellsSlot (moved_slot at) es
      (All-weaker SpellsSlot (λ (s : SlotEntry). SpellsSlot (moved_slot at s)) (λ s h. (h.0, wide_moved on _ h.1)) es all)

  pub brief_moved : (es : List SlotEntry) → AreBriefSlots es → AreBriefSlots (map (moved_slot at) es)
  brief_moved es brief = (
    subst AreRising (sym (indexes_moved es)) brief.0,
    All-map (λ (s : SlotEntry). s.capability ≢ Some Void) (moved_slot at) es
        (All-weaker (λ (s : SlotEntry). s.capability ≢ Some Void) (λ (s : SlotEntry). moved_held at s.capability ≢ Some Void)
        (λ s h. not_void_moved s.capability h) es brief.1),
  )

  chosen : (b : Bool) (c d : Capability) (o : Option Capability) → c ≡ moved_capability at d →
      (if b then unwrap_or (moved_held at o) Void else c) ≡ moved_capability at (if b then unwrap_or o Void else d)
  chosen true c d o is = held_moved o
  chosen false c d o is = is

  pub named_at_moved : (es : List SlotEntry) (i : ℕ) → named_at (map (moved_slot at) es) i ≡ moved_capability at (named_at es i)
  named_at_moved [] i = refl
  named_at_moved (e ∷ es) i = chosen (e.index == i) (named_at (map (moved_slot at) es) i) (named_at es i) e.capability (named_at_moved es i)

  -- ---- frames

  abbrev pub moved_cap : Cap → Cap
  moved_cap c = record { what = moved_capability at c.what; count = c.count }

  abbrev pub moved_frame : Frame → Frame
  moved_frame f = record { header = f.header; content = map_content moved_cap f.content }

  pub holds_moved : (es : List SlotEntry) (slots : List Cap) → HoldsNamed es slots →
      HoldsNamed (map (moved_slot at) es) (map moved_cap slots)
  holds_moved es slots holds = record {
    count = length-map slots moved_cap ∙ holds.count;
    each = λ i inside.
        slice_get-map moved_cap slots i ∙ ap (λ (o : Option Cap). option_map moved_cap o) (holds.each i inside)
        ∙ ap (λ (c : Capability). Some (fresh_cap c)) (sym (named_at_moved es i));
  }

  fresh_moved : (cs : List Capability) → map fresh_cap (map (moved_capability at) cs) ≡ map moved_cap (map fresh_cap cs)
  fresh_moved [] = refl
  fresh_moved (c ∷ cs) = ap (λ (ds : List Cap). fresh_cap (moved_capability at c) ∷ ds) (fresh_moved cs)

  plain_content : (owner : ℕ) (c : Content Capability)
      → plain_frame (record { owner = owner; content = map_content (moved_capability at) c }) ≡ moved_frame
      (plain_frame (record { owner = owner; content = c }))
  plain_content owner c = grind (arith, nat_tests, fresh_moved)

  pub plain_moved : (o : Object) → plain_frame (moved_object at o) ≡ moved_frame (plain_frame o)
  plain_moved o = plain_content o.owner o.content
