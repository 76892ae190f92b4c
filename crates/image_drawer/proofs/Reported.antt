-- The objects of a world, and the entries of its description.
use Rattle.image_drawer.proofs.Names.{nat_tests, ℕ, List, [], map, length, Some, slice_index_or, refl, sym, ap, arith, Contains, get_or-map, get_or_past}
use Rattle.image_drawer.proofs.Names.{length-map, All-contains, get_or_from_slice_get, Cap, Capability, Void, Frame, Geometry, Content, Object, State, named}
use Rattle.image_drawer.proofs.Names.{blank_frame, frame_at, free, map_content, World, object_at, fresh_cap, BankEntry, Description, NodeEntry, PageEntry}
use Rattle.image_drawer.proofs.Names.{ProcessEntry, SlotEntry, AreSlots, HoldsNamed, IsDescribedAnnex, IsDescribedNode, IsDescribedPage, IsDescribedRoot}
use Rattle.image_drawer.proofs.Names.{first_frame, named_at, contains_here, contains_there, first_beyond, first_of, first_there, Describes, plain_frame}
use Rattle.image_drawer.proofs.Names.{plain_frames, unwrap_or, plain_at}
use Rattle.std.proofs.Common.{◌≡◌, ◌≢◌, ◌<◌, ◌≤◌, ◌∷◌, ◌∙◌}
use Rattle.model.specs.declared.object.Content.TheVariants as content

-- the capability in a held one, without its count
abbrev pub what : Cap → Capability
what c = c.what

whats_fresh : (cs : List Capability) → map what (map fresh_cap cs) ≡ cs
whats_fresh [] = refl
whats_fresh (c ∷ cs) = ap (λ (ds : List Capability). c ∷ ds) (whats_fresh cs)

content_back : (c : Content Capability) → map_content what (map_content fresh_cap c) ≡ c
content_back (content.Node slots) = ap (λ (cs : List Capability). let x : Content Capability = content.Node cs in x) (whats_fresh slots)
content_back (content.Annex registers) = ap (λ (cs : List Capability). let x : Content Capability = content.Annex cs in x)
    (whats_fresh registers)
content_back other = refl

-- the object of a plain frame
pub object_back : (o : Object) (owner : ℕ) (held : Content Cap) → plain_frame o ≡ first_frame owner held →
    o ≡ record { owner = owner; content = map_content what held }
object_back o owner held is = ap (λ (c : Content Capability). let x : Object = record { owner = o.owner; content = c } in x)
    (sym (content_back _) ∙ ap (λ (f : Frame). map_content what f.content) is)
    ∙ ap (λ (n : ℕ). let x : Object = record { owner = n; content = map_content what held } in x) (ap (λ (f : Frame). f.header.owner) is)

-- the slots hold what the entries name
pub record SaysSlots (entries : List SlotEntry) (slots : List Capability) : Type 0 where
  pub count : length slots ≡ 32
  pub each : (i : ℕ) → i < 32 → slice_index_or slots i Void ≡ named_at entries i

slots_said : (entries : List SlotEntry) (caps : List Cap) → HoldsNamed entries caps → SaysSlots entries (map what caps)
slots_said entries caps holds = record {
  count = length-map caps what ∙ holds.count;
  each = λ i lt. get_or-map what caps i (fresh_cap Void) ∙ ap what (get_or_from_slice_get caps i _ _ (holds.each i lt));
}

abbrev value_of : SlotEntry → Capability
value_of s = unwrap_or s.capability Void

-- if the capability at an index isn't void, it is that of an entry
entry_of : (entries : List SlotEntry) (i : ℕ) → named_at entries i ≢ Void →
    (s : SlotEntry) × Contains entries s × (s.index ≡ i) × (value_of s ≡ named_at entries i)
entry_of [] i some = absurd (some refl)
entry_of (s ∷ entries) i some = grind (arith, nat_tests, entry_of entries i, contains_here, first_there, first_beyond, contains_there)

module _ (first : ℕ) (entries : List SlotEntry) (slots : List Capability) (are : AreSlots first entries) (says : SaysSlots entries slots)
  where
    pub slot_said : (s : SlotEntry) → Contains entries s → slice_index_or slots s.index Void ≡ unwrap_or s.capability Void
    slot_said s there = says.each s.index (All-contains (λ (t : SlotEntry). (first ≤ t.index) × (t.index < 32)) _ s are.places there).1
        ∙ first_of (λ t. t.index) value_of Void _ s are.distinct there

    pub said_slot : (i : ℕ) (c : Capability) (target : ℕ) → slice_index_or slots i Void ≡ c → named c ≡ Some target
        → (s : SlotEntry) × Contains entries s × (s.index ≡ i) × (unwrap_or s.capability Void ≡ c)
    said_slot i c target is names = grind (arith, nat_tests, entry_of, get_or_past)

-- The parameters: a world and its description.
module _ (g : Geometry) (w : World) (d : Description) (describes : Describes g w d) where
  pub bank_reported : (b : BankEntry) → Contains d.banks.items b → object_at w.objects b.number
      ≡ record { owner = b.owner; content = content.Bank b.limit }
  bank_reported b there = object_back _ _ _ (sym (plain_at _ _) ∙
      All-contains (λ (b : BankEntry). frame_at (plain_frames w.objects) b.number ≡ first_frame b.owner (content.Bank b.limit)) _ b
      describes.frames.banks there)

  pub root_reported : (p : ProcessEntry) → Contains d.processes.items p → (state : State) × (space : Capability) × (p.space ≡ Some space)
      × (object_at w.objects p.root ≡ record {
        owner = p.owner;
        content = content.Root (record { state = state; words = p.words; key = p.key; annex = p.annex; space = space });
      })
  root_reported p there =
      let root = All-contains (λ (p : ProcessEntry). IsDescribedRoot p (frame_at (plain_frames w.objects) p.root)) _ p
      describes.frames.roots there in
      (root.0, root.1, root.3, object_back _ _ _ (sym (plain_at _ _) ∙ root.4))

  pub annex_reported : (p : ProcessEntry) → Contains d.processes.items p
      → (registers : List Capability) × SaysSlots p.registers.items registers ×
      (object_at w.objects p.annex ≡ record { owner = p.owner; content = content.Annex registers })
  annex_reported p there =
      let annex = All-contains (λ (p : ProcessEntry). IsDescribedAnnex p (frame_at (plain_frames w.objects) p.annex)) _ p
      describes.frames.annexes there in (
        map what annex.0,
        slots_said _ _ annex.1,
        object_back _ _ _ (sym (plain_at _ _) ∙ annex.2),
      )

  pub node_reported : (n : NodeEntry) → Contains d.nodes.items n
      → (slots : List Capability) × SaysSlots n.slots.items slots × (object_at w.objects n.number
      ≡ record { owner = n.owner; content = content.Node slots })
  node_reported n there =
      let node = All-contains (λ (n : NodeEntry). IsDescribedNode n (frame_at (plain_frames w.objects) n.number)) _ n describes.frames.nodes
      there
      in (
        map what node.0,
        slots_said _ _ node.1,
        object_back _ _ _ (sym (plain_at _ _) ∙ node.2),
      )

  pub page_reported : (p : PageEntry) → Contains d.pages.items p →
      (words : List ℕ) × (object_at w.objects p.number ≡ record { owner = p.owner; content = content.Page words })
  page_reported p there =
      let page = All-contains (λ (p : PageEntry). IsDescribedPage p (frame_at (plain_frames w.objects) p.number)) _ p describes.frames.pages
      there in
      (page.0, object_back _ _ _ (sym (plain_at _ _) ∙ page.2))

  -- a number without an entry is free
  pub free_reported : (n : ℕ) → frame_at (plain_frames w.objects) n ≡ blank_frame → object_at w.objects n ≡ free
  free_reported n is = object_back (object_at w.objects n) 0 content.Free (sym (plain_at w.objects n) ∙ is)
