-- The numbers in the description of a sound world are small enough for a text.
use Rattle.image_describer.proofs.Names.{nat_tests, ℕ, true, List, [], map, Option, Some, None, IfSome, refl, sym, ap, subst, arith, IsTrue, All, Contains}
use Rattle.image_describer.proofs.Names.{All-contains, All-from_recursion, All-map, All-weaker, Contains-append_left, Contains-append_right, Cap, Capability}
use Rattle.image_describer.proofs.Names.{Void, Frame, Geometry, Content, Object, named, frame_at, objects_of, AreKeptSlots, AreKeptWords, Follows, IsKeepable}
use Rattle.image_describer.proofs.Names.{IsKeptCap, IsSoundFrames, MayBeKept, world_at, is_bank, is_free, map_content, role_of, IsOfKind, object_count}
use Rattle.image_describer.proofs.Names.{content_at, object_at, owner_at, HomeRange, Version, One, Two, Three, Cover, IsPlan, Plan, version_number, numbers_of}
use Rattle.image_describer.proofs.Names.{fresh_cap, mapped, BankEntry, Description, NodeEntry, PageEntry, ProcessEntry, SlotEntry, WordEntry, AreSlots}
use Rattle.image_describer.proofs.Names.{AreWords, HasNamedWords, HoldsNamed, IsDescribedNode, IsDescribedPage, IsDescribedAnnex, IsDescribedRoot}
use Rattle.image_describer.proofs.Names.{IsProcessEntry, first_frame, named_at, node_numbers, word_named_at, all_from, all_got, contains_map, first_of}
use Rattle.image_describer.proofs.Names.{Describes, plain_frame, plain_frames, DescribedHasText, IsShort, IsWide, NamesWide, SpellsBank, SpellsGeometry}
use Rattle.image_describer.proofs.Names.{SpellsNode, SpellsPage, SpellsProcess, SpellsRange, SpellsSlot, SpellsWord, unwrap_or, cover_within, plain_at}
use Rattle.std.proofs.Common.{◌≡◌, ◌≢◌, ◌+◌, ◌<◌, ◌≤◌, ◌^◌, ◌∷◌, ◌++◌, ◌∙◌}
use Rattle.std.specs.List.{AllByRecursion as ByRecursion}
use Rattle.model.specs.declared.object.Content.TheVariants as content
use Rattle.model.specs.declared.object.Role.TheVariants as role
use Rattle.image_describer.proofs.Plain.{sound_plain}

-- a capability that may be held names a number of 64 bits
follows_wide : (g : Geometry) (age count : ℕ) (c : Capability) → Follows g age count c → IfSome (named c) IsWide
follows_wide g age count c h = grind (arith, nat_tests)

held_wide : (g : Geometry) (age : ℕ) (o : Option Capability) → Follows g age 0 (unwrap_or o Void) → NamesWide o
held_wide g age None h = tt
held_wide g age (Some c) h = follows_wide g age 0 c h

bank_kind : {C : Type 0} (g : Geometry) (n : ℕ) (c : Content C) → IsTrue (is_bank c) → IsOfKind g n c → n < g.nodes
bank_kind g n (content.Bank limit) bank kind = kind
bank_kind g n other bank kind = absurd cc

-- the parameters: a geometry and an age, at which the entries' slots and words have encodings
module _ (g : Geometry) (age : ℕ) where
  pub slots_short : (first : ℕ) (entries : List SlotEntry) (slots : List Cap) → AreSlots first entries → HoldsNamed entries slots →
      AreKeptSlots g age slots → All SpellsSlot entries
  slots_short first entries slots are holds kept = all_from SpellsSlot _ (λ s there.
      let place = All-contains (λ (t : SlotEntry). (first ≤ t.index) × (t.index < 32)) _ s are.places there in
      let held : IsKeptCap g age (fresh_cap (named_at entries s.index)) = all_got (IsKeptCap g age) slots _ _ kept.each
      (holds.each s.index place.1) in
      let is : named_at entries s.index ≡ unwrap_or s.capability Void = first_of (λ t. t.index) (λ t. unwrap_or t.capability Void) Void _ s
      are.distinct
      there in (
        omega (arith, place.1),
        held_wide g age _ (subst (Follows g age 0) is held),
      ))

  pub words_short : (entries : List WordEntry) (words : List ℕ) → AreWords entries → HasNamedWords entries words → AreKeptWords 512 words →
      All SpellsWord entries
  words_short entries words are holds kept = all_from SpellsWord _ (λ w there.
      let place = All-contains (λ (v : WordEntry). v.index < 512) _ w are.places there in
      let wide : word_named_at entries w.index < 2 ^ 64 = all_got (λ (v : ℕ). v < 2 ^ 64) words _ _ kept.each (holds.each w.index place) in
      let is : word_named_at entries w.index ≡ w.word = first_of (λ v. v.index) (λ v. v.word) 0 _ w are.distinct there in (
        omega (arith, place),
        subst (λ (v : ℕ). v < 2 ^ 64) is wide,
      ))

-- the numbers of a home range end within those of the image
abbrev IsInside : Geometry → HomeRange → Type 0
IsInside g r = r.first + r.count ≤ g.nodes + g.pages

ranges_inside : (g : Geometry) (n : ℕ) (rs : List HomeRange) → Cover g n rs → ByRecursion (IsInside g) rs
ranges_inside g n [] cover = tt
ranges_inside g n (r ∷ rs) cover =
    let rest = cover_within g (n + r.count) rs cover.1 in (omega (arith, rest, cover.0.0), ranges_inside g (n + r.count) rs cover.1)

free_role : {C : Type 0} (c : Content C) → is_free c ≡ true → role_of c ≡ role.Free
free_role content.Free free = refl
free_role other free = absurd cc

version_short : (v : Version) → IsShort (version_number v)
version_short One = omega arith
version_short Two = omega arith
version_short Three = omega arith

module _ (p : Plan) (plan : IsPlan p) (age : ℕ) (fs : List Frame) (d : Description) (sound : IsSoundFrames p.geometry age fs)
    (describes : Describes p.geometry (world_at age fs) d) where
  abbrev g : Geometry
  g = p.geometry

  abbrev os : List Object
  os = objects_of fs

  plain : IsSoundFrames g age (plain_frames os)
  plain = sound_plain g age fs sound

  numbers_few : object_count g ≤ 8192
  numbers_few = omega (arith, plan.geometry.most_nodes, plan.geometry.most_pages)

  -- the parameters: the described frame of object n
  module _ (n owner : ℕ) (c : Content Cap) (is : frame_at (plain_frames os) n ≡ first_frame owner c) where
    kept : n < object_count g → MayBeKept g age c
    kept inside = (subst (IsKeepable g age n) is (plain.keepable.each n inside)).kept.content

    frame_is : plain_frame (object_at os n) ≡ first_frame owner c
    frame_is = sym (plain_at os n) ∙ is

    owner_is : owner_at os n ≡ owner
    owner_is = ap (λ (f : Frame). f.header.owner) frame_is

    not_free : role_of c ≢ role.Free → is_free (content_at os n) ≢ true
    not_free other free =
        let same : role_of (map_content fresh_cap (content_at os n)) ≡ role_of (content_at os n) =
        (mapped fresh_cap (content_at os n)).role in
        other (sym (ap (λ (f : Frame). f.header.role) frame_is) ∙ same ∙ free_role (content_at os n) free)

    owner_short : role_of c ≢ role.Free → IsShort owner
    owner_short other =
        let bank : IsTrue (is_bank (content_at os (owner_at os n))) = sound.sound.owners n (not_free other) in
        let few : owner_at os n < g.nodes = bank_kind g (owner_at os n) (content_at os (owner_at os n)) bank
        (sound.sound.kinds (owner_at os n)) in
        subst IsShort owner_is (omega (arith, few, plan.geometry.most_nodes))

  -- each node number is below the number of nodes
  node_named : (n : ℕ) → Contains (node_numbers d) n → n < g.nodes
  node_named n there = rw (← describes.geometry) (All-contains (λ (k : ℕ). k < d.geometry.nodes) (node_numbers d) n describes.numbers.nodes
      there)

  abbrev bank_numbers : List ℕ
  bank_numbers = map (λ b. b.number) d.banks.items

  abbrev root_numbers : List ℕ
  root_numbers = map (λ p. p.root) d.processes.items

  abbrev annex_numbers : List ℕ
  annex_numbers = map (λ p. p.annex) d.processes.items

  abbrev plain_numbers : List ℕ
  plain_numbers = map (λ n. n.number) d.nodes.items

  bank_number : (b : BankEntry) → Contains d.banks.items b → b.number < g.nodes
  bank_number b there = node_named _ (Contains-append_left _ _ _ (Contains-append_left _ _ _
      (Contains-append_left _ _ _ (contains_map (λ b. b.number) b _ there))))

  root_number : (q : ProcessEntry) → Contains d.processes.items q → q.root < g.nodes
  root_number q there = node_named q.root (Contains-append_left (bank_numbers ++ root_numbers ++ annex_numbers) plain_numbers q.root
      (Contains-append_left (bank_numbers ++ root_numbers) annex_numbers q.root
      (Contains-append_right bank_numbers root_numbers q.root (contains_map (λ p. p.root) q d.processes.items there))))

  annex_number : (q : ProcessEntry) → Contains d.processes.items q → q.annex < g.nodes
  annex_number q there = node_named q.annex (Contains-append_left (bank_numbers ++ root_numbers ++ annex_numbers) plain_numbers q.annex
      (Contains-append_right (bank_numbers ++ root_numbers) annex_numbers q.annex (contains_map (λ p. p.annex) q d.processes.items there)))

  node_number : (n : NodeEntry) → Contains d.nodes.items n → n.number < g.nodes
  node_number n there = node_named _ (Contains-append_right _ _ _ (contains_map (λ m. m.number) n _ there))

  page_number : (q : PageEntry) → Contains d.pages.items q → q.number < object_count g
  page_number q there = subst (λ (h : Geometry). q.number < object_count h) describes.geometry
      (All-contains (λ (k : ℕ). (d.geometry.nodes ≤ k) × (k < object_count d.geometry)) _ _ describes.numbers.pages
      (contains_map (λ p. p.number) q _ there)).1

  -- every number of a bank is small enough for a text
  banks_short : All SpellsBank d.banks.items
  banks_short = all_from SpellsBank d.banks.items (λ b there.
      let is = All-contains (λ (c : BankEntry). frame_at (plain_frames os) c.number ≡ first_frame c.owner (content.Bank c.limit))
      d.banks.items b
      describes.frames.banks there in
      let few = bank_number b there in (
        omega (arith, few, plan.geometry.most_nodes),
        owner_short b.number b.owner (content.Bank b.limit) is (λ same. absurd cc),
        kept b.number b.owner (content.Bank b.limit) is (omega (arith, few)),
      ))

  processes_short : All SpellsProcess d.processes.items
  processes_short = all_from SpellsProcess d.processes.items (λ q there.
      let entry = All-contains IsProcessEntry d.processes.items q describes.fields.processes there in
      let (state, space, is_state, is_space, is) = All-contains (λ (r : ProcessEntry). IsDescribedRoot r
      (frame_at (plain_frames os) r.root)) d.processes.items
      q describes.frames.roots there in
      let (slots, holds, annex_is) = All-contains (λ (r : ProcessEntry). IsDescribedAnnex r (frame_at (plain_frames os) r.annex))
      d.processes.items q
      describes.frames.annexes there in
      let few = root_number q there in
      let few_annex = annex_number q there in
      let root : Content Cap = content.Root (record {
        state = state;
        words = q.words;
        key = q.key;
        annex = q.annex;
        space = fresh_cap space;
      }) in
      let kept_root : MayBeKept g age root = kept q.root q.owner root is (omega (arith, few)) in
      let kept_annex : MayBeKept g age (content.Annex slots) = kept q.annex q.owner (content.Annex slots) annex_is
      (omega (arith, few_annex)) in
      record {
        numbers = (
          omega (arith, few, plan.geometry.most_nodes),
          omega (arith, few_annex, plan.geometry.most_nodes),
          owner_short q.root q.owner root is (λ same. absurd cc),
          omega (arith, entry.key),
        );
        words = (kept_root.0.count_is, kept_root.0.each);
        space = subst NamesWide (sym is_space) (follows_wide g age 0 space kept_root.3);
        registers = slots_short g age 1 q.registers.items slots entry.registers holds kept_annex.0;
      })

  nodes_short : All SpellsNode d.nodes.items
  nodes_short = all_from SpellsNode _ (λ n there.
      let entry = All-contains (λ (m : NodeEntry). AreSlots 0 m.slots.items) _ n describes.fields.nodes there in
      let (slots, holds, is) = All-contains (λ (m : NodeEntry). IsDescribedNode m (frame_at (plain_frames os) m.number)) _ n
      describes.frames.nodes there in
      let few = node_number n there in (
        omega (arith, few, plan.geometry.most_nodes),
        owner_short _ _ _ is (λ same. absurd cc),
        slots_short g age 0 _ slots entry holds (kept _ _ _ is (omega (arith, few))),
      ))

  pages_short : All SpellsPage d.pages.items
  pages_short = all_from SpellsPage _ (λ q there.
      let entry = All-contains (λ (r : PageEntry). AreWords r.words.items) _ q describes.fields.pages there in
      let (words, holds, is) = All-contains (λ (r : PageEntry). IsDescribedPage r (frame_at (plain_frames os) r.number)) _ q
      describes.frames.pages there in
      let few = page_number q there in
      let most = numbers_few in (
        omega (arith, few, most),
        owner_short _ _ _ is (λ same. absurd cc),
        words_short g age _ words entry holds (kept _ _ _ is few),
      ))

  ranges_short : d.ranges.items ≡ map numbers_of p.ranges → All SpellsRange d.ranges.items
  ranges_short are =
      let most = numbers_few in
      let inside : All (IsInside g) p.ranges = All-from_recursion (IsInside g) p.ranges (ranges_inside g 0 p.ranges plan.cover) in
      let short : All (λ (r : HomeRange). SpellsRange (numbers_of r)) p.ranges =
      All-weaker (IsInside g) (λ (r : HomeRange). SpellsRange (numbers_of r))
      (λ r in_it. (omega (arith, in_it, most), omega (arith, in_it, most))) p.ranges inside in
      subst (All SpellsRange) (sym are) (All-map SpellsRange numbers_of p.ranges short)

pub described_has_text : DescribedHasText
described_has_text p age fs d plan sound describes ranges layout = record {
  geometry = subst SpellsGeometry (sym describes.geometry) (
    omega (arith, plan.geometry.most_nodes),
    omega (arith, plan.geometry.most_pages),
    omega (arith, plan.geometry.most_log),
  );
  layout = subst IsShort (sym layout) (version_short p.version);
  age = subst IsShort (sym describes.age) (omega (arith, sound.sound.age));
  ranges = ranges_short p plan age fs d sound describes ranges;
  banks = banks_short p plan age fs d sound describes;
  processes = processes_short p plan age fs d sound describes;
  nodes = nodes_short p plan age fs d sound describes;
  pages = pages_short p plan age fs d sound describes;
}
