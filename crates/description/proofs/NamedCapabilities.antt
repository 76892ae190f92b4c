-- The capabilities that a description names are those that its frames hold.
use Rattle.description.proofs.Names.{ℕ, inl, inr, List, [], Option, None, Some, slice_get, take, unwrap_or, IsSomeAnd, refl, sym, ap, subst, arith, All}
use Rattle.description.proofs.Names.{FirstLacks, IsFirst, LacksIt, NamesItsObject, OneOf, OneOfProcess, ProcessEntry, cases_eq, All-cons, All-contains}
use Rattle.description.proofs.Names.{All-head, All-tail, get_or_from_slice_get, Cap, Capability, Void, Frame, frame_at, caps_in, fresh_cap, AreNamed, IsNamed}
use Rattle.description.proofs.Names.{NamesItsRole, Description, NodeEntry, SlotEntry, AreSlots, HasFields, HasNumbers, HoldsNamed, IsDescribed, IsProcessEntry}
use Rattle.description.proofs.Names.{named_at, Entry, OfAnnex, OfBank, OfNode, OfPage, OfRoot, IsTarget, Held, BreaksTarget, AllHave, AllIn, AllOfProcess}
use Rattle.description.proofs.Names.{IfNamed, OneLacks}
use Rattle.std.proofs.Common.{◌≡◌, ◌<◌, ◌≤◌, ◌∷◌, ◌∙◌}
use Rattle.description.specs.declared.flaw.Held.TheVariants as held
use Rattle.description.proofs.DescribedOnce.{described_once}
use Rattle.description.proofs.Entries.{IsFrameOf, IsOf, described_cases, described_of}
use Rattle.description.proofs.FieldFlaws.{all_refuted}
use Rattle.description.proofs.Lists.{all_from, all_got, first_beyond, first_of, first_there}
use Rattle.description.proofs.NamedTargets.{never_raised, role_target}

-- if P holds of void and of the named capability, it holds of either
or_void : (P : Capability → Type 0) (o : Option Capability) → P Void → IfNamed P o → P (unwrap_or o Void)
or_void P o void is = search arith

if_some : (P : Capability → Type 0) (o : Option Capability) → P (unwrap_or o Void) → IfNamed P o
if_some P o is = search arith

pub of_some : (P : Capability → Type 0) (o : Option Capability) (c : Capability) → o ≡ Some c → IfNamed P o → P c
of_some P o c same is = subst (IfNamed P) same is

first_has : (P : Capability → Type 0) (es : List SlotEntry) (i : ℕ) → P Void → AllIn P es → P (named_at es i)
first_has P [] i void all = void
first_has P (e ∷ es) i void all = elim (cases_eq _ i) [
  | inl is ↦ subst P (sym (first_there (λ (s : SlotEntry). s.index) (λ s. unwrap_or s.capability Void) Void e es i is))
      (or_void P _ void (All-head (λ (s : SlotEntry). IfNamed P s.capability) e es all))
  | inr differ ↦ subst P (sym (first_beyond (λ (s : SlotEntry). s.index) (λ s. unwrap_or s.capability Void) Void e es i differ))
      (first_has P es i void (All-tail (λ (s : SlotEntry). IfNamed P s.capability) e es all))
]

module _ (d : Description) (fs : List Frame) (is : IsDescribed d fs) where
  named_fresh : (c : Capability) → NamesItsRole fs c → IsNamed fs (fresh_cap c)
  named_fresh c names = record { current = omega arith; live = λ _. names }

  slots_named : (es : List SlotEntry) (slots : List Cap) → HoldsNamed es slots → AllIn (NamesItsRole fs) es → All (IsNamed fs) slots
  slots_named es slots holds all k e lt = subst (IsNamed fs) (sym (get_or_from_slice_get slots k _ e
      (holds.each k (omega (arith, lt, holds.count)))))
      (named_fresh _ (first_has (NamesItsRole fs) es k tt all))

  none_named : All (IsNamed fs) []
  none_named k e lt = absurd (omega arith)

  module _ (all : AllHave (NamesItsRole fs) d) where
    entry_named : (e : Entry) (f : Frame) → IsOf d e → IsFrameOf e f → All (IsNamed fs) (caps_in f.content)
    entry_named (OfBank b) f of frame = subst (λ (g : Frame). All (IsNamed fs) (caps_in g.content)) (sym frame) none_named
    entry_named (OfRoot p) f of frame =
        let have = All-contains (AllOfProcess (NamesItsRole fs)) d.processes.items p all.processes of in
        rw frame.4 (All-cons (IsNamed fs) (fresh_cap frame.1) [] (named_fresh frame.1
        (of_some (NamesItsRole fs) p.space frame.1 frame.3 have.0)) none_named)
    entry_named (OfAnnex p) f of frame =
        let have = All-contains (AllOfProcess (NamesItsRole fs)) d.processes.items p all.processes of in
        rw frame.2 (slots_named p.registers.items frame.0 frame.1 have.1)
    entry_named (OfNode n) f of frame =
        let have = All-contains (λ (m : NodeEntry). AllIn (NamesItsRole fs) m.slots.items) d.nodes.items n all.nodes of in
        rw frame.2 (slots_named n.slots.items frame.0 frame.1 have)
    entry_named (OfPage p) f of frame = subst (λ (g : Frame). All (IsNamed fs) (caps_in g.content)) (sym frame.2) none_named

    pub all_named : AreNamed fs
    all_named n = elim (described_cases d fs n is) [ inl c ↦ entry_named c.0 (frame_at fs n) c.1 c.3 | inr blank ↦ rw blank none_named ]

  module _ (numbers : HasNumbers d) (fields : HasFields d) (named : AreNamed fs) where
    names_role : (c : Capability) → IsNamed fs (fresh_cap c) → NamesItsRole fs c
    names_role c held = held.live (never_raised d fs c numbers is)

    named_in : (n : ℕ) (f : Frame) → frame_at fs n ≡ f → All (IsNamed fs) (caps_in f.content)
    named_in n f same = subst (λ (g : Frame). All (IsNamed fs) (caps_in g.content)) same (named n)

    slots_roles : (first : ℕ) (es : List SlotEntry) (slots : List Cap) → AreSlots first es → HoldsNamed es slots → All (IsNamed fs) slots →
        AllIn (NamesItsRole fs) es
    slots_roles first es slots are holds held = all_from (λ (s : SlotEntry). IfNamed (NamesItsRole fs) s.capability) es (λ s of.
        let place = All-contains (λ t. (first ≤ t.index) × (t.index < 32)) es s are.places of in
        let what = first_of (λ t. t.index) (λ t. unwrap_or t.capability Void) Void es s are.distinct of in
        let there : IsNamed fs (fresh_cap (unwrap_or s.capability Void)) = all_got (IsNamed fs) slots s.index _ held
        (holds.each s.index place.1 ∙ ap (λ c. Some (fresh_cap c)) what) in
        if_some (NamesItsRole fs) s.capability (names_role (unwrap_or s.capability Void) there))

    pub all_roles : AllHave (NamesItsRole fs) d
    all_roles = record {
      processes = all_from (AllOfProcess (NamesItsRole fs)) d.processes.items (λ p of.
          let good : IsProcessEntry p = All-contains IsProcessEntry d.processes.items p fields.processes of in
          let root = described_of d fs (OfRoot p) is of in
          let annex = described_of d fs (OfAnnex p) is of in
          let held : IsNamed fs (fresh_cap root.1) = All-head (IsNamed fs) (fresh_cap root.1) [] (named_in p.root _ root.4) in (
            subst (IfNamed (NamesItsRole fs)) (sym root.3) (names_role root.1 held),
            slots_roles 1 p.registers.items annex.0 good.registers annex.1 (named_in p.annex _ annex.2),
          ));
      nodes = all_from (λ (m : NodeEntry). AllIn (NamesItsRole fs) m.slots.items) d.nodes.items (λ n of.
          let node = described_of d fs (OfNode n) is of in
          slots_roles 0 n.slots.items node.0 (All-contains (λ (m : NodeEntry). AreSlots 0 m.slots.items) d.nodes.items n fields.nodes of)
          node.1
          (named_in n.number _ node.2));
    }

-- if all capabilities have P, none lacks it
pub lacks_refuted : (P : Capability → Type 0) (d : Description) (at : Held) → AllHave P d → OneLacks P d at → ⊥
lacks_refuted P d (held.Space k) all lacks =
    all_refuted (AllOfProcess P) (λ p. p.space ≡ Some lacks.0) _ k lacks.1 (λ p have is. lacks.2 (of_some P _ _ is have.0)) all.processes
lacks_refuted P d (held.Register k i) all lacks =
    all_refuted (AllOfProcess P) (λ p. IsSomeAnd (slice_get p.registers.items i) (λ s. s.capability ≡ Some lacks.0)) _ k lacks.1
    (λ p have there. all_refuted (λ (s : SlotEntry). IfNamed P s.capability) (λ s. s.capability ≡ Some lacks.0) p.registers.items i there
    (λ s held is. lacks.2 (of_some P _ _ is held)) have.1) all.processes
lacks_refuted P d (held.Slot k i) all lacks =
    all_refuted (λ (n : NodeEntry). AllIn P n.slots.items) (λ n. IsSomeAnd (slice_get n.slots.items i) (λ s. s.capability ≡ Some lacks.0)) _
    k lacks.1
    (λ n have there. all_refuted (λ (s : SlotEntry). IfNamed P s.capability) (λ s. s.capability ≡ Some lacks.0) n.slots.items i there
    (λ s held is. lacks.2 (of_some P _ _ is held)) have) all.nodes

-- ---- the first capability that lacks a property

some_turned : {A : Type 0} (P Q : A → Type 0) → ((x : A) → P x → Q x) → (o : Option A) → IsSomeAnd o P → IsSomeAnd o Q
some_turned P Q turn None is = is
some_turned P Q turn (Some x) is = turn x is

all_turned : {A : Type 0} (P Q : A → Type 0) → ((x : A) → P x → Q x) → (xs : List A) → All P xs → All Q xs
all_turned P Q turn xs all k e lt = turn _ (all k e lt)

first_turned : {A : Type 0} (P Q B C : A → Type 0) → ((x : A) → P x → Q x) → ((x : A) → B x → C x) → (xs : List A) (i : ℕ) →
    IsFirst P B xs i → IsFirst Q C xs i
first_turned P Q B C good bad xs i first = (all_turned P Q good (take i xs) first.0, some_turned B C bad (slice_get xs i) first.1)

-- `LacksIt` says that there is a capability, and that it lacks P
lacked : (P : Capability → Type 0) (o : Option Capability) → LacksIt P o → (c : Capability) × (o ≡ Some c) × (P c → ⊥)
lacked P None lacks = absurd lacks
lacked P (Some c) lacks = (c, refl, lacks)

some_lacked : {A : Type 0} (P : Capability → Type 0) (Bad : A → Type 0) (Holds : A → Capability → Type 0) →
    ((x : A) → Bad x → (c : Capability) × Holds x c × (P c → ⊥)) → (o : Option A) → IsSomeAnd o Bad →
    (c : Capability) × IsSomeAnd o (λ x. Holds x c) × (P c → ⊥)
some_lacked P Bad Holds find None is = absurd is
some_lacked P Bad Holds find (Some x) is = find x is

slot_lacked : (P : Capability → Type 0) (slots : List SlotEntry) (i : ℕ) → OneOf P slots i →
    (c : Capability) × IsSomeAnd (slice_get slots i) (λ s. s.capability ≡ Some c) × (P c → ⊥)
slot_lacked P slots i one = some_lacked P (λ s. LacksIt P s.capability) (λ s c. s.capability ≡ Some c)
    (λ s lacks. lacked P s.capability lacks)
    (slice_get slots i) one.1

lacks_at : (P : Capability → Type 0) (d : Description) (at : Held) → FirstLacks P d at → OneLacks P d at
lacks_at P d (held.Space k) first =
    some_lacked P (λ p. LacksIt P p.space) (λ p c. p.space ≡ Some c) (λ p lacks. lacked P p.space lacks) (slice_get d.processes.items k)
    first.1
lacks_at P d (held.Register k i) first = some_lacked P (λ p. IfNamed P p.space × OneOf P p.registers.items i)
    (λ p c. IsSomeAnd (slice_get p.registers.items i) (λ s. s.capability ≡ Some c)) (λ p one. slot_lacked P p.registers.items i one.1)
    (slice_get d.processes.items k) first.1
lacks_at P d (held.Slot k i) first = some_lacked P (λ n. OneOf P n.slots.items i)
    (λ n c. IsSomeAnd (slice_get n.slots.items i) (λ s. s.capability ≡ Some c)) (λ n one. slot_lacked P n.slots.items i one)
    (slice_get d.nodes.items k) first.1.1

some_both : {A : Type 0} (R : Type 0) (P Q : A → Type 0) → ((x : A) → P x → R × Q x) → (o : Option A) → IsSomeAnd o P → R × IsSomeAnd o Q
some_both R P Q split None is = absurd is
some_both R P Q split (Some x) is = split x is

-- of the first process that holds capabilities without P, the first such capability is at this place
pub process_lacks : (P : Capability → Type 0) (d : Description) (k : ℕ) (at : Held) →
    IsFirst (AllOfProcess P) (λ p. OneOfProcess P k p at) d.processes.items k → FirstLacks P d at
unfolding OneOfProcess
process_lacks P d k (held.Space j) first =
    let there = some_both (j ≡ k) (λ p. OneOfProcess P k p (held.Space j)) (λ p. LacksIt P p.space) (λ p one. one)
    (slice_get d.processes.items k) first.1 in
    rw there.0 (first.0, there.1)
process_lacks P d k (held.Register j i) first =
    let there = some_both (j ≡ k) (λ p. OneOfProcess P k p (held.Register j i)) (λ p. IfNamed P p.space × OneOf P p.registers.items i)
    (λ p one. (one.0, (one.1, one.2))) (slice_get d.processes.items k) first.1 in
    rw there.0 (first.0, there.1)
process_lacks P d k (held.Slot j i) first =
    absurd (some_both ⊥ (λ p. OneOfProcess P k p (held.Slot j i)) (λ p. Unit {0}) (λ p one. absurd one) (slice_get d.processes.items k)
    first.1).0

-- the parameters: properties P and Q that agree on all these capabilities
module _ (P Q : Capability → Type 0) (good : (c : Capability) → P c → Q c) (bad : (c : Capability) → (P c → ⊥) → Q c → ⊥) where
  named_turned : (o : Option Capability) → IfNamed P o → IfNamed Q o
  named_turned None is = is
  named_turned (Some c) is = good c is

  lacks_turned : (o : Option Capability) → LacksIt P o → LacksIt Q o
  lacks_turned None is = is
  lacks_turned (Some c) is = bad c is

  in_turned : (slots : List SlotEntry) → AllIn P slots → AllIn Q slots
  in_turned slots = all_turned (λ s. IfNamed P s.capability) (λ s. IfNamed Q s.capability) (λ s. named_turned s.capability) slots

  process_turned : (p : ProcessEntry) → AllOfProcess P p → AllOfProcess Q p
  process_turned p all = (named_turned p.space all.0, in_turned p.registers.items all.1)

  one_turned : (slots : List SlotEntry) (i : ℕ) → OneOf P slots i → OneOf Q slots i
  one_turned slots i = first_turned (λ s. IfNamed P s.capability) (λ s. IfNamed Q s.capability) (λ s. LacksIt P s.capability)
      (λ s. LacksIt Q s.capability)
      (λ s. named_turned s.capability) (λ s. lacks_turned s.capability) slots i

  first_lacks : (d : Description) (at : Held) → FirstLacks P d at → FirstLacks Q d at
  first_lacks d (held.Space k) first = first_turned (AllOfProcess P) (AllOfProcess Q) (λ p. LacksIt P p.space) (λ p. LacksIt Q p.space)
      process_turned
      (λ p. lacks_turned p.space) d.processes.items k first
  first_lacks d (held.Register k i) first = first_turned (AllOfProcess P) (AllOfProcess Q)
      (λ p. IfNamed P p.space × OneOf P p.registers.items i)
      (λ p. IfNamed Q p.space × OneOf Q p.registers.items i) process_turned
      (λ p one. (named_turned p.space one.0, one_turned p.registers.items i one.1)) d.processes.items k first
  first_lacks d (held.Slot k i) first = (
    all_turned (AllOfProcess P) (AllOfProcess Q) process_turned d.processes.items first.0,
    first_turned (λ n. AllIn P n.slots.items) (λ n. AllIn Q n.slots.items) (λ n. OneOf P n.slots.items i) (λ n. OneOf Q n.slots.items i)
        (λ n. in_turned n.slots.items) (λ n. one_turned n.slots.items i) d.nodes.items k first.1,
  )

-- the first capability that names no number for its kind of object breaks the rule for capabilities
pub kind_broken : (d : Description) (at : Held) → HasNumbers d → FirstLacks (IsTarget d.geometry) d at → BreaksTarget d at
kind_broken d at numbers first =
    let lacks = lacks_at (IsTarget d.geometry) d at first in
    (lacks.0, lacks.1, λ fs is names. lacks.2 (role_target d fs numbers is lacks.0 names), inl first)

pub role_broken : (d : Description) (at : Held) (fs : List Frame) → IsDescribed d fs → AllHave (IsTarget d.geometry) d →
    FirstLacks (NamesItsRole fs) d at → BreaksTarget d at
role_broken d at fs described kinds first =
    let lacks = lacks_at (NamesItsRole fs) d at first in (
      lacks.0,
      lacks.1,
      λ gs is names. lacks.2 (subst (λ (hs : List Frame). NamesItsRole hs lacks.0) (described_once d gs fs is described) names),
      inr (
        kinds,
        first_lacks (NamesItsRole fs) (NamesItsObject d)
            (λ c names gs is. subst (λ (hs : List Frame). NamesItsRole hs c) (described_once d fs gs described is) names)
            (λ c none names. none (names fs described)) d at first,
      ),
    )

pub target_refuted : (d : Description) (at : Held) → HasNumbers d → HasFields d → BreaksTarget d at → (fs : List Frame) → IsDescribed d fs →
    AreNamed fs → ⊥
target_refuted d at numbers fields broken fs is named = lacks_refuted (NamesItsRole fs) d at (all_roles d fs is numbers fields named)
    (broken.0, broken.1, broken.2 fs is)
