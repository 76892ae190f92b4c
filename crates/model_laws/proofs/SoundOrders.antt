-- Orders on pages, nodes, spaces and processes keep sound objects sound.
use Rattle.model_laws.proofs.Names.{nat_tests, ℕ, true, not, List, [], length, refl, ap, arith, IsTrue, nat_lt, slice_index, eqb-false, or_parts, length-set}
use Rattle.model_laws.proofs.Names.{Access, Capability, Number, Page, Node, Geometry, Content, Object, Root, State, Available, Running, ResultCode, PageOrder}
use Rattle.model_laws.proofs.Names.{NodeOrder, ProcessOrder, diminished, is_root, is_node, is_annex, is_waiting, root_in, content_at, slot_at, root_at}
use Rattle.model_laws.proofs.Names.{annex_at, register_at, is_process, with_state, consume, HasShape, IsSpace, Arguments, OrderOutcome, refused, replying}
use Rattle.model_laws.proofs.Names.{given, wrote, fetched, stored, is_space, with_root_word, with_space, on_page, on_node, on_process}
use Rattle.std.proofs.Common.{◌≡◌, ◌≢◌, ◌⊎◌, ◌^◌, ◌==◌, ◌<◌, ◌≤◌, ◌||◌, ◌∷◌, ◌∙◌}
use Rattle.model.specs.declared.order.PageOrder.TheVariants as page
use Rattle.model.specs.declared.order.NodeOrder.TheVariants as node
use Rattle.model.specs.declared.order.ProcessOrder.TheVariants as process
use Rattle.model_laws.proofs.Cases.{chosen, one_of}
use Rattle.model_laws.proofs.SoundParts.{IsHeld, IsNearlySound, Waits, state_at, held_void, nearly_weaken}
use Rattle.model_laws.proofs.SoundEdits.{IsEdited, IsRootOf, But, at_set, edited_slot, edited_word, edited_root, nearly_root, nearly_consume, root_other}
use Rattle.model_laws.proofs.SoundEdits.{state_consume}

-- sound objects, apart from the age
abbrev pub IsNow : Geometry → List Object → Type 0
IsNow g os = IsNearlySound g (Waits os) os

-- a valid outcome: its objects are sound, and its words and capability may be delivered
pub record IsOutcome (g : Geometry) (o : OrderOutcome) : Type 0 where
  pub now : IsNow g o.objects
  pub count : length o.words ≡ 3
  pub words : (i : ℕ) → slice_index o.words i < 2 ^ 64
  pub held : IsHeld o.objects (Waits o.objects) o.capability

-- arguments that a process may send
pub record AreArguments (os : List Object) (args : Arguments) : Type 0 where
  pub first : args.first < 2 ^ 64
  pub second : args.second < 2 ^ 64
  pub held : IsHeld os (Waits os) args.capability

pub three_words : (a b c : ℕ) → a < 2 ^ 64 → b < 2 ^ 64 → c < 2 ^ 64 → (i : ℕ) → slice_index (a ∷ b ∷ c ∷ []) i < 2 ^ 64
three_words a b c p q r i = grind (arith, nat_tests)

pub refused_keeps : (g : Geometry) (os : List Object) (why : ResultCode) → IsNow g os → IsOutcome g (refused os why)
refused_keeps g os why h = record {
  now = h;
  count = refl;
  words = three_words 0 0 0 (omega arith) (omega arith) (omega arith);
  held = held_void os (Waits os);
}

pub replying_keeps : (g : Geometry) (os : List Object) (a b : ℕ) → IsNow g os → a < 2 ^ 64 → b < 2 ^ 64 → IsOutcome g (replying os a b)
replying_keeps g os a b h p q = record {
  now = h;
  count = refl;
  words = three_words a b 0 p q (omega arith);
  held = held_void os (Waits os);
}

pub given_keeps : (g : Geometry) (os : List Object) (c : Capability) → IsNow g os → IsHeld os (Waits os) c → IsOutcome g (given os c)
given_keeps g os c h held = record {
  now = h;
  count = refl;
  words = three_words 0 0 0 (omega arith) (omega arith) (omega arith);
  held = held;
}

wrote_keeps : (g : Geometry) (os : List Object) (n : ℕ) → IsNow g os → IsOutcome g (wrote os n)
wrote_keeps g os n h = record {
  now = h;
  count = refl;
  words = three_words 0 0 0 (omega arith) (omega arith) (omega arith);
  held = held_void os (Waits os);
}

pub edited_now : (g : Geometry) (os us : List Object) → IsEdited g (Waits os) os us → IsNow g us
edited_now g os us e = nearly_weaken g (Waits os) (Waits us) us (λ p w. ap is_waiting (e.states p) ∙ w) e.sound

-- if a capability may be held, so may the diminished one

held_diminished : (os : List Object) (W : ℕ → Type 0) (c : Capability) → IsHeld os W c → IsHeld os W (diminished c)
held_diminished os W c h = grind (arith, nat_tests)

held_fetched : (os : List Object) (W : ℕ → Type 0) (a : Access) (c : Capability) → IsHeld os W c → IsHeld os W (fetched a c)
held_fetched os W a c h = one_of (IsHeld os W) (a.0 == 3) (diminished c) c (held_diminished os W c h) h

-- an order of a page keeps sound objects sound

pub on_page_keeps : (g : Geometry) (os : List Object) (o : ℕ) (a : Access) (requested : PageOrder) (args : Arguments) → IsNow g os
    → IsHeld os (Waits os) (Page o a) → AreArguments os args → IsOutcome g (on_page os o a requested args)
unfolding on_page
on_page_keeps g os o a page.Write args h held fits =
    chosen (IsOutcome g) (not (a.0 == 0)) _ _ (λ _. refused_keeps g os _ h) (λ _.
    chosen (IsOutcome g) (nat_lt args.first 512) _ _
    (λ _. wrote_keeps g _ o (edited_now g os _ (edited_word g (Waits os) os o args.first args.second h fits.second)))
    (λ _. refused_keeps g os _ h))
on_page_keeps g os o a which args h held fits = grind (arith, nat_tests, chosen, replying_keeps, refused_keeps, given_keeps)

-- a node isn't an annex

node_is_no_annex : (c : Content Capability) → IsTrue (is_node c) → IsTrue (is_annex c) → ⊥
node_is_no_annex c p q = grind (arith, nat_tests)

stored_keeps : (g : Geometry) (os : List Object) (o : ℕ) (a : Access) (slot : ℕ) (c : Capability) → IsNow g os
    → IsTrue (is_node (content_at os o)) → IsHeld os (Waits os) c → IsOutcome g (stored os o a slot c)
stored_keeps g os o a slot c h is held =
    chosen (IsOutcome g) (not (a.0 == 0)) _ _ (λ _. refused_keeps g os _ h) (λ _.
    chosen (IsOutcome g) (nat_lt slot 32) _ _
    (λ _. wrote_keeps g _ o (edited_now g os _ (edited_slot g (Waits os) os o slot c h held
    (λ annex. absurd (node_is_no_annex (content_at os o) is annex)))))
    (λ _. refused_keeps g os _ h))

pub on_node_keeps : (g : Geometry) (os : List Object) (o : ℕ) (a : Access) (requested : NodeOrder) (args : Arguments) → IsNow g os
    → IsHeld os (Waits os) (Node o a) → AreArguments os args → IsOutcome g (on_node os o a requested args)
unfolding on_node
on_node_keeps g os o a node.Fetch args h held fits =
    chosen (IsOutcome g) (nat_lt args.first 32) _ _
    (λ _. given_keeps g os _ h (held_fetched os (Waits os) a (slot_at os o args.first) ((h.filled o).slots args.first)))
    (λ _. refused_keeps g os _ h)
on_node_keeps g os o a node.Store args h held fits = stored_keeps g os o a args.first args.capability h held.names fits.held
on_node_keeps g os o a node.PutNumber args h held fits = search (arith, nat_tests, stored_keeps)
on_node_keeps g os o a which args h held fits = grind (arith, nat_tests, chosen, given_keeps, refused_keeps)

-- a root has 4 words of 64 bits and a key of 16 bits

root_shape : (c : Content Capability) → IsTrue (is_root c) → HasShape c
    → (length (root_in c).words ≡ 4) × ((i : ℕ) → slice_index (root_in c).words i < 2 ^ 64) × ((root_in c).key < 2 ^ 16)
root_shape c is h = grind (arith, nat_tests)

-- the root of a process is valid for it
pub root_now : (g : Geometry) (W : ℕ → Type 0) (os : List Object) (p : ℕ) → IsNearlySound g W os → IsTrue (is_process os p) →
    IsRootOf os W p (root_at os p)
root_now g W os p h is =
    let shape = root_shape (content_at os p) is (h.filled p).shape in
    record {
      is_process = is;
      annex = refl;
      count = shape.0;
      words = shape.1;
      key = shape.2;
      space = (h.filled p).space;
      is_space = (h.filled p).is_space;
    }

-- objects that satisfy `IsNearlySound` still do after a process changes its state
pub nearly_state : (g : Geometry) (W : ℕ → Type 0) (os : List Object) (p : ℕ) (s : State) → IsNearlySound g W os →
    IsTrue (is_process os p) → IsNearlySound g W (with_state os p s)
unfolding with_state
nearly_state g W os p s h is =
    let r = root_now g W os p h is in
    nearly_root g W os p _ h (record {
      is_process = is;
      annex = refl;
      count = r.count;
      words = r.words;
      key = r.key;
      space = r.space;
      is_space = r.is_space;
    })

pub state_other : (os : List Object) (p q : ℕ) (s : State) → q ≢ p → state_at (with_state os p s) q ≡ state_at os q
unfolding with_state
state_other os p q s differ = ap (λ (r : Root Capability). r.state) (root_other os p q _ differ)

-- if the resume capabilities of a process are consumed, it may get any state
consumed_now : (g : Geometry) (os : List Object) (p : ℕ) (s : State) → IsNow g os → IsTrue (is_process os p) →
    IsNow g (consume p (with_state os p s))
consumed_now g os p s h is =
    nearly_weaken g (But (Waits os) p) (Waits (consume p (with_state os p s))) (consume p (with_state os p s))
    (λ q w. ap is_waiting (state_consume p (with_state os p s) q ∙ state_other os p q s w.1) ∙ w.0)
    (nearly_consume g (Waits os) p (with_state os p s) (nearly_state g (Waits os) os p s h is))

space_fits : (c : Capability) → is_space c ≡ true → IsSpace c
space_fits c e = grind (arith, nat_tests)

pub on_process_keeps : (g : Geometry) (os : List Object) (p : ℕ) (requested : ProcessOrder) (args : Arguments) → IsNow g os
    → IsTrue (is_process os p) → AreArguments os args → IsOutcome g (on_process os p requested args)
unfolding on_process
on_process_keeps g os p process.GetRegister args h is fits =
    chosen (IsOutcome g) (nat_lt args.first 32) _ _ (λ _. given_keeps g os (register_at os p args.first) h
    ((h.filled (annex_at os p)).slots args.first))
    (λ _. refused_keeps g os _ h)
on_process_keeps g os p process.PutRegister args h is fits =
    chosen (IsOutcome g) ((args.first == 0) || not (nat_lt args.first 32)) _ _ (λ _. refused_keeps g os _ h)
    (λ e. wrote_keeps g _ (annex_at os p) (edited_now g os _
    (edited_slot g (Waits os) os (annex_at os p) args.first args.capability h fits.held
    (λ _. eqb-false args.first 0 (or_parts (args.first == 0) (not (nat_lt args.first 32)) e).0))))
on_process_keeps g os p process.PutWord args h is fits =
    let r = root_now g (Waits os) os p h is in
    chosen (IsOutcome g) (nat_lt args.first 4) _ _
    (λ _. wrote_keeps g _ p (edited_now g os _ (edited_root g (Waits os) os p (with_root_word (root_at os p) args.first args.second) h
    (record {
      is_process = is;
      annex = refl;
      count = length-set (root_at os p).words args.first args.second ∙ r.count;
      words = λ i. at_set (λ m w. w < 2 ^ 64) (root_at os p).words args.first i args.second 0 fits.second (r.words i);
      key = r.key;
      space = r.space;
      is_space = r.is_space;
    }) refl)))
    (λ _. refused_keeps g os _ h)
on_process_keeps g os p process.SetState args h is fits =
    chosen (IsOutcome g) (args.first == 0) _ _ (λ _. wrote_keeps g _ p (consumed_now g os p Available h is)) (λ _.
    chosen (IsOutcome g) (args.first == 1) _ _ (λ _. wrote_keeps g _ p (consumed_now g os p Running h is)) (λ _. refused_keeps g os _ h))
on_process_keeps g os p process.GetSpace args h is fits = given_keeps g os (root_at os p).space h (h.filled p).space
on_process_keeps g os p process.SetSpace args h is fits =
    let r = root_now g (Waits os) os p h is in
    chosen (IsOutcome g) (is_space args.capability) _ _
    (λ e. wrote_keeps g _ p (edited_now g os _ (edited_root g (Waits os) os p (with_space (root_at os p) args.capability) h
    (record {
      is_process = is;
      annex = refl;
      count = r.count;
      words = r.words;
      key = r.key;
      space = fits.held;
      is_space = space_fits args.capability e;
    }) refl)))
    (λ _. refused_keeps g os _ h)
on_process_keeps g os p which args h is fits = grind (arith, nat_tests, chosen, replying_keeps, root_now, refused_keeps, given_keeps)
