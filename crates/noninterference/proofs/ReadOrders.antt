-- An order on an object of a set that is closed for reading has the same outcome in two lists that agree on the set (`Link`).
use Rattle.noninterference.proofs.Names.{nat_tests, inl, ℕ, Bool, false, not, List, Option, None, Some, arith, refl, sym, ap, subst, IsTrue, nat_lt}
use Rattle.noninterference.proofs.Names.{Access, Capability, Void, Number, Page, Node, Space, Process, Bank, Discrim, Start, Geometry, Object, State, Available}
use Rattle.noninterference.proofs.Names.{Running, Arguments, NodeOrder, PageOrder, ProcessOrder, BankOrder, bank_order, fetched, is_space, node_order}
use Rattle.noninterference.proofs.Names.{on_node, on_page, on_process, order, page_order, process_order, reduces, stored, with_root_word, with_space, consume}
use Rattle.noninterference.proofs.Names.{annex_at, is_process, slot_at, register_at, with_slot, with_state, slots_in}
use Rattle.noninterference.proofs.Names.{slice_index, slice_index_or, NamesBut, depends_on_supply, looks_outside, OrderOutcome, refused, IsHeld}
use Rattle.noninterference.proofs.Names.{Waits, IsNow, tree_of, one_of, root_in, ResultCode, diminished, union, access_bits, tag_of, state_number}
use Rattle.noninterference.proofs.Names.{words_in, given, wrote}
use Rattle.std.proofs.Common.{◌≡◌, ◌⊎◌, ◌==◌, ◌||◌, ◌∙◌}
use Rattle.model.specs.declared.order.NodeOrder.TheVariants as node
use Rattle.model.specs.declared.order.PageOrder.TheVariants as page
use Rattle.model.specs.declared.order.ProcessOrder.TheVariants as process
use Rattle.model.specs.declared.order.ResultCode.TheVariants as code
use Rattle.noninterference.proofs.ReadEdits.{Link, link_consume, link_of_root, link_slot, link_state, link_word}
use Rattle.noninterference.proofs.ReadBanks.{OutcomesLink, bank_link, both_chosen, given_link, refused_link, replying_link, wrote_link}

-- to prove a property of two results that depend on an option, prove it for `None` and for `Some`
found_both : {A X : Type 0} (P : X → X → Type 0) (found : Option A) (x y : X) (f k : A → X) → P x y →
    ((a : A) → found ≡ Some a → P (f a) (k a)) → P (elim found [ None ↦ x | Some a ↦ f a ]) (elim found [ None ↦ y | Some a ↦ k a ])
found_both {A} {X} P None x y f k p q = p
found_both {A} {X} P (Some a) x y f k p q = q a refl

module _ (trusted inside : ℕ → Bool) (os us : List Object) (h : Link trusted inside os us) where
  abbrev Outcomes : OrderOutcome → OrderOutcome → Type 0
  Outcomes o p = OutcomesLink trusted inside o p

  refuse : (why : ResultCode) → Outcomes (refused os why) (refused us why)
  refuse why = refused_link trusted inside os us h why

  give : (c d : Capability) → d ≡ c → NamesBut trusted inside c → Outcomes (given os c) (given us d)
  give c d same stays = given_link trusted inside os us h c d same stays

  same : (c : Capability) → NamesBut trusted inside c → Outcomes (given os c) (given us c)
  same c stays = give c c refl stays

  -- ---- pages

  page_link : (o : ℕ) (a : Access) (requested : PageOrder) (args : Arguments) → IsTrue (inside o)
      → Outcomes (on_page os o a requested args) (on_page us o a requested args)
  unfolding on_page
  page_link o a page.Read args in_o = both_chosen Outcomes (nat_lt args.first 512) _ _ _ _ _ refl
      (λ e. replying_link trusted inside os us h _ 0 _ 0 (ap (λ (x : Object). slice_index (words_in x.content) args.first) (h.same o in_o))
      refl)
      (λ e. refuse code.BadIndex)
  page_link o a page.Write args in_o = both_chosen Outcomes (not (a.0 == 0)) _ _ _ _ _ refl (λ e. refuse code.NoAccess) (λ e.
      both_chosen Outcomes (nat_lt args.first 512) _ _ _ _ _ refl
      (λ f. wrote_link trusted inside _ _ (link_word trusted inside os us o h in_o args.first args.second) o o refl)
      (λ f. refuse code.BadIndex))
  page_link o a page.Reduce args in_o = both_chosen Outcomes (reduces args.first) _ _ _ _ _ refl
      (λ e. same (Page o (union a args.first)) (inl in_o)) (λ e. refuse code.BadIndex)

  -- ---- nodes

  diminished_stays : (c : Capability) → NamesBut trusted inside c → NamesBut trusted inside (diminished c)
  diminished_stays c stays = grind (arith, nat_tests)

  fetched_stays : (a : Access) (c : Capability) → NamesBut trusted inside c → NamesBut trusted inside (fetched a c)
  fetched_stays a c stays = one_of (NamesBut trusted inside) (a.0 == 3) (diminished c) c (diminished_stays c stays) stays

  stored_link : (o : ℕ) (a : Access) (slot : ℕ) (c : Capability) → IsTrue (inside o) → NamesBut trusted inside c
      → Outcomes (stored os o a slot c) (stored us o a slot c)
  stored_link o a slot c in_o stays = both_chosen Outcomes (not (a.0 == 0)) _ _ _ _ _ refl (λ e. refuse code.NoAccess) (λ e.
      both_chosen Outcomes (nat_lt slot 32) _ _ _ _ _ refl
      (λ f. wrote_link trusted inside _ _ (link_slot trusted inside os us o h in_o slot c stays) o o refl) (λ f. refuse code.BadIndex))

  node_link : (o : ℕ) (a : Access) (requested : NodeOrder) (args : Arguments) → IsTrue (inside o) → NamesBut trusted inside args.capability
      → Outcomes (on_node os o a requested args) (on_node us o a requested args)
  unfolding on_node
  node_link o a node.Fetch args in_o sent = both_chosen Outcomes (nat_lt args.first 32) _ _ _ _ _ refl
      (λ e. give _ _ (ap (λ (x : Object). fetched a (slice_index_or (slots_in x.content) args.first Void)) (h.same o in_o))
      (fetched_stays a (slot_at os o args.first) (h.left.slots o args.first in_o)))
      (λ e. refuse code.BadIndex)
  node_link o a node.Store args in_o sent = stored_link o a args.first args.capability in_o sent
  node_link o a node.Reduce args in_o sent = both_chosen Outcomes (reduces args.first) _ _ _ _ _ refl
      (λ e. same (Node o (union a args.first)) (inl in_o)) (λ e. refuse code.BadIndex)
  node_link o a node.MakeSpace args in_o sent = both_chosen Outcomes ((args.first == 0) || not (nat_lt args.first 5)) _ _ _ _ _ refl
      (λ e. refuse code.BadIndex) (λ e. same (Space o args.first a) (inl in_o))
  node_link o a node.PutNumber args in_o sent = stored_link o a args.first (Number args.second) in_o (inl tt)

  -- ---- processes

  module _ (p : ℕ) (in_p : IsTrue (inside p)) (is : IsTrue (is_process os p)) where
    pub annex_same : annex_at us p ≡ annex_at os p
    annex_same = ap (λ (o : Object). (root_in o.content).annex) (h.same p in_p)

    pub annex_inside : IsTrue (inside (annex_at os p))
    annex_inside = h.left.annexes p in_p is

    pub register_same : (r : ℕ) → register_at us p r ≡ register_at os p r
    register_same r = ap (λ a. slot_at us a r) annex_same
        ∙ ap (λ (o : Object). slice_index_or (slots_in o.content) r Void) (h.same (annex_at os p) annex_inside)

    pub register_stays : (r : ℕ) → NamesBut trusted inside (register_at os p r)
    register_stays r = h.left.slots (annex_at os p) r annex_inside

    set_link : (s : State) → Link trusted inside (consume p (with_state os p s)) (consume p (with_state us p s))
    set_link s = link_consume trusted inside (with_state os p s) (with_state us p s) p (link_state trusted inside os us p h in_p s is)

    put_link : (r : ℕ) (c : Capability) → NamesBut trusted inside c
        → Outcomes (wrote (with_slot os (annex_at os p) r c) (annex_at os p)) (wrote (with_slot us (annex_at us p) r c) (annex_at us p))
    put_link r c stays =
        subst (λ a. Outcomes (wrote (with_slot os (annex_at os p) r c) (annex_at os p)) (wrote (with_slot us a r c) a)) (sym annex_same)
        (wrote_link trusted inside _ _ (link_slot trusted inside os us (annex_at os p) h annex_inside r c stays) (annex_at os p)
        (annex_at os p) refl)

    process_link : (requested : ProcessOrder) (args : Arguments) → NamesBut trusted inside args.capability
        → Outcomes (on_process os p requested args) (on_process us p requested args)
    unfolding on_process
    process_link process.GetRegister args sent = both_chosen Outcomes (nat_lt args.first 32) _ _ _ _ _ refl
        (λ e. give _ _ (register_same args.first) (register_stays args.first)) (λ e. refuse code.BadIndex)
    process_link process.PutRegister args sent = both_chosen Outcomes ((args.first == 0) || not (nat_lt args.first 32)) _ _ _ _ _ refl
        (λ e. refuse code.BadIndex) (λ e. put_link args.first args.capability sent)
    process_link process.GetWord args sent = both_chosen Outcomes (nat_lt args.first 4) _ _ _ _ _ refl
        (λ e. replying_link trusted inside os us h _ 0 _ 0
        (ap (λ (o : Object). slice_index (root_in o.content).words args.first) (h.same p in_p)) refl) (λ e. refuse code.BadIndex)
    process_link process.PutWord args sent = both_chosen Outcomes (nat_lt args.first 4) _ _ _ _ _ refl
        (λ e. wrote_link trusted inside _ _
        (link_of_root trusted inside os us p h in_p (λ r. with_root_word r args.first args.second) annex_inside (h.left.spaces p in_p)) p p
        refl)
        (λ e. refuse code.BadIndex)
    process_link process.MakeStart args sent = both_chosen Outcomes (nat_lt args.first 65536) _ _ _ _ _ refl
        (λ e. same (Start p args.first) (inl in_p)) (λ e. refuse code.BadIndex)
    process_link process.GetState args sent = replying_link trusted inside os us h _ _ _ _
        (ap (λ (o : Object). state_number (root_in o.content).state) (h.same p in_p))
        (ap (λ (o : Object). (root_in o.content).key) (h.same p in_p))
    process_link process.SetState args sent = both_chosen Outcomes (args.first == 0) _ _ _ _ _ refl
        (λ e. wrote_link trusted inside _ _ (set_link Available) p p refl) (λ e.
        both_chosen Outcomes (args.first == 1) _ _ _ _ _ refl (λ f. wrote_link trusted inside _ _ (set_link Running) p p refl)
        (λ f. refuse code.BadIndex))
    process_link process.GetSpace args sent = give _ _ (ap (λ (o : Object). (root_in o.content).space) (h.same p in_p))
        (h.left.spaces p in_p)
    process_link process.SetSpace args sent = both_chosen Outcomes (is_space args.capability) _ _ _ _ _ refl
        (λ e. wrote_link trusted inside _ _
        (link_of_root trusted inside os us p h in_p (λ r. with_space r args.capability) annex_inside sent) p p refl)
        (λ e. refuse code.BadCapability)

  -- if a capability names a member or starts a process, and isn't a start capability, it names a member
  pub member : (n : ℕ) → IsTrue (inside n) ⊎ ⊥ → IsTrue (inside n)
  member n is = grind (arith, nat_tests)

  bank_looks : (b w : ℕ) (requested : BankOrder) → bank_order w ≡ Some requested → looks_outside inside (Bank b) w ≡ false
      → depends_on_supply requested ≡ false
  bank_looks b w requested found looks = grind (arith, nat_tests)

  -- an order that doesn't look outside has linked outcomes
  pub order_link : (g : Geometry) (c : Capability) (w : ℕ) (args : Arguments) → IsNow g os → IsNow g us → IsHeld os (Waits os) c
      → NamesBut trusted inside c → NamesBut trusted inside args.capability → looks_outside inside c w ≡ false
      → Outcomes (order g os c w args) (order g us c w args)
  unfolding order
  order_link g Void w args now then held stays sent looks = refuse code.VoidCapability
  order_link g (Number n) w args now then held stays sent looks = both_chosen Outcomes (w == 1) _ _ _ _ _ refl
      (λ e. replying_link trusted inside os us h n 0 n 0 refl refl) (λ e. refuse code.NoOrder)
  order_link g (Page o a) w args now then held stays sent looks = found_both Outcomes (page_order w) _ _ _ _ (refuse code.NoOrder)
      (λ requested e. page_link o a requested args (member o stays))
  order_link g (Node o a) w args now then held stays sent looks = found_both Outcomes (node_order w) _ _ _ _ (refuse code.NoOrder)
      (λ requested e. node_link o a requested args (member o stays) sent)
  order_link g (Space o k a) w args now then held stays sent looks = both_chosen Outcomes (w == 3) _ _ _ _ _ refl
      (λ e. both_chosen Outcomes (reduces args.first) _ _ _ _ _ refl (λ f. same (Space o k (union a args.first)) stays)
      (λ f. refuse code.BadIndex)) (λ e. refuse code.NoOrder)
  order_link g (Process p) w args now then held stays sent looks = found_both Outcomes (process_order w) _ _ _ _ (refuse code.NoOrder)
      (λ requested e. process_link p (member p stays) held.names requested args sent)
  order_link g (Bank b) w args now then held stays sent looks = found_both Outcomes (bank_order w) _ _ _ _ (refuse code.NoOrder)
      (λ requested e. bank_link trusted inside os us (tree_of g os now.frame) (tree_of g us then.frame) h b (member b stays) held.names g
      requested args
      (bank_looks b w requested e looks) sent)
  order_link g Discrim w args now then held stays sent looks = both_chosen Outcomes (w == 1) _ _ _ _ _ refl
      (λ e. replying_link trusted inside os us h (tag_of args.capability) (access_bits args.capability) _ _ refl refl)
      (λ e. refuse code.NoOrder)
  order_link g c w args now then held stays sent looks = refuse code.NoOrder
