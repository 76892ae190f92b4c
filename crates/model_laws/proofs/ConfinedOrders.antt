-- Orders on objects of a set that encloses its members: a closed set with all free numbers. A
-- capability stays inside a set if it names a member, is weak, or names no object.
use Rattle.model_laws.proofs.Names.{nat_tests, inl, ℕ, Bool, false, not, List, arith, IsTrue, nat_lt, Access, Capability, Void, Number, Page, Node, Space}
use Rattle.model_laws.proofs.Names.{Process, Bank, Discrim, Geometry, Object, State, Available, Running, Arguments, NodeOrder, PageOrder, ProcessOrder, on_bank}
use Rattle.model_laws.proofs.Names.{StaysInside, bank_order, fetched, is_space, node_order, on_node, on_page, on_process, order, page_order, process_order}
use Rattle.model_laws.proofs.Names.{stored, with_root_word, with_space, consume, NamesItsKind, annex_at, is_process, root_at, slot_at, with_state, Encloses}
use Rattle.model_laws.proofs.Names.{StaysWithin}
use Rattle.std.proofs.Common.{◌≡◌, ◌⊎◌, ◌==◌, ◌||◌}
use Rattle.model_laws.proofs.Cases.{chosen, found_or}
use Rattle.model_laws.proofs.SoundOrders.{IsNow}
use Rattle.model_laws.proofs.SoundParts.{IsHeld, Waits}
use Rattle.model.specs.declared.order.NodeOrder.TheVariants as node
use Rattle.model.specs.declared.order.PageOrder.TheVariants as page
use Rattle.model.specs.declared.order.ProcessOrder.TheVariants as process
use Rattle.model_laws.proofs.ConfinedBanks.{OutcomeStays, bank_stays}
use Rattle.model_laws.proofs.Kept.{stays_consume, stays_refl, stays_root, stays_slot, stays_state, stays_trans, stays_word}

-- an outcome that leaves the objects unchanged, and gives a capability that stays inside, stays within the set
still : (inside : ℕ → Bool) (os : List Object) (c : Capability) → Encloses inside os → StaysInside inside c
    → StaysWithin inside os os × StaysInside inside c
still inside os c h stays = (stays_refl inside os h, stays)

void_stays : (inside : ℕ → Bool) → StaysInside inside Void
void_stays inside = inl tt

refused_stays : (inside : ℕ → Bool) (os : List Object) → Encloses inside os → StaysWithin inside os os × StaysInside inside Void
refused_stays inside os h = still inside os Void h (void_stays inside)

-- ---- accesses

-- an object that may be written through a capability that stays inside is a member
writes : (inside : ℕ → Bool) (o : ℕ) (a : Access) → (a.0 ≡ 3) ⊎ IsTrue (inside o) → not (a.0 == 0) ≡ false → IsTrue (inside o)
writes inside o a is e = grind (arith, nat_tests)

fetched_stays : (inside : ℕ → Bool) (o : ℕ) (a : Access) (c : Capability) → (a.0 ≡ 3) ⊎ IsTrue (inside o) →
    (IsTrue (inside o) → StaysInside inside c) → StaysInside inside (fetched a c)
fetched_stays inside o a c named held = grind (arith, nat_tests)

-- an order of a page whose capability stays inside stays in the set

page_stays : (inside : ℕ → Bool) (os : List Object) (o : ℕ) (a : Access) (requested : PageOrder) (args : Arguments) → Encloses inside os
    → StaysInside inside (Page o a) → OutcomeStays inside os (on_page os o a requested args)
unfolding on_page
page_stays inside os o a page.Write args h c =
    chosen (OutcomeStays inside os) (not (a.0 == 0)) _ _ (λ _. refused_stays inside os h) (λ e.
    chosen (OutcomeStays inside os) (nat_lt args.first 512) _ _
    (λ _. (stays_word inside os o args.first args.second h (writes inside o a c e), void_stays inside))
    (λ _. refused_stays inside os h))
page_stays inside os o a which args h c = grind (arith, nat_tests, chosen, refused_stays, still)

stored_stays : (inside : ℕ → Bool) (os : List Object) (o : ℕ) (a : Access) (slot : ℕ) (c : Capability) → Encloses inside os
    → StaysInside inside (Node o a) → StaysInside inside c → OutcomeStays inside os (stored os o a slot c)
stored_stays inside os o a slot c h n stays =
    chosen (OutcomeStays inside os) (not (a.0 == 0)) _ _ (λ _. refused_stays inside os h) (λ e.
    chosen (OutcomeStays inside os) (nat_lt slot 32) _ _
    (λ _. (stays_slot inside os o slot c h (writes inside o a n e) stays, void_stays inside))
    (λ _. refused_stays inside os h))

node_stays : (inside : ℕ → Bool) (os : List Object) (o : ℕ) (a : Access) (requested : NodeOrder) (args : Arguments) → Encloses inside os
    → StaysInside inside (Node o a) → StaysInside inside args.capability → OutcomeStays inside os (on_node os o a requested args)
unfolding on_node
node_stays inside os o a node.Fetch args h c sent = search (arith, nat_tests, chosen, still, fetched_stays, refused_stays)
node_stays inside os o a node.Store args h c sent = stored_stays inside os o a args.first args.capability h c sent
node_stays inside os o a node.PutNumber args h c sent = stored_stays inside os o a args.first (Number args.second) h c (inl tt)
node_stays inside os o a which args h c sent = grind (arith, nat_tests, chosen, still, refused_stays)

set_stays : (inside : ℕ → Bool) (os : List Object) (p : ℕ) (s : State) → Encloses inside os → IsTrue (inside p) → IsTrue (is_process os p)
    → StaysWithin inside os (consume p (with_state os p s))
set_stays inside os p s h is root =
    let us = with_state os p s in
    let first = stays_state inside os p s h is root in
    stays_trans inside os us (consume p us) first (stays_consume inside us p first.encloses is)

process_stays : (inside : ℕ → Bool) (os : List Object) (p : ℕ) (requested : ProcessOrder) (args : Arguments) → Encloses inside os
    → IsTrue (inside p) → IsTrue (is_process os p) → StaysInside inside args.capability →
    OutcomeStays inside os (on_process os p requested args)
unfolding on_process
process_stays inside os p process.PutRegister args h is root sent =
    chosen (OutcomeStays inside os) ((args.first == 0) || not (nat_lt args.first 32)) _ _ (λ _. refused_stays inside os h)
    (λ _. (stays_slot inside os (annex_at os p) args.first args.capability h (h.closed.annexes p is root) sent, void_stays inside))
process_stays inside os p process.PutWord args h is root sent =
    chosen (OutcomeStays inside os) (nat_lt args.first 4) _ _
    (λ _. (
      stays_root inside os p (with_root_word (root_at os p) args.first args.second) h is (h.closed.annexes p is root)
          (h.closed.spaces p is),
      void_stays inside,
    ))
    (λ _. refused_stays inside os h)
process_stays inside os p process.GetState args h is root sent = refused_stays inside os h
process_stays inside os p process.SetState args h is root sent =
    chosen (OutcomeStays inside os) (args.first == 0) _ _ (λ _. (set_stays inside os p Available h is root, void_stays inside)) (λ _.
    chosen (OutcomeStays inside os) (args.first == 1) _ _ (λ _. (set_stays inside os p Running h is root, void_stays inside))
    (λ _. refused_stays inside os h))
process_stays inside os p process.GetSpace args h is root sent = still inside os (root_at os p).space h (h.closed.spaces p is)
process_stays inside os p process.SetSpace args h is root sent =
    chosen (OutcomeStays inside os) (is_space args.capability) _ _
    (λ _. (stays_root inside os p (with_space (root_at os p) args.capability) h is (h.closed.annexes p is root) sent, void_stays inside))
    (λ _. refused_stays inside os h)
process_stays inside os p which args h is root sent = grind (arith, nat_tests, chosen, still, refused_stays)

-- a capability that can't be weak and stays inside names a member
pub strong : (inside : ℕ → Bool) (n : ℕ) → ⊥ ⊎ IsTrue (inside n) → IsTrue (inside n)
strong inside n is = grind (arith, nat_tests)

-- an order on a capability that stays inside stays in the set
pub order_stays : (g : Geometry) (inside : ℕ → Bool) (os : List Object) (c : Capability) (w : ℕ) (args : Arguments) → IsNow g os →
    Encloses inside os → IsHeld os (Waits os) c → StaysInside inside c → NamesItsKind os args.capability →
    StaysInside inside args.capability
    → OutcomeStays inside os (order g os c w args)
unfolding order
order_stays g inside os (Number n) w args now h held stays kind sent = grind (arith, nat_tests, chosen, refused_stays)
order_stays g inside os (Page o a) w args now h held stays kind sent =
    found_or (OutcomeStays inside os) (page_order w) _ (λ requested. on_page os o a requested args) (refused_stays inside os h)
    (λ requested. page_stays inside os o a requested args h stays)
order_stays g inside os (Node o a) w args now h held stays kind sent =
    found_or (OutcomeStays inside os) (node_order w) _ (λ requested. on_node os o a requested args) (refused_stays inside os h)
    (λ requested. node_stays inside os o a requested args h stays sent)
order_stays g inside os (Space o k a) w args now h held stays kind sent = grind (arith, nat_tests, chosen, still, refused_stays)
order_stays g inside os (Process p) w args now h held stays kind sent =
    found_or (OutcomeStays inside os) (process_order w) _ (λ requested. on_process os p requested args) (refused_stays inside os h)
    (λ requested. process_stays inside os p requested args h (strong inside p stays) held.names sent)
order_stays g inside os (Bank b) w args now h held stays kind sent =
    found_or (OutcomeStays inside os) (bank_order w) _ (λ requested. on_bank g os b requested args) (refused_stays inside os h)
    (λ requested. bank_stays g inside os b requested args now held.names (strong inside b stays) kind sent h)
order_stays g inside os Discrim w args now h held stays kind sent = grind (arith, nat_tests, chosen, refused_stays)
order_stays g inside os c w args now h held stays kind sent = refused_stays inside os h
