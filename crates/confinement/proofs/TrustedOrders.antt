-- An order on an object of a closed set stays within the set. A capability stays inside a set if it
-- names a member, is weak, names no object, or starts a trusted process.
use Rattle.confinement.proofs.Names.{nat_tests, inl, refl, ℕ, false, not, List, arith, IsTrue, nat_lt, Access, Capability, Void, Number, Page, Node}
use Rattle.confinement.proofs.Names.{Space, Process, Bank, Discrim, Geometry, Object, State, Available, Running, Arguments, NodeOrder, PageOrder, ProcessOrder}
use Rattle.confinement.proofs.Names.{on_bank, bank_order, fetched, is_space, node_order, on_node, on_page, on_process, order, page_order, process_order, stored}
use Rattle.confinement.proofs.Names.{with_root_word, with_space, consume, NamesItsKind, annex_at, is_process, root_at, with_state, chosen, found_or}
use Rattle.confinement.proofs.Names.{IsNow, IsHeld, Waits}
use Rattle.std.proofs.Common.{◌≡◌, ◌⊎◌, ◌==◌, ◌||◌}
use Rattle.confinement.proofs.Zones.{Encloses, Stays, StaysWithin, Zone}
use Rattle.model.specs.declared.order.NodeOrder.TheVariants as node
use Rattle.model.specs.declared.order.PageOrder.TheVariants as page
use Rattle.model.specs.declared.order.ProcessOrder.TheVariants as process
use Rattle.confinement.proofs.TrustedBanks.{OutcomeStays, bank_stays}
use Rattle.confinement.proofs.TrustedEdits.{stays_consume, stays_refl, stays_root, stays_slot, stays_state, stays_trans, stays_word}

-- an outcome without changes stays within the set, if the capability that it gives stays inside
still : (z : Zone) (os : List Object) (c : Capability) → Encloses z os → Stays z c
    → StaysWithin z os os × Stays z c
still z os c h stays = (stays_refl z os h, stays)

void_stays : (z : Zone) → Stays z Void
void_stays z = inl (inl tt)

refused_stays : (z : Zone) (os : List Object) → Encloses z os → StaysWithin z os os × Stays z Void
refused_stays z os h = still z os Void h (void_stays z)

-- ---- accesses

-- if a capability that stays inside gives write access to an object, the object is a member
writes : (z : Zone) (o : ℕ) (a : Access) → ((a.0 ≡ 3) ⊎ IsTrue (z.members o)) ⊎ ⊥ → not (a.0 == 0) ≡ false → IsTrue (z.members o)
writes z o a is e = grind (arith, nat_tests)

fetched_stays : (z : Zone) (o : ℕ) (a : Access) (c : Capability) → ((a.0 ≡ 3) ⊎ IsTrue (z.members o)) ⊎ ⊥ →
    (IsTrue (z.members o) → Stays z c) → Stays z (fetched a c)
fetched_stays z o a c named held = grind (arith, nat_tests)

-- ---- orders

page_stays : (z : Zone) (os : List Object) (o : ℕ) (a : Access) (requested : PageOrder) (args : Arguments) → Encloses z os
    → Stays z (Page o a) → OutcomeStays z os (on_page os o a requested args)
unfolding on_page
page_stays z os o a page.Write args h c =
    chosen (OutcomeStays z os) (not (a.0 == 0)) _ _ (λ _. refused_stays z os h) (λ e.
    chosen (OutcomeStays z os) (nat_lt args.first 512) _ _
    (λ _. (stays_word z os o args.first args.second h (writes z o a c e), void_stays z))
    (λ _. refused_stays z os h))
page_stays z os o a which args h c = grind (arith, nat_tests, chosen, refused_stays, still)

stored_stays : (z : Zone) (os : List Object) (o : ℕ) (a : Access) (slot : ℕ) (c : Capability) → Encloses z os
    → Stays z (Node o a) → Stays z c → OutcomeStays z os (stored os o a slot c)
stored_stays z os o a slot c h n stays =
    chosen (OutcomeStays z os) (not (a.0 == 0)) _ _ (λ _. refused_stays z os h) (λ e.
    chosen (OutcomeStays z os) (nat_lt slot 32) _ _
    (λ _. (stays_slot z os o slot c h (inl (writes z o a n e)) stays, void_stays z))
    (λ _. refused_stays z os h))

node_stays : (z : Zone) (os : List Object) (o : ℕ) (a : Access) (requested : NodeOrder) (args : Arguments) → Encloses z os
    → Stays z (Node o a) → Stays z args.capability → OutcomeStays z os (on_node os o a requested args)
unfolding on_node
node_stays z os o a node.Fetch args h c sent = search (arith, nat_tests, chosen, still, fetched_stays, refused_stays)
node_stays z os o a node.Store args h c sent = stored_stays z os o a args.first args.capability h c sent
node_stays z os o a node.PutNumber args h c sent = stored_stays z os o a args.first (Number args.second) h c (inl (inl tt))
node_stays z os o a which args h c sent = grind (arith, nat_tests, chosen, still, refused_stays)

set_stays : (z : Zone) (os : List Object) (p : ℕ) (s : State) → Encloses z os → IsTrue (z.members p) → IsTrue (is_process os p)
    → StaysWithin z os (consume p (with_state os p s))
set_stays z os p s h is root =
    let us = with_state os p s in
    let first = stays_state z os p s h is root in
    stays_trans z os us (consume p us) first (stays_consume z us p first.encloses is)

process_stays : (z : Zone) (os : List Object) (p : ℕ) (requested : ProcessOrder) (args : Arguments) → Encloses z os
    → IsTrue (z.members p) → IsTrue (is_process os p) → Stays z args.capability → OutcomeStays z os (on_process os p requested args)
unfolding on_process
process_stays z os p process.PutRegister args h is root sent =
    chosen (OutcomeStays z os) ((args.first == 0) || not (nat_lt args.first 32)) _ _ (λ _. refused_stays z os h)
    (λ _. (stays_slot z os (annex_at os p) args.first args.capability h (inl (h.closed.annexes p is root)) sent, void_stays z))
process_stays z os p process.PutWord args h is root sent =
    chosen (OutcomeStays z os) (nat_lt args.first 4) _ _
    (λ _. (
      stays_root z os p (with_root_word (root_at os p) args.first args.second) h (inl is) root refl (h.closed.spaces p),
      void_stays z,
    ))
    (λ _. refused_stays z os h)
process_stays z os p process.GetState args h is root sent = refused_stays z os h
process_stays z os p process.SetState args h is root sent =
    chosen (OutcomeStays z os) (args.first == 0) _ _ (λ _. (set_stays z os p Available h is root, void_stays z)) (λ _.
    chosen (OutcomeStays z os) (args.first == 1) _ _ (λ _. (set_stays z os p Running h is root, void_stays z)) (λ _. refused_stays z os h))
process_stays z os p process.GetSpace args h is root sent = still z os (root_at os p).space h (h.closed.spaces p is)
process_stays z os p process.SetSpace args h is root sent =
    chosen (OutcomeStays z os) (is_space args.capability) _ _
    (λ _. (stays_root z os p (with_space (root_at os p) args.capability) h (inl is) root refl (λ _. sent), void_stays z))
    (λ _. refused_stays z os h)
process_stays z os p which args h is root sent = grind (arith, nat_tests, chosen, still, refused_stays)

-- if a capability stays inside and its kind is never weak, it names a member
pub strong : (z : Zone) (n : ℕ) → (⊥ ⊎ IsTrue (z.members n)) ⊎ ⊥ → IsTrue (z.members n)
strong z n is = grind (arith, nat_tests)

-- an order by a capability that stays inside stays within the set
pub order_stays : (g : Geometry) (z : Zone) (os : List Object) (c : Capability) (w : ℕ) (args : Arguments) → IsNow g os → Encloses z os
    → IsHeld os (Waits os) c → Stays z c → NamesItsKind os args.capability → Stays z args.capability
    → OutcomeStays z os (order g os c w args)
unfolding order
order_stays g z os (Number n) w args now h held stays kind sent = grind (arith, nat_tests, chosen, refused_stays)
order_stays g z os (Page o a) w args now h held stays kind sent =
    found_or (OutcomeStays z os) (page_order w) _ (λ requested. on_page os o a requested args) (refused_stays z os h)
    (λ requested. page_stays z os o a requested args h stays)
order_stays g z os (Node o a) w args now h held stays kind sent =
    found_or (OutcomeStays z os) (node_order w) _ (λ requested. on_node os o a requested args) (refused_stays z os h)
    (λ requested. node_stays z os o a requested args h stays sent)
order_stays g z os (Space o k a) w args now h held stays kind sent = grind (arith, nat_tests, chosen, still, refused_stays)
order_stays g z os (Process p) w args now h held stays kind sent =
    found_or (OutcomeStays z os) (process_order w) _ (λ requested. on_process os p requested args) (refused_stays z os h)
    (λ requested. process_stays z os p requested args h (strong z p stays) held.names sent)
order_stays g z os (Bank b) w args now h held stays kind sent =
    found_or (OutcomeStays z os) (bank_order w) _ (λ requested. on_bank g os b requested args) (refused_stays z os h)
    (λ requested. bank_stays g z os b requested args now held.names (strong z b stays) kind sent h)
order_stays g z os Discrim w args now h held stays kind sent = grind (arith, nat_tests, chosen, refused_stays)
order_stays g z os c w args now h held stays kind sent = refused_stays z os h
