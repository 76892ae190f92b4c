-- An invocation by a member of a closed set stays within the set. A capability stays inside a set
-- if it names a member, is weak, names no object, or starts a trusted process.
use Rattle.confinement.proofs.Names.{arith, nat_tests, inl, inr, ℕ, zero, suc, Some, List, [], map, refl, IsTrue, slice_index, slice_index_or, slice_set}
use Rattle.confinement.proofs.Names.{and_parts, Capability, Void, Resume, Invocation, Message, Operation, Call, Geometry, Object, Root, State, Running, Effect}
use Rattle.confinement.proofs.Names.{after_gate, after_order, deliver, invoke, on_kernel_object, ordered, replied, reply_of, sent_by, sent_to_gate}
use Rattle.confinement.proofs.Names.{through_gate, is_running, OrderOutcome, consume, annex_at, is_process, is_running_process, register_at, root_at, with_root}
use Rattle.confinement.proofs.Names.{with_slots_from, with_state, after_gate_by, after_order_by, invoked_by, replied_by, at_set, IsAfter, after_state}
use Rattle.confinement.proofs.Names.{held_sent, IsNow, IsHeld, Waits, held_on, held_to, state_at, frame_refl, tests_at}
use Rattle.std.proofs.Common.{◌≡◌, ◌⊎◌, ◌∷◌, ◌∙◌}
use Rattle.confinement.proofs.Zones.{Encloses, IsReceiver, MayChange, Stays, StaysWithin, Zone}
use Rattle.confinement.proofs.TrustedEdits.{stays_consume, stays_refl, stays_root, stays_slots, stays_state, stays_trans}
use Rattle.confinement.proofs.TrustedBanks.{OutcomeStays}
use Rattle.confinement.proofs.TrustedOrders.{order_stays, strong}

-- ---- delivery

-- if a process may receive messages, its root and annex may change
annex_changes : (z : Zone) (os : List Object) (p : ℕ) → Encloses z os → IsTrue (is_process os p) → IsReceiver z p (annex_at os p)
    → MayChange z p × MayChange z (annex_at os p)
annex_changes z os p h root (inl member) = (inl member, inl (h.closed.annexes p member root))
annex_changes z os p h root (inr port) = (inr port.0, inr port.1)

deliver_stays : (z : Zone) (os : List Object) (p : ℕ) (m : Message) → Encloses z os → IsReceiver z p (annex_at os p) →
    IsTrue (is_process os p) → ((j : ℕ) → Stays z (slice_index_or m.capabilities j Void)) → StaysWithin z os (deliver os p m)
unfolding deliver
deliver_stays z os p m h receives root sent =
    let old = root_at os p in
    let new : Root Capability = record { state = Running; words = m.words; key = m.key; annex = old.annex; space = old.space } in
    let us = with_root os p new in
    let change = annex_changes z os p h root receives in
    let first = stays_root z os p new h change.0 root refl (h.closed.spaces p) in
    stays_trans z os us (with_slots_from us old.annex 28 m.capabilities) first
    (stays_slots z us old.annex 28 m.capabilities first.encloses change.1 sent)

-- ---- the capabilities that a message carries

map_stays : (z : Zone) (f : ℕ → Capability) (rs : List ℕ) (j : ℕ) → ((r : ℕ) → Stays z (f r))
    → Stays z (slice_index_or (map f rs) j Void)
map_stays z f [] j h = inl (inl tt)
map_stays z f (r ∷ rs) zero h = h r
map_stays z f (r ∷ rs) (suc j) h = map_stays z f rs j h

-- a running member of a closed set
pub record IsInvoker (z : Zone) (os : List Object) (p : ℕ) : Type 0 where
  pub encloses : Encloses z os
  pub member : IsTrue (z.members p)
  pub runs : IsTrue (is_running_process os p)

root_of : (z : Zone) (os : List Object) (p : ℕ) → IsInvoker z os p → IsTrue (is_process os p)
root_of z os p by = (and_parts (is_process os p) (is_running (state_at os p)) by.runs).0

register_stays : (z : Zone) (os : List Object) (p r : ℕ) → IsInvoker z os p → Stays z (register_at os p r)
register_stays z os p r by = grind (arith, nat_tests)

sent_stays : (z : Zone) (os : List Object) (i : Invocation) (j : ℕ) → IsInvoker z os i.process
    → Stays z (slice_index_or (sent_by os i) j Void)
sent_stays z os i j by = map_stays z (register_at os i.process) i.sent j (λ r. register_stays z os i.process r by)

gate_sent_stays : (z : Zone) (os : List Object) (i : Invocation) (j : ℕ) → IsInvoker z os i.process
    → Stays z (slice_index_or (sent_to_gate os i) j Void)
gate_sent_stays z os i j by = go i.operation
  where
    go : (o : Operation) → Stays z (slice_index_or (elim o [ Call ↦ slice_set (sent_by os i) 3 (Resume i.process) | _ ↦ sent_by os i ]) j
        Void)
    go Call = at_set (λ m c. Stays z c) (sent_by os i) 3 j (Resume i.process) Void (inl (inr by.member)) (sent_stays z os i j by)
    go o = sent_stays z os i j by

-- ---- the invoker's state

-- objects after the invoker changed its state, within the set
record IsReady (g : Geometry) (z : Zone) (os us : List Object) : Type 0 where
  pub stays : StaysWithin z os us
  pub after : IsAfter g os us

state_ready : (g : Geometry) (z : Zone) (os : List Object) (p : ℕ) (s : State) → IsNow g os → IsInvoker z os p
    → IsReady g z os (with_state os p s)
state_ready g z os p s h by = search (arith, nat_tests, stays_state, root_of, after_state)

none_ready : (g : Geometry) (z : Zone) (os : List Object) (p : ℕ) → IsNow g os → IsInvoker z os p → IsReady g z os os
none_ready g z os p h by = grind (arith, nat_tests, stays_refl, frame_refl)

gate_ready : (g : Geometry) (z : Zone) (os : List Object) (i : Invocation) → IsNow g os → IsInvoker z os i.process
    → IsReady g z os (after_gate os i)
gate_ready g z os i h by =
    after_gate_by (IsReady g z os) os i (none_ready g z os i.process h by) (λ s. state_ready g z os i.process s h by)

order_ready : (g : Geometry) (z : Zone) (os : List Object) (i : Invocation) → IsNow g os → IsInvoker z os i.process
    → IsReady g z os (after_order os i)
order_ready g z os i h by =
    after_order_by (IsReady g z os) os i (none_ready g z os i.process h by) (λ s. state_ready g z os i.process s h by)

-- ---- start and resume capabilities

-- a process that is a member or trusted may receive messages
receiver : (z : Zone) (os : List Object) (q : ℕ) → Encloses z os → IsTrue (is_process os q) → IsTrue (z.members q) ⊎ IsTrue (z.trusted q)
    → IsReceiver z q (annex_at os q)
receiver z os q h root (inl member) = inl member
receiver z os q h root (inr trusts) = h.receives q trusts root

through_stays : (g : Geometry) (z : Zone) (os : List Object) (i : Invocation) (q key : ℕ) → IsNow g os → IsInvoker z os i.process
    → IsTrue (z.members q) ⊎ IsTrue (z.trusted q) → IsTrue (is_process os q) → StaysWithin z os (through_gate os i q key).objects
unfolding through_gate
through_stays g z os i q key h by is root =
    let us = after_gate os i in
    let m : Message = record { words = i.words; key = key; capabilities = sent_to_gate os i } in
    let ready = gate_ready g z os i h by in
    let there : IsTrue (is_process us q) = (tests_at os us ready.after.frame q).root ∙ root in
    stays_trans z os us (deliver us q m) ready.stays
    (deliver_stays z us q m ready.stays.encloses (receiver z us q ready.stays.encloses there is) there (λ j. gate_sent_stays z os i j by))

resume_stays : (g : Geometry) (z : Zone) (os : List Object) (i : Invocation) (q : ℕ) → IsNow g os → IsInvoker z os i.process
    → IsTrue (z.members q) → IsTrue (is_process os q) → StaysWithin z os (consume q (through_gate os i q 0).objects)
resume_stays g z os i q h by is root =
    let us = (through_gate os i q 0).objects in
    let first = through_stays g z os i q 0 h by (inl is) root in
    stays_trans z os us (consume q us) first (stays_consume z us q first.encloses is)

-- ---- kernel objects

reply_stays : (z : Zone) (o : OrderOutcome) (j : ℕ) → Stays z o.capability →
    Stays z (slice_index_or (reply_of o).capabilities j Void)
reply_stays z o j h = grind (arith, nat_tests)

replied_stays : (z : Zone) (i : Invocation) (o : OrderOutcome) → Encloses z o.objects → IsTrue (z.members i.process)
    → Stays z o.capability → StaysWithin z o.objects (replied o.objects i o)
replied_stays z i o h is given =
    replied_by (StaysWithin z o.objects) o.objects i o (stays_refl z o.objects h) (λ runs.
    deliver_stays z o.objects i.process (reply_of o) h (inl is)
    (and_parts (is_process o.objects i.process) (is_running (state_at o.objects i.process)) runs).0 (λ j. reply_stays z o j given))

-- if a process may hold a capability before the invoker's state changes, it may hold the capability afterwards
held_ready : (g : Geometry) (z : Zone) (os us : List Object) (c : Capability) → IsReady g z os us → IsHeld os (Waits os) c →
    IsHeld us (Waits us) c
held_ready g z os us c ready held = held_on os us (Waits os) (Waits us) c ready.after.frame ready.after.waits held

ordered_stays : (g : Geometry) (z : Zone) (os : List Object) (i : Invocation) → IsNow g os → IsInvoker z os i.process
    → OutcomeStays z (after_order os i) (ordered g os i)
ordered_stays g z os i h by =
    let us = after_order os i in
    let c = register_at os i.process i.register in
    let sent = slice_index_or (sent_by os i) 0 Void in
    let ready = order_ready g z os i h by in
    order_stays g z us c (slice_index i.words 0)
    (record { first = slice_index i.words 1; second = slice_index i.words 2; capability = sent }) ready.after.now ready.stays.encloses
    (held_ready g z os us c ready ((h.filled (annex_at os i.process)).slots i.register)) (register_stays z os i.process i.register by)
    (held_to us sent (held_ready g z os us sent ready (held_sent g os i 0 h))).1 (sent_stays z os i 0 by)

kernel_stays : (g : Geometry) (z : Zone) (os : List Object) (i : Invocation) → IsNow g os → IsInvoker z os i.process
    → StaysWithin z os (on_kernel_object g os i).objects
unfolding on_kernel_object
kernel_stays g z os i h by =
    let us = after_order os i in
    let o = ordered g os i in
    let first = (order_ready g z os i h by).stays in
    let requested = ordered_stays g z os i h by in
    stays_trans z os us (replied o.objects i o) first
    (stays_trans z us o.objects (replied o.objects i o) requested.0
    (replied_stays z i o requested.0.encloses by.member requested.1))

-- ---- invocations

-- a start capability that stays inside names a member or a trusted process
started : (z : Zone) (q : ℕ) → (⊥ ⊎ IsTrue (z.members q)) ⊎ IsTrue (z.trusted q) → IsTrue (z.members q) ⊎ IsTrue (z.trusted q)
started z q is = grind (arith, nat_tests)

pub invoked_stays : (g : Geometry) (z : Zone) (os : List Object) (i : Invocation) (e : Effect) → IsNow g os → IsInvoker z os i.process
    → invoke g os i ≡ Some e → StaysWithin z os e.objects
invoked_stays g z os i e h by =
    invoked_by (StaysWithin z os) os i (λ c. IsHeld os (Waits os) c × Stays z c) g e
    ((h.filled (annex_at os i.process)).slots i.register, register_stays z os i.process i.register by)
    (λ q key has can. through_stays g z os i q key h by (started z q has.1) has.0.names)
    (λ q has. resume_stays g z os i q h by (strong z q has.1) has.0.names.0)
    (kernel_stays g z os i h by)
