-- Invocations by a process of a set that encloses its members: a closed set with all free numbers.
-- A capability stays inside a set if it names a member, is weak, or names no object.
use Rattle.model_laws.proofs.Names.{arith, nat_tests, inl, inr, ℕ, zero, suc, Bool, Some, List, [], map, IsTrue, slice_index, slice_index_or, slice_set}
use Rattle.model_laws.proofs.Names.{and_parts, Capability, Void, Resume, Invocation, Message, Operation, Call, Geometry, Object, Root, State, Running}
use Rattle.model_laws.proofs.Names.{StaysInside, Effect, after_gate, after_order, deliver, invoke, on_kernel_object, ordered, replied, reply_of, sent_by}
use Rattle.model_laws.proofs.Names.{sent_to_gate, through_gate, is_running, OrderOutcome, consume, annex_at, is_process, is_running_process, register_at}
use Rattle.model_laws.proofs.Names.{root_at, with_root, with_slots_from, with_state, Encloses, InvocationIsConfined, StaysWithin}
use Rattle.std.proofs.Common.{◌≡◌, ◌∷◌, ◌∙◌}
use Rattle.model_laws.proofs.Cases.{after_gate_by, after_order_by, invoked_by, replied_by}
use Rattle.model_laws.proofs.SoundEdits.{at_set}
use Rattle.model_laws.proofs.SoundGates.{IsAfter}
use Rattle.model_laws.proofs.SoundGates.{after_state, held_sent}
use Rattle.model_laws.proofs.SoundOrders.{IsNow}
use Rattle.model_laws.proofs.SoundParts.{IsHeld, Waits, held_on, held_to, nearly_from, state_at}
use Rattle.model_laws.proofs.Usage.{frame_refl, tests_at}
use Rattle.model_laws.proofs.Kept.{stays_consume, stays_refl, stays_root, stays_slots, stays_state, stays_trans}
use Rattle.model_laws.proofs.ConfinedBanks.{OutcomeStays}
use Rattle.model_laws.proofs.ConfinedOrders.{order_stays, strong}

-- a message to a member, whose capabilities stay inside, changes only the set

deliver_stays : (inside : ℕ → Bool) (os : List Object) (p : ℕ) (m : Message) → Encloses inside os → IsTrue (inside p) →
    IsTrue (is_process os p) → ((j : ℕ) → StaysInside inside (slice_index_or m.capabilities j Void)) →
    StaysWithin inside os (deliver os p m)
unfolding deliver
deliver_stays inside os p m h is root sent =
    let old = root_at os p in
    let new : Root Capability = record { state = Running; words = m.words; key = m.key; annex = old.annex; space = old.space } in
    let us = with_root os p new in
    let annex = h.closed.annexes p is root in
    let first = stays_root inside os p new h is annex (h.closed.spaces p is) in
    stays_trans inside os us (with_slots_from us old.annex 28 m.capabilities) first
    (stays_slots inside us old.annex 28 m.capabilities first.encloses annex sent)

-- if f returns only capabilities that stay inside, a list mapped by f has only such capabilities

map_stays : (inside : ℕ → Bool) (f : ℕ → Capability) (rs : List ℕ) (j : ℕ) → ((r : ℕ) → StaysInside inside (f r))
    → StaysInside inside (slice_index_or (map f rs) j Void)
map_stays inside f [] j h = inl tt
map_stays inside f (r ∷ rs) zero h = h r
map_stays inside f (r ∷ rs) (suc j) h = map_stays inside f rs j h

-- p is a running process in the set, and the set encloses its members
record IsInvoker (inside : ℕ → Bool) (os : List Object) (p : ℕ) : Type 0 where
  pub encloses : Encloses inside os
  pub member : IsTrue (inside p)
  pub runs : IsTrue (is_running_process os p)

root_of : (inside : ℕ → Bool) (os : List Object) (p : ℕ) → IsInvoker inside os p → IsTrue (is_process os p)
root_of inside os p by = (and_parts (is_process os p) (is_running (state_at os p)) by.runs).0

register_stays : (inside : ℕ → Bool) (os : List Object) (p r : ℕ) → IsInvoker inside os p → StaysInside inside (register_at os p r)
register_stays inside os p r by = grind (arith, nat_tests)

sent_stays : (inside : ℕ → Bool) (os : List Object) (i : Invocation) (j : ℕ) → IsInvoker inside os i.process
    → StaysInside inside (slice_index_or (sent_by os i) j Void)
sent_stays inside os i j by = map_stays inside (register_at os i.process) i.sent j (λ r. register_stays inside os i.process r by)

gate_sent_stays : (inside : ℕ → Bool) (os : List Object) (i : Invocation) (j : ℕ) → IsInvoker inside os i.process
    → StaysInside inside (slice_index_or (sent_to_gate os i) j Void)
gate_sent_stays inside os i j by = go i.operation
  where
    go : (o : Operation) → StaysInside inside (slice_index_or (elim o [
      | Call ↦ slice_set (sent_by os i) 3 (Resume i.process)
      | _ ↦ sent_by os i
    ]) j Void)
    go Call = at_set (λ m c. StaysInside inside c) (sent_by os i) 3 j (Resume i.process) Void (inr by.member) (sent_stays inside os i j by)
    go o = sent_stays inside os i j by

-- ---- the invoker's state

-- objects after the invoker's state changed
record IsReady (g : Geometry) (inside : ℕ → Bool) (os us : List Object) : Type 0 where
  pub stays : StaysWithin inside os us
  pub after : IsAfter g os us

state_ready : (g : Geometry) (inside : ℕ → Bool) (os : List Object) (p : ℕ) (s : State) → IsNow g os → IsInvoker inside os p
    → IsReady g inside os (with_state os p s)
state_ready g inside os p s h by = search (arith, nat_tests, stays_state, root_of, after_state)

none_ready : (g : Geometry) (inside : ℕ → Bool) (os : List Object) (p : ℕ) → IsNow g os → IsInvoker inside os p → IsReady g inside os os
none_ready g inside os p h by = grind (arith, nat_tests, stays_refl, frame_refl)

gate_ready : (g : Geometry) (inside : ℕ → Bool) (os : List Object) (i : Invocation) → IsNow g os → IsInvoker inside os i.process
    → IsReady g inside os (after_gate os i)
gate_ready g inside os i h by =
    after_gate_by (IsReady g inside os) os i (none_ready g inside os i.process h by) (λ s. state_ready g inside os i.process s h by)

order_ready : (g : Geometry) (inside : ℕ → Bool) (os : List Object) (i : Invocation) → IsNow g os → IsInvoker inside os i.process
    → IsReady g inside os (after_order os i)
order_ready g inside os i h by =
    after_order_by (IsReady g inside os) os i (none_ready g inside os i.process h by) (λ s. state_ready g inside os i.process s h by)

-- an invocation of a member through a gate stays within the set

through_stays : (g : Geometry) (inside : ℕ → Bool) (os : List Object) (i : Invocation) (q key : ℕ) → IsNow g os →
    IsInvoker inside os i.process → IsTrue (inside q) → IsTrue (is_process os q) → StaysWithin inside os (through_gate os i q key).objects
unfolding through_gate
through_stays g inside os i q key h by is root =
    let us = after_gate os i in
    let m : Message = record { words = i.words; key = key; capabilities = sent_to_gate os i } in
    let ready = gate_ready g inside os i h by in
    stays_trans inside os us (deliver us q m) ready.stays
    (deliver_stays inside us q m ready.stays.encloses is ((tests_at os us ready.after.frame q).root ∙ root)
    (λ j. gate_sent_stays inside os i j by))

resume_stays : (g : Geometry) (inside : ℕ → Bool) (os : List Object) (i : Invocation) (q : ℕ) → IsNow g os → IsInvoker inside os i.process
    → IsTrue (inside q) → IsTrue (is_process os q) → StaysWithin inside os (consume q (through_gate os i q 0).objects)
resume_stays g inside os i q h by is root =
    let us = (through_gate os i q 0).objects in
    let first = through_stays g inside os i q 0 h by is root in
    stays_trans inside os us (consume q us) first (stays_consume inside us q first.encloses is)

-- the capabilities of a reply stay inside if the outcome's capability does

reply_stays : (inside : ℕ → Bool) (o : OrderOutcome) (j : ℕ) → StaysInside inside o.capability →
    StaysInside inside (slice_index_or (reply_of o).capabilities j Void)
reply_stays inside o j h = grind (arith, nat_tests)

replied_stays : (inside : ℕ → Bool) (i : Invocation) (o : OrderOutcome) → Encloses inside o.objects → IsTrue (inside i.process)
    → StaysInside inside o.capability → StaysWithin inside o.objects (replied o.objects i o)
replied_stays inside i o h is given =
    replied_by (StaysWithin inside o.objects) o.objects i o (stays_refl inside o.objects h) (λ runs.
    deliver_stays inside o.objects i.process (reply_of o) h is
    (and_parts (is_process o.objects i.process) (is_running (state_at o.objects i.process)) runs).0 (λ j. reply_stays inside o j given))

-- a capability that may be held before the invoker's state changes may be held afterwards
held_ready : (g : Geometry) (inside : ℕ → Bool) (os us : List Object) (c : Capability) → IsReady g inside os us → IsHeld os (Waits os) c →
    IsHeld us (Waits us) c
held_ready g inside os us c ready held = held_on os us (Waits os) (Waits us) c ready.after.frame ready.after.waits held

ordered_stays : (g : Geometry) (inside : ℕ → Bool) (os : List Object) (i : Invocation) → IsNow g os → IsInvoker inside os i.process
    → OutcomeStays inside (after_order os i) (ordered g os i)
ordered_stays g inside os i h by =
    let us = after_order os i in
    let c = register_at os i.process i.register in
    let sent = slice_index_or (sent_by os i) 0 Void in
    let ready = order_ready g inside os i h by in
    order_stays g inside us c (slice_index i.words 0)
    (record { first = slice_index i.words 1; second = slice_index i.words 2; capability = sent }) ready.after.now ready.stays.encloses
    (held_ready g inside os us c ready ((h.filled (annex_at os i.process)).slots i.register))
    (register_stays inside os i.process i.register by)
    (held_to us sent (held_ready g inside os us sent ready (held_sent g os i 0 h))).1 (sent_stays inside os i 0 by)

kernel_stays : (g : Geometry) (inside : ℕ → Bool) (os : List Object) (i : Invocation) → IsNow g os → IsInvoker inside os i.process
    → StaysWithin inside os (on_kernel_object g os i).objects
unfolding on_kernel_object
kernel_stays g inside os i h by =
    let us = after_order os i in
    let o = ordered g os i in
    let first = (order_ready g inside os i h by).stays in
    let requested = ordered_stays g inside os i h by in
    stays_trans inside os us (replied o.objects i o) first
    (stays_trans inside us o.objects (replied o.objects i o) requested.0
    (replied_stays inside i o requested.0.encloses by.member requested.1))

-- the effect of an invocation by a member stays within the set

invoked_stays : (g : Geometry) (inside : ℕ → Bool) (os : List Object) (i : Invocation) (e : Effect) → IsNow g os →
    IsInvoker inside os i.process → invoke g os i ≡ Some e → StaysWithin inside os e.objects
invoked_stays g inside os i e h by =
    invoked_by (StaysWithin inside os) os i (λ c. IsHeld os (Waits os) c × StaysInside inside c) g e
    ((h.filled (annex_at os i.process)).slots i.register, register_stays inside os i.process i.register by)
    (λ q key has can. through_stays g inside os i q key h by (strong inside q has.1) has.0.names)
    (λ q has. resume_stays g inside os i q h by (strong inside q has.1) has.0.names.0)
    (kernel_stays g inside os i h by)

-- an invocation by a process of a set that encloses its members stays within the set
pub invocation_confined : InvocationIsConfined
invocation_confined g w i e inside sound fits runs h is done = search (arith, nat_tests, invoked_stays, nearly_from)
