-- What invocations don't change: owners, roles, annexes, limits, and with them chains and usages.
use Rattle.model_laws.proofs.Names.{arith, nat_tests, ℕ, not, None, Some, List, [], refl, sym, subst, IsTrue, nat_lt, slice_index, slice_index_or, and_parts}
use Rattle.model_laws.proofs.Names.{Access, Capability, Void, Number, Page, Node, Space, Process, Bank, Discrim, Invocation, Message, Geometry, Object, Root}
use Rattle.model_laws.proofs.Names.{State, Available, Running, Arguments, NodeOrder, PageOrder, ProcessOrder, is_running, with_slot_in, with_word_in}
use Rattle.model_laws.proofs.Names.{content_at, owner_at, root_at, annex_at, register_at, is_process, is_running_process, with_word, with_slot, with_root}
use Rattle.model_laws.proofs.Names.{with_state, with_slots_from, consume, OrderOutcome, refused, IsNoBankOrder, bank_order, page_order, node_order}
use Rattle.model_laws.proofs.Names.{process_order, reduces, is_space, stored, on_page, on_node, on_process, order, Effect, deliver, sent_by, sent_to_gate}
use Rattle.model_laws.proofs.Names.{after_gate, after_order, through_gate, reply_of, replied, ordered, on_kernel_object, invoke, IsSound, Fits}
use Rattle.std.proofs.Common.{◌≡◌, ◌+◌, ◌==◌, ◌||◌, ◌∷◌, ◌∙◌}
use Rattle.model.specs.declared.command.Command.TheVariants as command
use Rattle.model.specs.declared.order.NodeOrder.TheVariants as node
use Rattle.model.specs.declared.order.PageOrder.TheVariants as page
use Rattle.model.specs.declared.order.ProcessOrder.TheVariants as process
use Rattle.model.specs.declared.order.ResultCode.TheVariants as code
use Rattle.model_laws.proofs.Cases.{after_gate_by, after_order_by, found_or, invoked_by, one_of, replied_by}
use Rattle.model_laws.proofs.Usage.{SameFrame, frame_refl, frame_trans, tests_at}
use Rattle.model_laws.proofs.SoundParts.{IsHeld, Waits, state_at, held_on, nearly_from, nearly_to}
use Rattle.model_laws.proofs.SoundEdits.{alike_slot, alike_word, frame_content, frame_consume}
pub use Rattle.model_laws.proofs.SoundEdits.{root_frame, state_frame}
use Rattle.model_laws.proofs.SoundOrders.{IsNow}
use Rattle.model_laws.proofs.SoundGates.{after_state}

-- setting a word keeps owners, roles, annexes and limits (`SameFrame`)

pub word_frame : (os : List Object) (n i w : ℕ) → SameFrame os (with_word os n i w)
unfolding with_word
word_frame os n i w = frame_content os n (with_word_in (content_at os n) i w) (alike_word (owner_at os n) i w (content_at os n))

pub slot_frame : (os : List Object) (n i : ℕ) (c : Capability) → SameFrame os (with_slot os n i c)
unfolding with_slot
slot_frame os n i c = frame_content os n (with_slot_in (content_at os n) i c) (alike_slot (owner_at os n) i c (content_at os n))

slots_frame : (os : List Object) (n i : ℕ) (cs : List Capability) → SameFrame os (with_slots_from os n i cs)
slots_frame os n i [] = frame_refl os
slots_frame os n i (c ∷ cs) = search (arith, nat_tests, frame_trans, slot_frame, slots_frame (with_slot os n i c) n (i + 1) cs)

-- delivering a message keeps owners, roles, annexes and limits (`SameFrame`)
pub deliver_frame : (os : List Object) (p : ℕ) (m : Message) → IsTrue (is_process os p) → SameFrame os (deliver os p m)
unfolding deliver
deliver_frame os p m is =
    let old = root_at os p in
    let new : Root Capability = record { state = Running; words = m.words; key = m.key; annex = old.annex; space = old.space } in
    let us = with_root os p new in
    frame_trans os us (with_slots_from us old.annex 28 m.capabilities) (root_frame os p new is refl)
    (slots_frame us old.annex 28 m.capabilities)

-- ---- orders

-- the objects of an outcome have the owners, roles, annexes and limits of os (`SameFrame`)
abbrev LeavesFrame : List Object → OrderOutcome → Type 0
LeavesFrame os o = SameFrame os o.objects

page_frame : (os : List Object) (o : ℕ) (a : Access) (requested : PageOrder) (args : Arguments) →
    LeavesFrame os (on_page os o a requested args)
unfolding on_page
page_frame os o a page.Read args = one_of (LeavesFrame os) (nat_lt args.first 512) _ _ (frame_refl os) (frame_refl os)
page_frame os o a page.Write args =
    one_of (LeavesFrame os) (not (a.0 == 0)) _ _ (frame_refl os)
    (one_of (LeavesFrame os) (nat_lt args.first 512) _ _ (word_frame os o args.first args.second) (frame_refl os))
page_frame os o a page.Reduce args = one_of (LeavesFrame os) (reduces args.first) _ _ (frame_refl os) (frame_refl os)

stored_frame : (os : List Object) (o : ℕ) (a : Access) (slot : ℕ) (c : Capability) → LeavesFrame os (stored os o a slot c)
stored_frame os o a slot c =
    one_of (LeavesFrame os) (not (a.0 == 0)) _ _ (frame_refl os) (one_of (LeavesFrame os) (nat_lt slot 32) _ _ (slot_frame os o slot c)
    (frame_refl os))

node_frame : (os : List Object) (o : ℕ) (a : Access) (requested : NodeOrder) (args : Arguments) →
    LeavesFrame os (on_node os o a requested args)
unfolding on_node
node_frame os o a node.Fetch args = one_of (LeavesFrame os) (nat_lt args.first 32) _ _ (frame_refl os) (frame_refl os)
node_frame os o a node.Store args = stored_frame os o a args.first args.capability
node_frame os o a node.Reduce args = one_of (LeavesFrame os) (reduces args.first) _ _ (frame_refl os) (frame_refl os)
node_frame os o a node.MakeSpace args = one_of (LeavesFrame os) ((args.first == 0) || not (nat_lt args.first 5)) _ _ (frame_refl os)
    (frame_refl os)
node_frame os o a node.PutNumber args = stored_frame os o a args.first (Number args.second)

pub set_frame : (os : List Object) (p : ℕ) (s : State) → IsTrue (is_process os p) → SameFrame os (consume p (with_state os p s))
set_frame os p s is = frame_trans os (with_state os p s) (consume p (with_state os p s)) (state_frame os p s is)
    (frame_consume p (with_state os p s))

process_frame : (os : List Object) (p : ℕ) (requested : ProcessOrder) (args : Arguments) → IsTrue (is_process os p) →
    LeavesFrame os (on_process os p requested args)
unfolding on_process
process_frame os p process.GetRegister args is = one_of (LeavesFrame os) (nat_lt args.first 32) _ _ (frame_refl os) (frame_refl os)
process_frame os p process.PutRegister args is =
    one_of (LeavesFrame os) ((args.first == 0) || not (nat_lt args.first 32)) _ _ (frame_refl os)
    (slot_frame os (annex_at os p) args.first args.capability)
process_frame os p process.GetWord args is = one_of (LeavesFrame os) (nat_lt args.first 4) _ _ (frame_refl os) (frame_refl os)
process_frame os p process.PutWord args is = one_of (LeavesFrame os) (nat_lt args.first 4) _ _ (root_frame os p _ is refl) (frame_refl os)
process_frame os p process.MakeStart args is = one_of (LeavesFrame os) (nat_lt args.first 65536) _ _ (frame_refl os) (frame_refl os)
process_frame os p process.GetState args is = frame_refl os
process_frame os p process.SetState args is =
    one_of (LeavesFrame os) (args.first == 0) _ _ (set_frame os p Available is)
    (one_of (LeavesFrame os) (args.first == 1) _ _ (set_frame os p Running is) (frame_refl os))
process_frame os p process.GetSpace args is = frame_refl os
process_frame os p process.SetSpace args is = one_of (LeavesFrame os) (is_space args.capability) _ _ (root_frame os p _ is refl)
    (frame_refl os)

bank_refused : (g : Geometry) (os : List Object) (b w : ℕ) (args : Arguments) → bank_order w ≡ None →
    order g os (Bank b) w args ≡ refused os code.NoOrder
unfolding order
bank_refused g os b w args is = grind (arith, nat_tests)

-- an order that isn't a bank's keeps owners, roles, annexes and limits (`SameFrame`)
pub order_frame : (g : Geometry) (W : ℕ → Type 0) (os : List Object) (c : Capability) (w : ℕ) (args : Arguments) → IsHeld os W c →
    IsNoBankOrder c w → SameFrame os (order g os c w args).objects
unfolding order
order_frame g W os (Number n) w args held other = one_of (LeavesFrame os) (w == 1) _ _ (frame_refl os) (frame_refl os)
order_frame g W os (Page o a) w args held other =
    found_or (LeavesFrame os) (page_order w) _ (λ requested. on_page os o a requested args) (frame_refl os)
    (λ requested. page_frame os o a requested args)
order_frame g W os (Node o a) w args held other =
    found_or (LeavesFrame os) (node_order w) _ (λ requested. on_node os o a requested args) (frame_refl os)
    (λ requested. node_frame os o a requested args)
order_frame g W os (Space o k a) w args held other = grind (arith, nat_tests, one_of, frame_refl)
order_frame g W os (Process p) w args held other =
    found_or (LeavesFrame os) (process_order w) _ (λ requested. on_process os p requested args) (frame_refl os)
    (λ requested. process_frame os p requested args held.names)
order_frame g W os (Bank b) w args held other = subst (λ (o : OrderOutcome). SameFrame os o.objects)
    (sym (bank_refused g os b w args other)) (frame_refl os)
order_frame g W os Discrim w args held other = one_of (LeavesFrame os) (w == 1) _ _ (frame_refl os) (frame_refl os)
order_frame g W os c w args held other = frame_refl os

-- a reply, delivered or dropped, keeps owners, roles, annexes and limits (`SameFrame`)
pub replied_frame : (i : Invocation) (o : OrderOutcome) → SameFrame o.objects (replied o.objects i o)
replied_frame i o = replied_by (SameFrame o.objects) o.objects i o (frame_refl o.objects) (λ runs.
    deliver_frame o.objects i.process (reply_of o) (and_parts (is_process o.objects i.process) (is_running (state_at o.objects i.process))
    runs).0)

-- the change of the invoker's state keeps owners, roles, annexes and limits (`SameFrame`)

after_gate_frame : (os : List Object) (i : Invocation) → IsTrue (is_process os i.process) → SameFrame os (after_gate os i)
after_gate_frame os i is = after_gate_by (SameFrame os) os i (frame_refl os) (λ s. state_frame os i.process s is)

after_order_frame : (os : List Object) (i : Invocation) → IsTrue (is_process os i.process) → SameFrame os (after_order os i)
after_order_frame os i is = after_order_by (SameFrame os) os i (frame_refl os) (λ s. state_frame os i.process s is)

gate_frame : (os : List Object) (i : Invocation) (q key : ℕ) → IsTrue (is_process os i.process) → IsTrue (is_process os q)
    → SameFrame os (through_gate os i q key).objects
unfolding through_gate
gate_frame os i q key is iq =
    let us = after_gate os i in
    let m : Message = record { words = i.words; key = key; capabilities = sent_to_gate os i } in
    let frame = after_gate_frame os i is in
    frame_trans os us (deliver us q m) frame (deliver_frame us q m ((tests_at os us frame q).root ∙ iq))

kernel_frame : (g : Geometry) (W : ℕ → Type 0) (os : List Object) (i : Invocation) → IsTrue (is_process os i.process)
    → IsHeld os W (register_at os i.process i.register) → IsNoBankOrder (register_at os i.process i.register) (slice_index i.words 0) →
    SameFrame os (on_kernel_object g os i).objects
unfolding on_kernel_object
kernel_frame g W os i is held other =
    let us = after_order os i in
    let c = register_at os i.process i.register in
    let o = ordered g os i in
    let frame = after_order_frame os i is in
    let by_order = order_frame g W us c (slice_index i.words 0)
    (record { first = slice_index i.words 1; second = slice_index i.words 2; capability = slice_index_or (sent_by os i) 0 Void })
    (held_on os us W W c frame (λ p w. w) held) other in
    frame_trans os us (replied o.objects i o) frame (frame_trans us o.objects (replied o.objects i o) by_order (replied_frame i o))

-- an invocation that is no order of a bank keeps owners, roles, annexes and limits (`SameFrame`)
pub invocation_frame : (g : Geometry) (os : List Object) (i : Invocation) (e : Effect) → IsNow g os → Fits (command.Invoke i) →
    IsTrue (is_running_process os i.process)
    → IsNoBankOrder (register_at os i.process i.register) (slice_index i.words 0) → invoke g os i ≡ Some e → SameFrame os e.objects
invocation_frame g os i e h fits runs other =
    let is = (and_parts (is_process os i.process) (is_running (state_at os i.process)) runs).0 in
    let held = (h.filled (annex_at os i.process)).slots i.register in
    invoked_by (SameFrame os) os i (IsHeld os (Waits os)) g e held (λ q key by can. gate_frame os i q key is by.names) (λ q by.
    let us = (through_gate os i q 0).objects in
    frame_trans os us (consume q us) (gate_frame os i q 0 is by.names.0) (frame_consume q us))
    (kernel_frame g (Waits os) os i is held other)

-- sound objects stay sound if a running process becomes available
pub state_now : (g : Geometry) (os : List Object) (p : ℕ) → IsNow g os → IsTrue (is_process os p) → IsTrue (is_running (state_at os p))
    → IsNow g (with_state os p Available)
state_now g os p h is runs = (after_state g os p Available h (rw (is, runs) refl)).now

-- a sound world stays sound if a running process becomes available and the age stays the same
pub state_sound : (g : Geometry) (os : List Object) (p age : ℕ) → IsSound g (record { objects = os; age = age }) → IsTrue (is_process os p)
    → IsTrue (is_running (state_at os p)) → IsSound g (record { objects = with_state os p Available; age = age })
state_sound g os p age h is runs = search (arith, nat_tests, nearly_to, state_now, nearly_from)
