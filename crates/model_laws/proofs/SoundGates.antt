-- Invocations keep sound objects sound.
use Rattle.model_laws.proofs.Names.{nat_tests, ℕ, zero, suc, true, Some, List, [], map, length, get_or, refl, ap, subst, arith, IsTrue, slice_index}
use Rattle.model_laws.proofs.Names.{slice_index_or, slice_set, and_parts, get_or_past, Capability, Void, Resume, Invocation, Operation, Call, Return, Send}
use Rattle.model_laws.proofs.Names.{Geometry, Object, Root, State, Available, Running, Waiting, is_available, is_running, is_waiting, root_at, annex_at}
use Rattle.model_laws.proofs.Names.{register_at, is_process, is_running_process, with_slot, with_root, with_state, with_slots_from, consume, OrderOutcome}
use Rattle.model_laws.proofs.Names.{Message, Effect, deliver, sent_by, is_return, sent_to_gate, after_gate, after_order, through_gate, reply_of, replied}
use Rattle.model_laws.proofs.Names.{ordered, on_kernel_object, can_start, invoke, Fits, InvocationKeepsSound}
use Rattle.std.proofs.Common.{◌≡◌, ◌≢◌, ◌+◌, ◌^◌, ◌==◌, ◌<◌, ◌≤◌, ◌&&◌, ◌||◌, ◌∷◌, ◌∙◌}
use Rattle.std.specs.List.{All}
use Rattle.model.specs.declared.command.Command.TheVariants as command
use Rattle.model_laws.proofs.Cases.{after_gate_by, after_order_by, invoked_by, replied_by}
use Rattle.model_laws.proofs.Usage.{SameFrame, frame_refl, tests_at}
use Rattle.model_laws.proofs.SoundParts.{IsHeld, IsNearlySound, Waits, state_at, held_on, held_void, nearly_weaken, nearly_from, nearly_to}
use Rattle.model_laws.proofs.SoundEdits.{IsEdited, IsRootOf, But, at_set, edited_slot, edited_trans, nearly_root, nearly_consume, root_frame, root_same}
use Rattle.model_laws.proofs.SoundEdits.{root_other, state_consume, state_frame}
use Rattle.model_laws.proofs.SoundObjects.{order_keeps}
use Rattle.model_laws.proofs.SoundOrders.{IsNow, IsOutcome, root_now, nearly_state, state_other}

-- a running process isn't waiting

running_is_not_waiting : (s : State) → is_running s ≡ true → is_waiting s ≡ true → ⊥
running_is_not_waiting s p q = grind (arith, nat_tests)

-- a waiting process isn't the running one
other_than_running : (os : List Object) (p x : ℕ) → IsTrue (is_running (state_at os p)) → Waits os x → x ≢ p
other_than_running os p x runs waits e = running_is_not_waiting (state_at os p) runs (subst (λ k. Waits os k) e waits)

-- objects after a running process changed its state
pub record IsAfter (g : Geometry) (os us : List Object) : Type 0 where
  pub frame : SameFrame os us
  pub now : IsNow g us
  pub waits : (x : ℕ) → Waits os x → Waits us x

state_same : (os : List Object) (p : ℕ) (s : State) → IsTrue (is_process os p) → state_at (with_state os p s) p ≡ s
unfolding with_state
state_same os p s is = ap (λ (r : Root Capability). r.state) (root_same os p _ is)

pub after_state : (g : Geometry) (os : List Object) (p : ℕ) (s : State) → IsNow g os → IsTrue (is_running_process os p) →
    IsAfter g os (with_state os p s)
after_state g os p s h runs =
    let parts = and_parts (is_process os p) (is_running (state_at os p)) runs in
    let kept = λ (x : ℕ) (w : Waits os x). ap is_waiting (state_other os p x s (other_than_running os p x parts.1 w)) ∙ w in
    record {
      frame = state_frame os p s parts.0;
      now = nearly_weaken g (Waits os) (Waits (with_state os p s)) (with_state os p s) kept (nearly_state g (Waits os) os p s h parts.0);
      waits = kept;
    }

after_none : (g : Geometry) (os : List Object) → IsNow g os → IsAfter g os os
after_none g os h = record { frame = frame_refl os; now = h; waits = λ x w. w }

after_gate_keeps : (g : Geometry) (os : List Object) (i : Invocation) → IsNow g os → IsTrue (is_running_process os i.process) →
    IsAfter g os (after_gate os i)
after_gate_keeps g os i h runs = after_gate_by (IsAfter g os) os i (after_none g os h) (λ s. after_state g os i.process s h runs)

after_order_keeps : (g : Geometry) (os : List Object) (i : Invocation) → IsNow g os → IsTrue (is_running_process os i.process) →
    IsAfter g os (after_order os i)
after_order_keeps g os i h runs = after_order_by (IsAfter g os) os i (after_none g os h) (λ s. after_state g os i.process s h runs)

held_after : (g : Geometry) (os us : List Object) (c : Capability) → IsAfter g os us → IsHeld os (Waits os) c → IsHeld us (Waits us) c
held_after g os us c a h = held_on os us (Waits os) (Waits us) c a.frame a.waits h

-- unchanged objects count as edited

edited_none : (g : Geometry) (W : ℕ → Type 0) (os : List Object) → IsNearlySound g W os → IsEdited g W os os
edited_none g W os h = record { frame = frame_refl os; sound = h; states = λ q. refl }

slots_from : (g : Geometry) (W : ℕ → Type 0) (os : List Object) (n i : ℕ) (cs : List Capability) → IsNearlySound g W os → 1 ≤ i
    → ((j : ℕ) → IsHeld os W (get_or cs j Void)) → IsEdited g W os (with_slots_from os n i cs)
slots_from g W os n i [] h positive held = edited_none g W os h
slots_from g W os n i (c ∷ cs) h positive held =
    let e = edited_slot g W os n i c h (held 0) (λ _. λ z. omega arith) in
    edited_trans g W os (with_slot os n i c) (with_slots_from (with_slot os n i c) n (i + 1) cs) e
    (slots_from g W (with_slot os n i c) n (i + 1) cs e.sound (omega arith)
    (λ j. held_on os (with_slot os n i c) W W (get_or cs j Void) e.frame (λ p w. w) (held (suc j))))

-- a message that may be delivered
pub record IsMessage (os : List Object) (W : ℕ → Type 0) (m : Message) : Type 0 where
  pub count : length m.words ≡ 4
  pub words : (i : ℕ) → slice_index m.words i < 2 ^ 64
  pub key : m.key < 2 ^ 16
  pub held : (j : ℕ) → IsHeld os W (get_or m.capabilities j Void)

-- objects after a process was started
pub record IsStarted (g : Geometry) (W : ℕ → Type 0) (os : List Object) (p : ℕ) (us : List Object) : Type 0 where
  pub sound : IsNearlySound g W us
  pub others : (q : ℕ) → q ≢ p → state_at us q ≡ state_at os q

deliver_keeps : (g : Geometry) (W : ℕ → Type 0) (os : List Object) (p : ℕ) (m : Message) → IsNearlySound g W os → IsTrue (is_process os p)
    → IsMessage os W m → IsStarted g W os p (deliver os p m)
unfolding deliver
deliver_keeps g W os p m h is fits =
    let old = root_at os p in
    let r = root_now g W os p h is in
    let new : Root Capability = record { state = Running; words = m.words; key = m.key; annex = old.annex; space = old.space } in
    let root : IsRootOf os W p new = grind (arith, nat_tests) in
    let us = with_root os p new in
    let frame = root_frame os p new is refl in
    let e = slots_from g W us old.annex 28 m.capabilities (nearly_root g W os p new h root) (omega arith)
    (λ j. held_on os us W W (get_or m.capabilities j Void) frame (λ p w. w) (fits.held j)) in
    record {
      sound = e.sound;
      others = λ q differ. e.states q ∙ ap (λ (r : Root Capability). r.state) (root_other os p q new differ);
    }

-- objects are sound after a process was started, if it wasn't waiting
started_now : (g : Geometry) (os : List Object) (p : ℕ) (us : List Object) → IsStarted g (Waits os) os p us → (Waits os p → ⊥) → IsNow g us
started_now g os p us s idle =
    nearly_weaken g (Waits os) (Waits us) us (λ x w. ap is_waiting (s.others x (λ e. idle (subst (λ k. Waits os k) e w))) ∙ w) s.sound

-- objects are sound after a waiting process was started, if its resume capabilities were then consumed
resumed_now : (g : Geometry) (os : List Object) (p : ℕ) (us : List Object) → IsStarted g (Waits os) os p us → IsNow g (consume p us)
resumed_now g os p us s =
    nearly_weaken g (But (Waits os) p) (Waits (consume p us)) (consume p us)
    (λ x w. ap is_waiting (state_consume p us x ∙ s.others x w.1) ∙ w.0) (nearly_consume g (Waits os) p us s.sound)

-- ---- the words and capabilities that an invocation sends

-- if all words fit, each of them is below 2^64
pub all_words : (xs : List ℕ) → All (λ w. w < 2 ^ 64) xs → (i : ℕ) → slice_index xs i < 2 ^ 64
all_words xs all i = grind (arith, nat_tests, get_or_past)

held_map : (os : List Object) (W : ℕ → Type 0) (f : ℕ → Capability) (rs : List ℕ) (j : ℕ) → ((r : ℕ) → IsHeld os W (f r)) →
    IsHeld os W (get_or (map f rs) j Void)
held_map os W f [] j h = held_void os W
held_map os W f (r ∷ rs) zero h = h r
held_map os W f (r ∷ rs) (suc j) h = held_map os W f rs j h

-- each capability that is sent may be held
pub held_sent : (g : Geometry) (os : List Object) (i : Invocation) (j : ℕ) → IsNow g os →
    IsHeld os (Waits os) (get_or (sent_by os i) j Void)
held_sent g os i j h = held_map os (Waits os) (register_at os i.process) i.sent j (λ r. (h.filled (annex_at os i.process)).slots r)

-- the invoker after the operation through a gate, and what the gate receives
abbrev gate_state : List Object → ℕ → Operation → List Object
gate_state os p Call = with_state os p Waiting
gate_state os p Return = with_state os p Available
gate_state os p Send = os

abbrev gate_sent : List Capability → ℕ → Operation → List Capability
gate_sent cs p Call = slice_set cs 3 (Resume p)
gate_sent cs p Return = cs
gate_sent cs p Send = cs

held_by : (g : Geometry) (os : List Object) (p j : ℕ) (cs : List Capability) (o : Operation) → IsTrue (is_process os p)
    → IsAfter g os (gate_state os p o) → IsHeld os (Waits os) (get_or cs j Void)
    → IsHeld (gate_state os p o) (Waits (gate_state os p o)) (get_or (gate_sent cs p o) j Void)
held_by g os p j cs Call is a h =
    let us = with_state os p Waiting in
    at_set (λ m c. IsHeld us (Waits us) c) cs 3 j (Resume p) Void
    (record { well_formed = tt; names = ((tests_at os us a.frame p).root ∙ is, ap is_waiting (state_same os p Waiting is)) })
    (held_after g os us (get_or cs j Void) a h)
held_by g os p j cs Return is a h = held_after g os (with_state os p Available) (get_or cs j Void) a h
held_by g os p j cs Send is a h = h

-- the words and capabilities that are sent through a gate form a message
gate_message : (g : Geometry) (os : List Object) (i : Invocation) (key : ℕ) → IsNow g os → Fits (command.Invoke i) →
    IsTrue (is_running_process os i.process) → key < 2 ^ 16 → IsMessage (after_gate os i) (Waits (after_gate os i))
    (record { words = i.words; key = key; capabilities = sent_to_gate os i })
gate_message g os i key h fits runs small = record {
  count = fits.2;
  words = all_words i.words fits.3;
  key = small;
  held = λ j. held_by g os i.process j (sent_by os i) i.operation (and_parts (is_process os i.process) (is_running (state_at os i.process))
      runs).0
      (after_gate_keeps g os i h runs) (held_sent g os i j h);
}

gate_keeps : (g : Geometry) (os : List Object) (i : Invocation) (q key : ℕ) → IsNow g os → Fits (command.Invoke i) →
    IsTrue (is_running_process os i.process) → IsTrue (is_process os q) → key < 2 ^ 16 →
    IsStarted g (Waits (after_gate os i)) (after_gate os i) q (through_gate os i q key).objects
unfolding through_gate
gate_keeps g os i q key h fits runs is small =
    let a = after_gate_keeps g os i h runs in
    deliver_keeps g (Waits (after_gate os i)) (after_gate os i) q (record { words = i.words; key = key; capabilities = sent_to_gate os i })
    a.now
    ((tests_at os (after_gate os i) a.frame q).root ∙ is) (gate_message g os i key h fits runs small)

-- a process that may be started doesn't wait
startable_idle : (os : List Object) (p q : ℕ) (o : Operation) → IsTrue (is_running_process os p)
    → (is_available (state_at os q) || (is_return o && (p == q))) ≡ true → Waits (gate_state os p o) q → ⊥
startable_idle os p q o runs can waits = grind (arith, nat_tests, state_other, state_same)

start_keeps : (g : Geometry) (os : List Object) (i : Invocation) (q key : ℕ) → IsNow g os → Fits (command.Invoke i) →
    IsTrue (is_running_process os i.process) → IsTrue (is_process os q) → key < 2 ^ 16 → can_start os i q ≡ true →
    IsNow g (through_gate os i q key).objects
start_keeps g os i q key h fits runs is small can =
    started_now g (after_gate os i) q (through_gate os i q key).objects (gate_keeps g os i q key h fits runs is small)
    (startable_idle os i.process q i.operation runs can)

resume_keeps : (g : Geometry) (os : List Object) (i : Invocation) (q : ℕ) → IsNow g os → Fits (command.Invoke i) →
    IsTrue (is_running_process os i.process) → IsTrue (is_process os q) → IsNow g (consume q (through_gate os i q 0).objects)
resume_keeps g os i q h fits runs is =
    resumed_now g (after_gate os i) q (through_gate os i q 0).objects (gate_keeps g os i q 0 h fits runs is (omega arith))

-- the reply of a valid outcome may be delivered

reply_message : (g : Geometry) (o : OrderOutcome) → IsOutcome g o → IsMessage o.objects (Waits o.objects) (reply_of o)
reply_message g o h = grind (arith, nat_tests)

replied_keeps : (g : Geometry) (i : Invocation) (o : OrderOutcome) → IsOutcome g o → IsNow g (replied o.objects i o)
replied_keeps g i o h = replied_by (IsNow g) o.objects i o h.now (λ runs.
    let parts = and_parts (is_process o.objects i.process) (is_running (state_at o.objects i.process)) runs in
    started_now g o.objects i.process (deliver o.objects i.process (reply_of o))
    (deliver_keeps g (Waits o.objects) o.objects i.process (reply_of o) h.now parts.0 (reply_message g o h))
    (running_is_not_waiting (state_at o.objects i.process) parts.1))

pub ordered_keeps : (g : Geometry) (os : List Object) (i : Invocation) → IsNow g os → Fits (command.Invoke i) →
    IsTrue (is_running_process os i.process) → IsOutcome g (ordered g os i)
ordered_keeps g os i h fits runs =
    let a = after_order_keeps g os i h runs in
    order_keeps g (after_order os i) (register_at os i.process i.register) (slice_index i.words 0)
    (record { first = slice_index i.words 1; second = slice_index i.words 2; capability = slice_index_or (sent_by os i) 0 Void }) a.now
    (held_after g os (after_order os i) (register_at os i.process i.register) a ((h.filled (annex_at os i.process)).slots i.register))
    (record {
      first = all_words i.words fits.3 1;
      second = all_words i.words fits.3 2;
      held = held_after g os (after_order os i) (get_or (sent_by os i) 0 Void) a (held_sent g os i 0 h);
    })

kernel_keeps : (g : Geometry) (os : List Object) (i : Invocation) → IsNow g os → Fits (command.Invoke i) →
    IsTrue (is_running_process os i.process) → IsNow g (on_kernel_object g os i).objects
unfolding on_kernel_object
kernel_keeps g os i h fits runs = replied_keeps g i (ordered g os i) (ordered_keeps g os i h fits runs)

-- an invocation keeps sound objects sound

invoked_now : (g : Geometry) (os : List Object) (i : Invocation) (e : Effect) → IsNow g os → Fits (command.Invoke i) →
    IsTrue (is_running_process os i.process) → invoke g os i ≡ Some e → IsNow g e.objects
invoked_now g os i e h fits runs =
    invoked_by (IsNow g) os i (IsHeld os (Waits os)) g e ((h.filled (annex_at os i.process)).slots i.register)
    (λ q key held can. start_keeps g os i q key h fits runs held.names held.well_formed can)
    (λ q held. resume_keeps g os i q h fits runs held.names.0)
    (kernel_keeps g os i h fits runs)

pub invocation_keeps : InvocationKeepsSound
invocation_keeps g w i e sound fits runs young done =
    nearly_to g e.objects (w.age + 1) (invoked_now g w.objects i e (nearly_from g w sound) fits runs done) (omega arith)
