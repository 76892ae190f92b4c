-- If an invocation by a member doesn't look outside the set, it has the same effect in two lists of objects that agree on the set (`Link`).
use Rattle.noninterference.proofs.Names.{inl, ℕ, zero, suc, Bool, false, List, Option, None, Some, [], refl, sym, ap, subst}
use Rattle.noninterference.proofs.Names.{IsTrue, map, and_parts, Capability, Void, Start, Resume, Geometry, Object, Root, State, Available, Running, Waiting}
use Rattle.noninterference.proofs.Names.{Invocation, Message, Operation, Call, Return, Send, Effect, after_gate, after_order, deliver, invoke, can_start}
use Rattle.noninterference.proofs.Names.{is_return, is_available, on_kernel_object, ordered, replied, reply_of, sent_by, sent_to_gate, through_gate, is_running}
use Rattle.noninterference.proofs.Names.{OrderOutcome, consume, annex_at, is_process, is_running_process, register_at, root_at, root_in, is_root, with_root}
use Rattle.noninterference.proofs.Names.{with_slots_from, with_state, slice_index, slice_index_or, slice_set, NamesBut}
use Rattle.noninterference.proofs.Names.{looks_outside, order, IsHeld, Waits, IsNow, IsAfter, after_state, after_order_by, held_on, state_at, frame_refl}
use Rattle.noninterference.proofs.Names.{at_set, after_gate_by, tests_at, Arguments}
use Rattle.noninterference.proofs.Names.{code_number, not-false}
use Rattle.std.proofs.Common.{◌≡◌, ◌==◌, ◌||◌, ◌&&◌, ◌∷◌, ◌∙◌, ◌++◌, if◌then◌else◌}
use Rattle.noninterference.proofs.ReadEdits.{Link, link_consume, link_of_root, link_slots, link_state}
use Rattle.noninterference.proofs.ReadBanks.{OutcomesLink, both_chosen}
use Rattle.noninterference.proofs.ReadOrders.{member, order_link, register_same, register_stays}

-- two effects write the same numbers and leave linked objects, or neither exists
abbrev pub EffectsLink : (ℕ → Bool) → (ℕ → Bool) → Option Effect → Option Effect → Type 0
EffectsLink trusted inside None None = Unit {0}
EffectsLink trusted inside (Some e) (Some f) = (f.written ≡ e.written) × Link trusted inside e.objects f.objects
EffectsLink trusted inside _ _ = ⊥

-- whether an object is the root of a running process
abbrev is_running_object : Object → Bool
is_running_object o = is_root o.content && is_running (root_in o.content).state

module _ (trusted inside : ℕ → Bool) where
  abbrev AllStay : List Capability → Type 0
  AllStay cs = (j : ℕ) → NamesBut trusted inside (slice_index_or cs j Void)

  -- if a message is delivered in two linked lists, they stay linked
  deliver_link : (os us : List Object) → Link trusted inside os us → (p : ℕ) (m : Message) → IsTrue (inside p) → IsTrue (is_process os p)
      → AllStay m.capabilities → Link trusted inside (deliver os p m) (deliver us p m)
  unfolding deliver
  deliver_link os us h p m in_p is sent =
      let f : Root Capability → Root Capability = λ r. record r { state = Running; words = m.words; key = m.key } in
      let annex = h.left.annexes p in_p is in
      let first = link_of_root trusted inside os us p h in_p f annex (h.left.spaces p in_p) in
      subst (λ a. Link trusted inside (with_slots_from (with_root os p (f (root_at os p))) (annex_at os p) 28 m.capabilities)
      (with_slots_from (with_root us p (f (root_at us p))) a 28 m.capabilities))
      (sym (ap (λ (o : Object). (root_in o.content).annex) (h.same p in_p)))
      (link_slots trusted inside (with_root os p (f (root_at os p))) (with_root us p (f (root_at us p))) (annex_at os p) 28 m.capabilities
      first annex sent)

  -- linked outcomes have the same reply
  replies_same : (o p : OrderOutcome) → OutcomesLink trusted inside o p → reply_of p ≡ reply_of o
  replies_same o p h =
      ap (λ c. message (code_number c ∷ p.words) p.capability) h.code
      ∙ ap (λ ws. message (code_number o.code ∷ ws) p.capability) h.words
      ∙ ap (λ c. message (code_number o.code ∷ o.words) c) h.capability
    where
      message : List ℕ → Capability → Message
      message words c = record { words = words; key = 0; capabilities = c ∷ Void ∷ Void ∷ Void ∷ [] }

  reply_stays : (o : OrderOutcome) → NamesBut trusted inside o.capability → AllStay (reply_of o).capabilities
  reply_stays o h zero = h
  reply_stays o h (suc zero) = inl tt
  reply_stays o h (suc (suc zero)) = inl tt
  reply_stays o h (suc (suc (suc zero))) = inl tt
  reply_stays o h (suc (suc (suc (suc j)))) = inl tt

  replied_link : (i : Invocation) (o p : OrderOutcome) → IsTrue (inside i.process) → OutcomesLink trusted inside o p
      → Link trusted inside (replied o.objects i o) (replied p.objects i p)
  replied_link i o p in_p h = go i.operation
    where
      called : Link trusted inside (if is_running_process o.objects i.process then deliver o.objects i.process (reply_of o) else o.objects)
          (if is_running_process p.objects i.process then deliver p.objects i.process (reply_of p) else p.objects)
      called =
          both_chosen (Link trusted inside) (is_running_process o.objects i.process) (is_running_process p.objects i.process) _ _ _ _
          (ap (λ (x : Object). is_running_object x) (h.objects.same i.process in_p))
          (λ runs. subst (λ m. Link trusted inside (deliver o.objects i.process (reply_of o)) (deliver p.objects i.process m))
          (sym (replies_same o p h))
          (deliver_link o.objects p.objects h.objects i.process (reply_of o) in_p
          (and_parts (is_process o.objects i.process) (is_running (state_at o.objects i.process)) runs).0 (reply_stays o h.stays)))
          (λ stopped. h.objects)

      go : (operation : Operation) → Link trusted inside
          (elim operation [
            | Call ↦ if is_running_process o.objects i.process then deliver o.objects i.process (reply_of o) else o.objects
            | _ ↦ o.objects
          ])
          (elim operation [
            | Call ↦ if is_running_process p.objects i.process then deliver p.objects i.process (reply_of p) else p.objects
            | _ ↦ p.objects
          ])
      go Call = called
      go Return = h.objects
      go Send = h.objects

-- the parameters: linked lists, and an invocation by a running member
module _ (g : Geometry) (trusted inside : ℕ → Bool) (os us : List Object) (h : Link trusted inside os us) (now : IsNow g os)
    (beside : IsNow g us)
    (i : Invocation) (in_p : IsTrue (inside i.process)) (runs : IsTrue (is_running_process os i.process)) where
  root : IsTrue (is_process os i.process)
  root = (and_parts (is_process os i.process) (is_running (state_at os i.process)) runs).0

  runs_there : IsTrue (is_running_process us i.process)
  runs_there = ap (λ (x : Object). is_running_object x) (h.same i.process in_p) ∙ runs

  registers : (r : ℕ) → register_at us i.process r ≡ register_at os i.process r
  registers r = register_same trusted inside os us h i.process in_p root r

  stays : (r : ℕ) → NamesBut trusted inside (register_at os i.process r)
  stays r = register_stays trusted inside os us h i.process in_p root r

  -- ---- the words and capabilities that a message carries

  sent_same : sent_by us i ≡ sent_by os i
  sent_same = λ k. map (λ r. registers r k) i.sent

  map_stays : (rs : List ℕ) → AllStay trusted inside (map (register_at os i.process) rs)
  map_stays [] j = inl tt
  map_stays (r ∷ rs) zero = stays r
  map_stays (r ∷ rs) (suc j) = map_stays rs j

  gate_same : sent_to_gate us i ≡ sent_to_gate os i
  gate_same = ap (λ cs. elim i.operation [ Call ↦ slice_set cs 3 (Resume i.process) | _ ↦ cs ]) sent_same

  gate_stays : AllStay trusted inside (sent_to_gate os i)
  gate_stays j = go i.operation
    where
      go : (o : Operation) → NamesBut trusted inside
          (slice_index_or (elim o [ Call ↦ slice_set (sent_by os i) 3 (Resume i.process) | _ ↦ sent_by os i ]) j Void)
      go Call = at_set (λ m c. NamesBut trusted inside c) (sent_by os i) 3 j (Resume i.process) Void (inl in_p) (map_stays i.sent j)
      go Return = map_stays i.sent j
      go Send = map_stays i.sent j

  -- ---- the invoker's state

  state_linked : (s : State) → Link trusted inside (with_state os i.process s) (with_state us i.process s)
  state_linked s = link_state trusted inside os us i.process h in_p s root

  gate_linked : Link trusted inside (after_gate os i) (after_gate us i)
  gate_linked = go i.operation
    where
      go : (o : Operation) → Link trusted inside
          (elim o [ Call ↦ with_state os i.process Waiting | Return ↦ with_state os i.process Available | Send ↦ os ])
          (elim o [ Call ↦ with_state us i.process Waiting | Return ↦ with_state us i.process Available | Send ↦ us ])
      go Call = state_linked Waiting
      go Return = state_linked Available
      go Send = h

  order_linked : Link trusted inside (after_order os i) (after_order us i)
  order_linked = go i.operation
    where
      go : (o : Operation) → Link trusted inside (elim o [ Return ↦ with_state os i.process Available | _ ↦ os ])
          (elim o [ Return ↦ with_state us i.process Available | _ ↦ us ])
      go Call = h
      go Return = state_linked Available
      go Send = h

  -- ---- start and resume capabilities

  still_process : (q : ℕ) → IsTrue (is_process os q) → IsTrue (is_process (after_gate os i) q)
  still_process q is = after_gate_by (λ ws. IsTrue (is_process ws q)) os i is
      (λ s. (tests_at os (with_state os i.process s) (after_state g os i.process s now runs).frame q).root ∙ is)

  through_link : (q key : ℕ) → IsTrue (inside q) → IsTrue (is_process os q)
      → EffectsLink trusted inside (Some (through_gate os i q key)) (Some (through_gate us i q key))
  unfolding through_gate
  through_link q key in_q is = (
    ap (λ (x : Object). q ∷ (root_in x.content).annex ∷ (elim i.operation [ Send ↦ [] | _ ↦ i.process ∷ [] ])) (h.same q in_q),
    subst (λ cs. Link trusted inside (deliver (after_gate os i) q (message (sent_to_gate os i))) (deliver (after_gate us i) q (message cs)))
        (sym gate_same)
        (deliver_link trusted inside (after_gate os i) (after_gate us i) gate_linked q (message (sent_to_gate os i)) in_q
        (still_process q is) gate_stays),
  )
    where
      message : List Capability → Message
      message cs = record { words = i.words; key = key; capabilities = cs }

  -- ---- kernel objects

  after_now : (ws : List Object) → IsNow g ws → IsTrue (is_running_process ws i.process) → IsAfter g ws (after_order ws i)
  after_now ws there acts = after_order_by (IsAfter g ws) ws i (record { frame = frame_refl ws; now = there; waits = λ x w. w })
      (λ s. after_state g ws i.process s there acts)

  ordered_link : looks_outside inside (register_at os i.process i.register) (slice_index i.words 0) ≡ false
      → OutcomesLink trusted inside (ordered g os i) (ordered g us i)
  ordered_link looks =
      let c = register_at os i.process i.register in
      let after = after_now os now runs in
      subst (λ o. OutcomesLink trusted inside (ordered g os i) o) (sym
      (ap (λ d. order g (after_order us i) d (slice_index i.words 0) (arguments (sent_by us i))) (registers i.register)
      ∙ ap (λ cs. order g (after_order us i) c (slice_index i.words 0) (arguments cs)) sent_same))
      (order_link trusted inside (after_order os i) (after_order us i) order_linked g c (slice_index i.words 0) (arguments (sent_by os i))
      after.now (after_now us beside runs_there).now
      (held_on os (after_order os i) (Waits os) (Waits (after_order os i)) c after.frame after.waits
      ((now.filled (annex_at os i.process)).slots i.register))
      (stays i.register) (map_stays i.sent 0) looks)
    where
      arguments : List Capability → Arguments
      arguments cs = record { first = slice_index i.words 1; second = slice_index i.words 2; capability = slice_index_or cs 0 Void }

  kernel_link : looks_outside inside (register_at os i.process i.register) (slice_index i.words 0) ≡ false
      → EffectsLink trusted inside (Some (on_kernel_object g os i)) (Some (on_kernel_object g us i))
  unfolding on_kernel_object
  kernel_link looks =
      let o = ordered_link looks in (
        ap (λ ns. invoker_written us ++ ns) o.written ∙ ap (λ ws. ws ++ (ordered g os i).written) invoker_same,
        replied_link trusted inside i (ordered g os i) (ordered g us i) in_p o,
      )
    where
      invoker_written : List Object → List ℕ
      invoker_written ws = elim i.operation [ Call ↦ i.process ∷ annex_at ws i.process ∷ [] | Return ↦ i.process ∷ [] | Send ↦ [] ]

      invoker_same : invoker_written us ≡ invoker_written os
      invoker_same = ap (λ (x : Object). elim i.operation [
        | Call ↦ i.process ∷ (root_in x.content).annex ∷ []
        | Return ↦ i.process ∷ []
        | Send ↦ []
      ]) (h.same i.process in_p)

  -- ---- the law about an invocation

  -- the effect of invoking this capability
  abbrev invoked_by : List Object → Capability → Option Effect
  invoked_by ws c = elim c [
    | Start q key ↦ if can_start ws i q then Some (through_gate ws i q key) else None
    | Resume q ↦ let effect = through_gate ws i q 0 in Some
        (record { objects = consume q effect.objects; written = effect.written })
    | _ ↦ Some (on_kernel_object g ws i)
  ]

  started_inside : (q key : ℕ) → NamesBut trusted inside (Start q key) → looks_outside inside (Start q key) (slice_index i.words 0) ≡ false
      → IsTrue (inside q)
  started_inside q key names looks = not-false (inside q) looks

  by_link : (c : Capability) → register_at os i.process i.register ≡ c → NamesBut trusted inside c → IsHeld os (Waits os) c
      → looks_outside inside c (slice_index i.words 0) ≡ false → EffectsLink trusted inside (invoked_by os c) (invoked_by us c)
  by_link (Start q key) at names held looks =
      let in_q = started_inside q key names looks in
      both_chosen (EffectsLink trusted inside) (can_start os i q) (can_start us i q) _ _ _ _
      (ap (λ (x : Object). is_available (root_in x.content).state || (is_return i.operation && (i.process == q))) (h.same q in_q))
      (λ can. through_link q key in_q held.names) (λ can. tt)
  by_link (Resume q) at names held looks =
      let in_q = member trusted inside os us h q names in
      let through = through_link q 0 in_q held.names.0 in
      (through.0, link_consume trusted inside (through_gate os i q 0).objects (through_gate us i q 0).objects q through.1)
  by_link c at names held looks = kernel_link (ap (λ d. looks_outside inside d (slice_index i.words 0)) at ∙ looks)

  pub invoked_link : looks_outside inside (register_at os i.process i.register) (slice_index i.words 0) ≡ false
      → EffectsLink trusted inside (invoke g os i) (invoke g us i)
  unfolding invoke
  invoked_link looks =
      subst (λ c. EffectsLink trusted inside (invoked_by os (register_at os i.process i.register)) (invoked_by us c))
      (sym (registers i.register))
      (by_link (register_at os i.process i.register) refl (stays i.register) ((now.filled (annex_at os i.process)).slots i.register) looks)
