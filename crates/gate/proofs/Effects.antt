-- The effect of an invocation, from the results of its parts, and the numbers that it writes.
use Rattle.gate.proofs.Names.{nat_tests, ℕ, zero, suc, Bool, List, Option, None, Some, drop, length, refl, sym, ap, subst, arith, IsTrue, slice_index, All}
use Rattle.gate.proofs.Names.{Capability, Start, Resume, Invocation, Operation, Call, Return, Send, Frame, Geometry, Object, Available, Arguments, ResultCode}
use Rattle.gate.proofs.Names.{objects_of, Effect, can_start, invoke, on_kernel_object, ordered, through_gate, AreCurrent, AreKeepable, IsSoundFrames, world_at}
use Rattle.gate.proofs.Names.{touching, touched_count, order, OrderOutcome, consume, IsSound, object_count, Fits, World, annex_at, is_process}
use Rattle.gate.proofs.Names.{is_running_process, register_at, state_frame, invocation_keeps, ordered_keeps, order_keeps, IsNow, held_to, SameFrame, frame_refl}
use Rattle.gate.proofs.Names.{Caller, OrderPlan, Reply, changed, writer_count, writers, Invokes, IsRequested, IsKernelObject, Overfills, result_code, IsPlanned}
use Rattle.gate.proofs.Names.{answered, arguments_of, finished, ordered_by, state_before, FitsCap, fetched_of, true, false, slice_set, All-map, All-set}
use Rattle.gate.proofs.Names.{sent_by, NamesItsKind, AreSound, Parts, objects_in, Gate, entered, gate_capability, received, written_through, [], Result, Ok}
use Rattle.gate.proofs.Names.{Err, OnOk, Contains, IfOk, IsErrOf, OnErr, AreSameUnlessFailed, IsUnprepared, Prepares, Renews, frames_of, Invoked, FetchesOrFails}
use Rattle.gate.proofs.Names.{Failed, IsErr, IsOfGate, Refusal, touched_too, KeepsSoundFrames}
use Rattle.std.proofs.Common.{◌≡◌, ◌↔◌, ◌+◌, ◌++◌, ◌^◌, ◌<◌, ◌≤◌, ◌∙◌, if◌then◌else◌, ◌||◌, ◌∷◌, ◌⊎◌}
use Rattle.model.specs.declared.command.Command.TheVariants as command
use Rattle.model.specs.declared.answer.Refusal.TheVariants as refusal
use Rattle.gate.proofs.Standing.{announced_same, held_fits, resume_fits, register_kind, in_geometry}
use Rattle.gate.proofs.Plans.{arguments_held, change_fetched, invoked_held}

-- the effect of an invocation of this capability
abbrev pub invoked_by : Geometry → List Object → Invocation → Capability → Option Effect
invoked_by g os i c = elim c [
  | Start q key ↦ if can_start os i q then Some (through_gate os i q key) else None
  | Resume q ↦ let effect = through_gate os i q 0 in Some (record { objects = consume q effect.objects; written = effect.written })
  | _ ↦ Some (on_kernel_object g os i)
]

pub invoke_is : (g : Geometry) (os : List Object) (i : Invocation) → invoke g os i ≡ invoked_by g os i (register_at os i.process i.register)
unfolding invoke
invoke_is g os i = refl

object_by : (g : Geometry) (os : List Object) (i : Invocation) (c : Capability) → IsKernelObject c →
    invoked_by g os i c ≡ Some (on_kernel_object g os i)
object_by g os i c object = grind (arith, nat_tests)

-- the result code of an invocation of this capability
abbrev pub code_by : Geometry → List Object → Invocation → Capability → Option ResultCode
code_by g os i c = elim c [ Start q key ↦ None | Resume q ↦ None | _ ↦ Some (ordered g os i).code ]

object_code : (g : Geometry) (os : List Object) (i : Invocation) (c : Capability) → IsKernelObject c →
    code_by g os i c ≡ Some (ordered g os i).code
object_code g os i c object = grind (arith, nat_tests)

pub object_invoked : (g : Geometry) (os : List Object) (i : Invocation) (caller : Caller) → IsRequested os i caller →
    IsKernelObject caller.invoked → invoke g os i ≡ Some (on_kernel_object g os i)
object_invoked g os i caller is object = invoke_is g os i ∙ ap (invoked_by g os i) (sym is.invoked) ∙ object_by g os i caller.invoked object

-- if the objects are those of an invocation's effect, the frames are sound at the next age
pub sound_after : (g : Geometry) (age : ℕ) (fs gs : List Frame) (i : Invocation) (e : Effect) → age < 2 ^ 62 → Fits (command.Invoke i) →
    IsTrue (is_running_process (objects_of fs) i.process) →
    invoke g (objects_of fs) i ≡ Some e → objects_of gs ≡ e.objects → IsSoundFrames g age fs → AreKeepable g (age + 1) gs → AreCurrent gs →
    IsSoundFrames g (age + 1) gs
sound_after g age fs gs i e young fits runs is objects sound keepable current = record {
  keepable = keepable;
  current = current;
  sound = subst (λ (os : List Object). let w : World = record { objects = os; age = age + 1 } in IsSound g w) (sym objects)
      (invocation_keeps g (world_at age fs) i e sound.sound fits runs young is);
}

-- the reply of an order's outcome
abbrev reply_in : OrderOutcome → Reply
reply_in o = record { code = o.code; words = o.words; capability = o.capability }

abbrev effect_by : Operation → ℕ → ℕ → OrderOutcome → Effect
effect_by operation p annex o = record {
  objects = answered operation p o.objects (reply_in o);
  written = writers operation p annex ++ o.written;
}

-- if a process that returns becomes available before its order, owners, roles, annexes and limits stay (`SameFrame`)
pub frame_before : (op : Operation) (os : List Object) (p : ℕ) → IsTrue (is_process os p) → SameFrame os (state_before op os p)
frame_before Return os p is = state_frame os p Available is
frame_before c os p is = frame_refl os

module _ {g : Geometry} {os : List Object} {i : Invocation} {caller : Caller} {plan : OrderPlan} {list : List ℕ}
    (is : IsRequested os i caller)
    (planned : IsPlanned g os i caller plan list) (process : IsTrue (is_process os caller.process)) where
  abbrev word : ℕ
  word = slice_index i.words 0

  abbrev args : Arguments
  args = arguments_of os i

  abbrev rest : List ℕ
  rest = drop (writer_count caller.operation) list

  -- the effect of an order, computed from what was read of the caller
  effect_requested : on_kernel_object g os i ≡ effect_by caller.operation caller.process caller.annex
      (order g (state_before caller.operation os caller.process) caller.invoked word args)
  unfolding on_kernel_object
  effect_requested = grind (arith, nat_tests)

  effect_planned : (op : Operation) → effect_by op caller.process caller.annex
      (order g (state_before op os caller.process) caller.invoked word args) ≡ record {
        objects = answered op caller.process (changed (state_before op os caller.process) rest plan.change) plan.reply;
        written = writers op caller.process caller.annex ++ rest;
      }
  effect_planned operation = search (arith, nat_tests, state_frame)

  pub order_objects : (on_kernel_object g os i).objects ≡ finished os caller rest plan
  order_objects = ap (λ (e : Effect). e.objects) (effect_requested ∙ effect_planned caller.operation)

  pub order_written : list ≡ (on_kernel_object g os i).written
  order_written = planned.listed ∙ sym (ap (λ (e : Effect). e.written) (effect_requested ∙ effect_planned caller.operation))

  -- a property of the process, its annex and the numbers of all objects holds of each listed number
  pub listed_known : (P : ℕ → Type 0) → P caller.process → P caller.annex → ((n : ℕ) → n < length os → P n) → All P list
  listed_known P of_process of_annex known = grind (arith, nat_tests)

  pub fetched_known : (P : ℕ → Type 0) → IsNow g os → ((n : ℕ) → n < length os → P n) → All P (fetched_of plan.change)
  fetched_known P now known =
      change_fetched g os rest P plan.change (planned.plans.may os (frame_refl os) now)
      (λ k d inside. known _ (planned.plans.known k d inside))

  -- the objects after the order are sound, and the capability in the reply satisfies `FitsCap`
  module _ (now : IsNow g os) (fits : Fits (command.Invoke i)) (runs : IsTrue (is_running_process os i.process)) where
    ordered_requested : ordered g os i ≡ order g (state_before caller.operation os caller.process) caller.invoked word args
    ordered_requested = λ k. order g (state_before (sym is.operation k) os (sym is.process k)) (sym is.invoked k) word args

    pub order_after : IsNow g (ordered_by os caller rest plan)
    order_after =
        subst (IsNow g) (ap (λ (o : OrderOutcome). o.objects) ordered_requested
        ∙ planned.plans.objects (state_before caller.operation os caller.process)
        (frame_before caller.operation os caller.process process)) (ordered_keeps g os i now fits runs).now

    pub order_fits : object_count g < 2 ^ 64 → FitsCap g plan.reply.capability
    order_fits few =
        let outcome = order_keeps g os caller.invoked word args now (invoked_held g os i now caller.invoked is.invoked)
        (arguments_held g os i now fits) in
        subst (FitsCap g) (ap (λ (o : OrderOutcome). o.capability) planned.plans.here)
        (held_fits g (order g os caller.invoked word args).objects outcome.now.frame.kinds few
        (order g os caller.invoked word args).capability
        (held_to (order g os caller.invoked word args).objects (order g os caller.invoked word args).capability outcome.held))

    -- the code of the plan is the code of the order
    pub order_code : IsKernelObject caller.invoked → result_code g os i ≡ Some plan.reply.code
    order_code object = grind (arith, nat_tests, object_code, ordered_requested, frame_before)

-- the effect of an invocation through this gate
abbrev pub effect_through : List Object → Invocation → Gate → Effect
effect_through os i gate = record {
  objects = entered os i gate (sent_by os i);
  written = written_through i.operation i.process gate.process (annex_at os gate.process);
}

abbrev made : ℕ → ℕ → Bool → Gate
made q key b = record { process = q; key = key; is_resume = b }

gate_by : (g : Geometry) (os : List Object) (i : Invocation) (q key : ℕ) (b : Bool) → (b ≡ true → key ≡ 0) →
    (b || can_start os i q) ≡ true → invoked_by g os i (gate_capability (made q key b)) ≡ Some (effect_through os i (made q key b))
unfolding through_gate
gate_by g os i q key b zeroth can = grind (arith, nat_tests)

-- an invocation through a gate that can be entered has this effect
pub gate_invoked : (g : Geometry) (os : List Object) (i : Invocation) (caller : Caller) (gate : Gate) → IsRequested os i caller →
    caller.invoked ≡ gate_capability gate →
    (gate.is_resume ≡ true → gate.key ≡ 0) → (gate.is_resume || can_start os i gate.process) ≡ true →
    invoke g os i ≡ Some (effect_through os i gate)
gate_invoked g os i caller gate is same zeroth can = grind (arith, nat_tests, invoke_is, gate_by)

-- an invocation through a gate that can't be entered stalls
stalled_by : (g : Geometry) (os : List Object) (i : Invocation) (q key : ℕ) (b : Bool) → (b || can_start os i q) ≡ false →
    invoked_by g os i (gate_capability (made q key b)) ≡ None
stalled_by g os i q key b can = grind (arith, nat_tests)

pub gate_stalled : (g : Geometry) (os : List Object) (i : Invocation) (caller : Caller) (gate : Gate) → IsRequested os i caller →
    caller.invoked ≡ gate_capability gate → (gate.is_resume || can_start os i gate.process) ≡ false → invoke g os i ≡ None
gate_stalled g os i caller gate is same can = grind (arith, nat_tests, invoke_is, stalled_by)

-- an invocation through a gate has no result code
no_code : (g : Geometry) (os : List Object) (i : Invocation) (q key : ℕ) (b : Bool) → code_by g os i (gate_capability (made q key b)) ≡ None
no_code g os i q key b = grind (arith, nat_tests)

pub gate_code : (g : Geometry) (os : List Object) (i : Invocation) (caller : Caller) (gate : Gate) → IsRequested os i caller →
    caller.invoked ≡ gate_capability gate → result_code g os i ≡ None
gate_code g os i caller gate is same = ap (code_by g os i) (sym is.invoked ∙ same) ∙ no_code g os i gate.process gate.key gate.is_resume

-- a gate names a process
gate_names : (os : List Object) (q key : ℕ) (b : Bool) → NamesItsKind os (gate_capability (made q key b)) → IsTrue (is_process os q)
gate_names os q key b kind = grind (arith, nat_tests)

pub gate_process : (p : Parts) (sound : AreSound p) {i : Invocation} {caller : Caller} (gate : Gate) → IsRequested (objects_in p) i caller →
    caller.invoked ≡ gate_capability gate → IsTrue (is_process (objects_in p) gate.process)
gate_process p sound {i} {caller} gate requested same = grind (arith, nat_tests, gate_names, register_kind)

-- each capability that the receiver gets satisfies `FitsCap`
pub received_fits : (g : Geometry) (os : List Object) (i : Invocation) (sent : List Capability) → IsNow g os → object_count g < 2 ^ 64 →
    IsTrue (is_process os i.process) → sent ≡ sent_by os i →
    All (FitsCap g) (received i sent)
received_fits g os i sent now few is same = go i.operation
  where
    all : All (FitsCap g) sent
    all = subst (All (FitsCap g)) (sym same) (All-map (FitsCap g) (register_at os i.process) i.sent
        (λ k d inside. held_fits g os now.frame.kinds few _ (held_to os _ ((now.filled (annex_at os i.process)).slots _))))

    go : (o : Operation) → All (FitsCap g) (elim o [ Call ↦ slice_set sent 3 (Resume i.process) | _ ↦ sent ])
    go Call = All-set (FitsCap g) sent 3 (Resume i.process) (resume_fits g os now.frame.kinds few i.process is) all
    go c = all

pub on_ok : {T E : Type 0} (r : Result T E) {P Q : Type 0} → (P → Q) → OnOk r P → OnOk r Q
on_ok {T} {E} r {P} {Q} f p = grind (arith, nat_tests)

-- a list contains the item at each index
pub contained : (xs : List ℕ) (i x : ℕ) → i < length xs → slice_index xs i ≡ x → Contains xs x
contained [] i x inside is = absurd (omega arith)
contained (y ∷ ys) zero x inside is = (0, omega arith, is)
contained (y ∷ ys) (suc i) x inside is =
    let rest = contained ys i x (omega arith) is in
    (suc rest.0, omega (arith, rest.1), rest.2)

-- unless it is a send, an invocation through a gate writes the process that invokes
asking_in : (operation : Operation) (p q a : ℕ) → (operation ≡ Send → ⊥) → Contains (written_through operation p q a) p
asking_in operation p q a other = grind (arith, nat_tests)

pub announced_through : (Announced : ℕ → Type 0) (operation : Operation) (p q a : ℕ) →
    ((n : ℕ) → Contains (written_through operation p q a) n → Announced n) →
    Announced q × Announced a × ((operation ≡ Send → ⊥) → Announced p)
announced_through Announced operation p q a replying = grind (arith, nat_tests, asking_in)

pub all_through : (P : ℕ → Type 0) (operation : Operation) (p q a : ℕ) → P p → P q → P a → All P (written_through operation p q a)
all_through P operation p q a of_p of_q of_a = grind (arith, nat_tests)

-- a property of four items holds of each item in their list
pub all_four : {X : Type 0} (P : X → Type 0) (a b c d : X) → P a → P b → P c → P d → All P (a ∷ b ∷ c ∷ d ∷ [])
all_four {X} P a b c d x y z w is e inside = grind (arith, nat_tests)

-- a refusal of `prepare` is one that the gate may give
of_gate : (why : Refusal) → IsUnprepared why → IsOfGate why
of_gate why of = grind (arith, nat_tests)

of_process : (why : Refusal) → IsUnprepared why → (why ≡ refusal.Stalled) ⊎ (why ≡ refusal.NotRunning) → ⊥
of_process why of is = grind (arith, nat_tests)

pub ok_no_failure : {T : Type 0} (x : T) → (let r : Result T Refusal = Ok x in IsErrOf r refusal.Fault) → ⊥
ok_no_failure x is = cc

pub ok_no_err : {T : Type 0} (x : T) → IsErr {T = T} {E = Failed} (Ok x) → ⊥
ok_no_err x is = cc

module _ {S : Type 0} {parts : S → Parts} {Continues : S → S → Type 0} (i : Invocation) where
  -- facts about an invocation whose process was fetched
  module _ (twice : (s t u : S) → Continues s t → Continues t u → Continues s u) {s t : S} (u : S) {T : Type 0} {x : T}
      (only_reads : FetchesOrFails {T = T} parts Continues s t (Ok x)) where
    same : parts t ≡ parts s
    same = only_reads.same

    before : (P : Parts → Type 0) → P (parts t) → P (parts s)
    before P p = subst P same p

    -- if a refusal comes from reading alone, `Invoked` holds with it
    found : (k : Refusal) → IsOfGate k → (IsErrOf {T = Option ResultCode} (Err k) refusal.LogFull → ⊥) →
        (IsErrOf {T = Option ResultCode} (Err k) refusal.Fault → ⊥) →
        (IsErrOf {T = Option ResultCode} (Err k) refusal.NotRunning → is_running_process (objects_in (parts s)) i.process ≡ false) →
        (IsErrOf {T = Option ResultCode} (Err k) refusal.Stalled → invoke (parts s).geometry (objects_in (parts s)) i ≡ None) →
        Invoked parts Continues s t i (Err k)
    found k is_of_gate not_full not_failed stopped stalled = grind (arith, nat_tests, ok_no_err)

    pub found_stalled : invoke (parts s).geometry (objects_in (parts s)) i ≡ None → Invoked parts Continues s t i (Err refusal.Stalled)
    found_stalled none = found refusal.Stalled tt (λ is. cc) (λ is. cc) (λ is. cc) (λ is. none)

    pub invoked_looked : (r : Result (Option ResultCode) Refusal) → Invoked parts Continues t u i r → Invoked parts Continues s u i r
    invoked_looked r is = record {
      done = before (λ p. OnOk r (Invokes p.geometry i (objects_in p) p.touched (objects_in (parts u)) (parts u).touched)) is.done;
      code = before (λ p. IfOk r (λ code. code ≡ result_code p.geometry (objects_in p) i)) is.code;
      refusals = is.refusals;
      runs = before (λ p. IsErrOf r refusal.NotRunning → is_running_process (objects_in p) i.process ≡ false) is.runs;
      stalled = before (λ p. IsErrOf r refusal.Stalled → invoke p.geometry (objects_in p) i ≡ None) is.stalled;
      full = before (λ p. IsErrOf r refusal.LogFull → Overfills p.geometry i (objects_in p) p.touched) is.full;
      sound = before (λ p. OnOk r (KeepsSoundFrames p (parts u))) is.sound;
      renews = before (λ p. OnOk r (Renews p (parts u))) is.renews;
      geometry = before (λ p. OnOk r ((parts u).geometry ≡ p.geometry)) is.geometry;
      same = before (λ p. OnErr r (AreSameUnlessFailed p (parts u))) is.same;
      cause = before (λ p. IsErrOf r refusal.Fault ↔ (p.failures < (parts u).failures)) is.cause;
      later = before (λ p. p.failures ≤ (parts u).failures) is.later;
      continues = twice s t u only_reads.snapshots.continues is.continues;
    }

    -- facts about an invocation with effect e, which writes the numbers ns
    module _ (ns : List ℕ) (e : Effect) (invoked : invoke (parts s).geometry (objects_in (parts s)) i ≡ Some e) (written : ns ≡ e.written)
      where
        -- if the numbers couldn't be announced, `Invoked` holds with the refusal
        pub unannounced : {U : Type 0} (f : Refusal) → Prepares {T = U} parts Continues t u ns (Err f) →
            Invoked parts Continues s u i (Err f)
        unannounced {U} f replying = grind (arith, nat_tests, of_gate, of_process, same)

        -- facts after these numbers were announced
        module _ {U : Type 0} (m : S) (y : U) (replying : Prepares {T = U} parts Continues t m ns (Ok y))
            (failures : (parts u).failures ≡ (parts m).failures)
          where
            there : parts m ≡ touched_too ns (parts s)
            there = announced_same only_reads replying

            all_still : (parts u).failures ≡ (parts s).failures
            all_still = failures ∙ ap (λ (p : Parts). p.failures) there

            pub carried_out : (parts u).touched ≡ (parts m).touched → (parts u).geometry ≡ (parts m).geometry → Continues m u →
                objects_in (parts u) ≡ e.objects → Fits (command.Invoke i) → IsTrue (is_running_process (objects_in (parts s)) i.process) →
                AreCurrent (frames_of (parts u))
                → ((age : ℕ) → age + 1 < 2 ^ 64 → AreKeepable (parts m).geometry age (frames_of (parts m)) →
                AreKeepable (parts m).geometry (age + 1) (frames_of (parts u)))
                → Renews (parts s) (parts u) → (code : Option ResultCode) → code ≡ result_code (parts s).geometry (objects_in (parts s)) i
                → Invoked parts Continues s u i (Ok code)
            carried_out touched geometry continues objects fits running current keepable renews code is = record {
              done = (
                e,
                invoked,
                objects,
                now_touched ∙ ap (touching (parts s).touched) written,
                subst (λ (ts : List Bool). touched_count ts ≤ (parts s).geometry.log) (sym now_touched)
                    (subst (λ (p : Parts). touched_count (touching p.touched ns) ≤ p.geometry.log) same replying.within),
              );
              code = is;
              refusals = tt;
              runs = λ is. cc;
              stalled = λ is. cc;
              full = λ is. cc;
              sound = λ age young sound. sound_after (parts s).geometry age (frames_of (parts s)) (frames_of (parts u)) i e young fits
                  running
                  invoked objects
                  sound (in_geometry (ap (λ (p : Parts). p.geometry) (sym there)) (keepable age (omega (arith, young))
                  (subst (λ (p : Parts). AreKeepable p.geometry age (frames_of p)) (sym there) sound.keepable)))
                  current;
              renews = renews;
              geometry = geometry ∙ ap (λ (p : Parts). p.geometry) there;
              same = tt;
              cause = (λ is. cc, λ rose. absurd (omega (arith, rose, all_still)));
              later = omega (arith, all_still);
              continues = twice s t u only_reads.snapshots.continues (twice t m u replying.continues continues);
            }
              where
                now_touched : (parts u).touched ≡ touching (parts s).touched ns
                now_touched = touched ∙ ap (λ (p : Parts). p.touched) there
