-- The banks' state agrees with the objects after a process returns, after a reply, and after an invocation that is no order of a bank.
use Rattle.gate.proofs.Names.{nat_tests, ℕ, Bool, true, false, List, Result, Ok, Err, drop, length, refl, sym, ap, subst, arith, IsTrue, OnOk, OnErr, slice_index}
use Rattle.gate.proofs.Names.{All, Bank, Invocation, Operation, Call, Return, Send, Geometry, Object, Arguments, deliver, AreCurrent, AreKeepable}
use Rattle.gate.proofs.Names.{IsSoundFrames, is_running, IsNoBankOrder, IsSound, NamesItsKind, Fits, World, annex_at, is_process, is_running_process}
use Rattle.gate.proofs.Names.{register_at, root_at, deliver_frame, invocation_frame, state_sound, held_to, SameFrame, frame_refl, tests_at, usage_same, Caller}
use Rattle.gate.proofs.Names.{OrderPlan, Reply, message_of, AreSound, AreSameUnlessFailed, Parts, frames_of, objects_in, AreCounted, BanksState, MayAsk}
use Rattle.gate.proofs.Names.{writer_count, writers, IsPlanned, answered, AreEnough, state_before, MayChange, Invokes, IsRequested}
use Rattle.std.proofs.Common.{◌≡◌, ◌++◌, ◌≤◌, if◌then◌else◌, ◌∙◌}
use Rattle.model.specs.declared.command.Command.TheVariants as command
use Rattle.gate.proofs.Effects.{frame_before}
use Rattle.gate.proofs.Standing.{running_process, now_sound}
use Rattle.gate.proofs.Plans.{enough_held, invoked_held}

-- counts that agree with some objects agree with all objects of the same owners, roles, annexes and limits (`SameFrame`)
pub counted_on : {g : Geometry} {os us : List Object} {s : BanksState} → SameFrame os us → AreCounted g os s → AreCounted g us s
counted_on {g} {os} {us} {s} f h = grind (arith, nat_tests, tests_at, usage_same)

process_runs : (os : List Object) (p : ℕ) → IsTrue (is_running_process os p) → is_running (root_at os p).state ≡ true
process_runs os p runs = grind (arith, nat_tests)

-- facts about sound frames, after the process that invokes has changed its state before the order
module _ (old mid : Parts) (s : BanksState) (sound : AreSound old) (counted : AreCounted old.geometry (objects_in old) s) (op : Operation)
    (p : ℕ)
    (runs : IsTrue (is_running_process (objects_in old) p)) (is : objects_in mid ≡ state_before op (objects_in old) p)
    (geometry : mid.geometry ≡ old.geometry)
  where
    pub before_frame : SameFrame (objects_in old) (objects_in mid)
    before_frame = subst (SameFrame (objects_in old)) (sym is) (frame_before op (objects_in old) p
        (running_process (objects_in old) p runs))

    pub before_counted : AreCounted mid.geometry (objects_in mid) s
    before_counted = subst (λ (g : Geometry). AreCounted g (objects_in mid) s) (sym geometry) (counted_on before_frame counted)

    sound_before : (k : Operation) → (let w : World = record { objects = state_before k (objects_in old) p; age = sound.0 } in
        IsSound old.geometry w)
    sound_before Return = search (arith, nat_tests, state_sound, running_process, process_runs)
    sound_before c = sound.1.sound

    pub before_sound : AreCurrent (frames_of mid) → AreKeepable old.geometry sound.0 (frames_of mid) → AreSound mid
    before_sound current keepable = (
      sound.0,
      subst (λ (g : Geometry). IsSoundFrames g sound.0 (frames_of mid)) (sym geometry) (record {
        keepable = keepable;
        current = current;
        sound = subst (λ (us : List Object). let w : World = record { objects = us; age = sound.0 } in IsSound old.geometry w) (sym is)
            (sound_before op);
      }),
    )

    pub before_may : (i : Invocation) (caller : Caller) (plan : OrderPlan) (list : List ℕ) →
        IsPlanned old.geometry (objects_in old) i caller plan list → AreSound mid →
        MayChange mid.geometry (objects_in mid) (drop (writer_count caller.operation) list) plan.change
    before_may i caller plan list planned there = search (arith, nat_tests, before_frame, now_sound)

-- a reply keeps owners, roles, annexes and limits (`SameFrame`)
pub answered_frame : (op : Operation) (us : List Object) (p : ℕ) (replying : Reply) → SameFrame us (answered op p us replying)
answered_frame Call us p replying = go (is_running_process us p) (λ runs. running_process us p runs)
  where
    go : (b : Bool) → (b ≡ true → IsTrue (is_process us p)) → SameFrame us (if b then deliver us p (message_of replying) else us)
    go true process = deliver_frame us p (message_of replying) (process refl)
    go false process = frame_refl us
answered_frame Return us p replying = frame_refl us
answered_frame Send us p replying = frame_refl us

-- for a call or a return, a property of all listed numbers holds of the process, which is listed first
pub process_listed : (P : ℕ → Type 0) (op : Operation) (p a : ℕ) (rest list : List ℕ) → list ≡ writers op p a ++ rest → (op ≡ Send → ⊥) →
    All P list → P p
process_listed P op p a rest list is other all = grind (arith, nat_tests)

pub annex_listed : (P : ℕ → Type 0) (op : Operation) (p a : ℕ) (rest list : List ℕ) → list ≡ writers op p a ++ rest → op ≡ Call →
    All P list → P a
annex_listed P Call p a rest list is call all = (subst (All P) is all) 1 0 (omega arith)
annex_listed P Return p a rest list is call all = cc
annex_listed P Send p a rest list is call all = cc

pub no_send : (op : Operation) → op ≡ Call → op ≡ Send → ⊥
no_send op is other = grind (arith, nat_tests)

pub writers_within : (op : Operation) (p a : ℕ) (rest list : List ℕ) → list ≡ writers op p a ++ rest → writer_count op ≤ length list
writers_within op p a rest list is = grind (arith, nat_tests)

-- an order that isn't a bank's keeps the banks' state right, also after a call that only reads
module _ (old mid new : Parts) (i : Invocation) (s : BanksState) (sound : AreSound old) (same : mid ≡ old)
    (fits : Fits (command.Invoke i)) (runs : IsTrue (is_running_process (objects_in old) i.process))
    (other : IsNoBankOrder (register_at (objects_in old) i.process i.register) (slice_index i.words 0))
    (counted : AreCounted old.geometry (objects_in old) s) where
  counted_mid : AreCounted mid.geometry (objects_in mid) s
  counted_mid = subst (λ (p : Parts). AreCounted p.geometry (objects_in p) s) (sym same) counted

  pub counted_after : {T E : Type 0} (r : Result T E) → OnOk r (Invokes mid.geometry i (objects_in mid) mid.touched (objects_in new)
      new.touched) → OnOk r (new.geometry ≡ mid.geometry) → OnErr r (AreSameUnlessFailed mid new) → new.failures ≡ old.failures →
      AreCounted new.geometry (objects_in new) s
  counted_after (Ok x) invokes geometry unchanged stayed =
      let frame = invocation_frame mid.geometry (objects_in mid) i invokes.0 (now_sound mid (subst AreSound (sym same) sound)) fits
      (subst (λ (p : Parts). IsTrue (is_running_process (objects_in p) i.process)) (sym same) runs)
      (subst (λ (p : Parts). IsNoBankOrder (register_at (objects_in p) i.process i.register) (slice_index i.words 0)) (sym same) other)
      invokes.1 in
      subst (λ (X : Type 0). X) (λ k. AreCounted (sym geometry k) (sym invokes.2 k) s) (counted_on frame counted_mid)
  counted_after (Err e) done geometry unchanged stayed =
      subst (λ (p : Parts). AreCounted p.geometry (objects_in p) s) (sym (unchanged (stayed ∙ sym (ap (λ (p : Parts). p.failures) same))))
      counted_mid

-- an order of the bank that is invoked may be planned
pub bank_may_ask : (p : Parts) (s : BanksState) (i : Invocation) (caller : Caller) (b : ℕ) (args : Arguments) → AreSound p →
    AreCounted p.geometry (objects_in p) s →
    Fits (command.Invoke i) → IsRequested (objects_in p) i caller → AreEnough (objects_in p) i caller.invoked args →
    caller.invoked ≡ Bank b → MayAsk p s b args
bank_may_ask p s i caller b args sound counted fits is enough invoked =
    let os = objects_in p in
    record {
      serves = record {
        sound = sound;
        counted = counted;
        bank = subst (NamesItsKind os) invoked (held_to os caller.invoked (invoked_held p.geometry os i (now_sound p sound) caller.invoked
            is.invoked)).1;
      };
      sent = held_to os args.capability
          (enough_held p.geometry os i (now_sound p sound) caller.invoked args fits enough).held;
    }
