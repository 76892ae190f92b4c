-- Runs by processes of a closed set: each step stays within the set and the free numbers. A
-- capability stays inside a set if it names a member, is weak, or names no object.
use Rattle.model_laws.proofs.Names.{nat_tests, inl, inr, ℕ, suc, Bool, true, false, Option, None, Some, Result, Ok, Err, List, [], map, refl, sym, ap, subst}
use Rattle.model_laws.proofs.Names.{arith, IsTrue, nat_lt, bit_or, slice_index_or, and_parts, ltb-true, All-head, All-tail, le_or_l, le_or_r, Access, Answer}
use Rattle.model_laws.proofs.Names.{MemoryFault, ReadOnly, Refusal, Capability, Void, Page, Node, Space, Command, Invocation, Geometry, Line, Content, Object}
use Rattle.model_laws.proofs.Names.{named, IsClosed, StaysInside, Effect, invoke, Machine, Saved, Up, Down, renewing, is_waiting, map_content, root_in}
use Rattle.model_laws.proofs.Names.{slots_in, void_where, IsRun, IsTurn, Turn, IsSound, NamesItsKind, Answers, Outcome, Step, carried_out, outcome, reached}
use Rattle.model_laws.proofs.Names.{refusal_of, writable, writing, Fits, Says, below, path, walk, walk_along, content_at, is_running_process, object_at}
use Rattle.model_laws.proofs.Names.{owner_at, root_at, slot_at, with_word, word_at, AreBy, Encloses, InvocationIsConfined, IsBy, IsKept, IsLineBy, NamesInside}
use Rattle.model_laws.proofs.Names.{RunIsConfined, StaysWithin, with_free}
use Rattle.std.proofs.Common.{◌≡◌, ◌⊎◌, ◌+◌, ◌/◌, ◌%◌, ◌^◌, ◌==◌, ◌<◌, ◌≤◌, ◌&&◌, if◌then◌else◌, ◌∷◌, ◌∙◌}
use Rattle.model.specs.Machine.{Running}
use Rattle.model_laws.proofs.Journaling.{unless_passes}
use Rattle.model_laws.proofs.SoundEdits.{edited_word}
use Rattle.model_laws.proofs.SoundGates.{invocation_keeps}
use Rattle.model_laws.proofs.SoundParts.{Waits, nearly_from, nearly_to, nearly_weaken}
use Rattle.model.specs.declared.answer.Answer.TheVariants as answer
use Rattle.model.specs.declared.command.Command.TheVariants as command
use Rattle.model.specs.declared.object.Content.TheVariants as content
use Rattle.model_laws.proofs.ConfinedGates.{invocation_confined}
use Rattle.model_laws.proofs.Kept.{stays_refl, stays_trans, stays_word}

-- a closed set, together with all free numbers, encloses its members
encloses_free : (inside : ℕ → Bool) (os : List Object) → IsClosed os inside → Encloses (with_free os inside) os
encloses_free inside os h = grind (arith, nat_tests)

-- whether a capability names a member
abbrev names_inside : (ℕ → Bool) → Capability → Bool
names_inside inside c = elim (named c) [ None ↦ false | Some n ↦ inside n ]

names_from : (inside : ℕ → Bool) (c : Capability) → names_inside inside c ≡ true → NamesInside inside c
names_from inside c e = grind (arith, nat_tests)

map_alike : (f k : Capability → Capability) (cs : List Capability) → ((i : ℕ) → f (slice_index_or cs i Void) ≡ k (slice_index_or cs i Void))
    → map f cs ≡ map k cs
map_alike f k [] same = refl
map_alike f k (c ∷ cs) same = rw (same 0, map_alike f k cs (λ i. same (suc i))) refl

content_alike : (f k : Capability → Capability) (c : Content Capability)
    → ((i : ℕ) → f (slice_index_or (slots_in c) i Void) ≡ k (slice_index_or (slots_in c) i Void)) →
    f (root_in c).space ≡ k (root_in c).space
    → map_content f c ≡ map_content k c
content_alike f k (content.Node cs) slots space = ap content.Node (map_alike f k cs slots)
content_alike f k (content.Root r) slots space = grind (arith, nat_tests)
content_alike f k (content.Annex cs) slots space = ap content.Annex (map_alike f k cs slots)
content_alike f k c slots space = refl

-- in a sound world, an object that is kept (`IsKept`) relative to the set and the free numbers is kept relative to the set alone
kept_inside : (g : Geometry) (os : List Object) (age : ℕ) (inside : ℕ → Bool) (n : ℕ) (new : Object) →
    IsSound g (record { objects = os; age = age }) → IsKept (with_free os inside) (object_at os n) new → IsKept inside (object_at os n) new
kept_inside g os age inside n new sound k = (
  goes,
  λ c e. names_from inside c (and_parts (k.0 c) (names_inside inside c) e).1,
  k.2 ∙ ap (λ (c : Content Capability). record { owner = owner_at os n; content = c })
      (content_alike (void_where k.0) (void_where goes) (content_at os n) (λ i. alike (slot_at os n i) (sound.slots n i).1)
      (alike (root_at os n).space (sound.spaces n).0.1)),
)
  where
    goes : Capability → Bool
    goes c = k.0 c && names_inside inside c

    alike : (c : Capability) → NamesItsKind os c → void_where k.0 c ≡ void_where goes c
    alike c kind = grind (arith, nat_tests)

-- ---- the pages that stores reach

-- a page found below a space: that of the rest of the walk, with the restrictions `a` added
record IsBelow (a : Access) (rest : Result (ℕ × Access) MemoryFault) (found : ℕ × Access) : Type 0 where
  next : ℕ × Access
  is : rest ≡ Ok next
  same : found.0 ≡ next.0
  bits : found.1.0 ≡ bit_or a.0 next.1.0

below_ok : (height : ℕ) (a : Access) (c : Capability) (rest : Result (ℕ × Access) MemoryFault) (found : ℕ × Access)
    → below height a c rest ≡ Ok found → IsBelow a rest found
below_ok height a c rest found is = grind (arith, nat_tests)

full_space : (inside : ℕ → Bool) (o h : ℕ) (a : Access) → StaysInside inside (Space o h a) → a.0 ≡ 0 → IsTrue (inside o)
full_space inside o h a is e = grind (arith, nat_tests)

along_inside : (inside : ℕ → Bool) (os : List Object) → IsClosed os inside → (c : Capability) (slots : List ℕ) (found : ℕ × Access)
    → StaysInside inside c → walk_along os c slots ≡ Ok found → found.1.0 ≡ 0 → IsTrue (inside found.0)
along_inside inside os h (Page o a) [] found stays e full = grind (arith, nat_tests)
along_inside inside os h (Space o k a) (slot ∷ slots) found stays e full =
    let c = slot_at os o slot in
    let b = below_ok k a c (walk_along os c slots) found e in
    let first : a.0 ≤ bit_or a.0 b.next.1.0 = le_or_l a.0 b.next.1.0 in
    let second : b.next.1.0 ≤ bit_or a.0 b.next.1.0 = le_or_r a.0 b.next.1.0 in
    let bits = b.bits in
    let full_here : a.0 ≡ 0 = omega (arith, first, bits, full) in
    let full_there : b.next.1.0 ≡ 0 = omega (arith, second, bits, full) in
    let stays_there = h.slots o slot (full_space inside o k a stays full_here) in
    subst (λ n. IsTrue (inside n)) (sym b.same) (along_inside inside os h c slots b.next stays_there b.is full_there)
along_inside inside os h c slots found stays e full = cc

-- if `if b then r else Err why` is `Ok`, it is r
if_found : (b : Bool) (r : Result (ℕ × Access) MemoryFault) (why : MemoryFault) (found : ℕ × Access) →
    (if b then r else Err why) ≡ Ok found → r ≡ Ok found
if_found b r why found e = grind (arith, nat_tests)

-- a walk to a writable page, from a capability that stays inside, ends at a member
walk_inside : (inside : ℕ → Bool) (os : List Object) → IsClosed os inside → (c : Capability) (index : ℕ) (found : ℕ × Access)
    → StaysInside inside c → walk os c index ≡ Ok found → found.1.0 ≡ 0 → IsTrue (inside found.0)
unfolding walk
walk_inside inside os h (Page o a) index found stays e full = grind (arith, nat_tests, along_inside, if_found)
walk_inside inside os h (Space o k a) index found stays e full =
    along_inside inside os h (Space o k a) (path k index) found stays (if_found (nat_lt index (32 ^ k)) _ _ found e) full
walk_inside inside os h c index found stays e full = cc

writable_inside : (inside : ℕ → Bool) (os : List Object) (p address page : ℕ) → IsClosed os inside → IsTrue (inside p)
    → writable (reached os p address) ≡ Ok page → IsTrue (inside page)
writable_inside inside os p address page h in_p e = cases (reached os p address) refl e
  where
    full : (found : ℕ × Access) (b : Bool) → (found.1.0 == 0) ≡ b → reached os p address ≡ Ok found
        → (if b then Ok found.0 else Err ReadOnly) ≡ Ok page → IsTrue (inside page)
    full found b is at e = grind (arith, nat_tests, walk_inside)

    cases : (r : Result (ℕ × Access) MemoryFault) → reached os p address ≡ r → writable r ≡ Ok page → IsTrue (inside page)
    cases r at e = grind (arith, nat_tests, full)

-- ---- steps

-- the world of a machine is sound, and each object outside the set has been kept (`IsKept`) since os
record IsWithin (g : Geometry) (inside : ℕ → Bool) (os : List Object) (s : Running) : Type 0 where
  sound : IsSound g s.now
  stays : StaysWithin inside os s.now.objects

-- a machine that is up satisfies `IsWithin`; nothing is required of one that is down
abbrev MachineWithin : Geometry → (ℕ → Bool) → List Object → Machine → Type 0
MachineWithin g inside os (Up s) = IsWithin g inside os s
MachineWithin g inside os (Down saved) = Unit {0}

-- the outcome of an invocation with this effect
abbrev invoked : Running → Option Effect → Outcome
invoked s found = elim found [
  | None ↦ outcome answer.Done s
  | Some effect ↦ outcome answer.Done (writing s effect.objects (s.now.age + 1) effect.written
      (renewing s.renewed s.now.objects effect.objects))
]

abbrev loaded : Running → ℕ → Result (ℕ × Access) MemoryFault → Outcome
loaded s address found = elim found [
  | Ok at ↦ outcome (answer.Value (word_at s.now.objects at.0 (address % 512))) s
  | Err why ↦ outcome (answer.MemoryFault why) s
]

abbrev written : Running → ℕ → ℕ → Result ℕ MemoryFault → Outcome
written s address value found = elim found [
  | Ok page ↦ outcome answer.Done (writing s (with_word s.now.objects page (address % 512) value) s.now.age (page ∷ []) s.renewed)
  | Err why ↦ outcome (answer.MemoryFault why) s
]

-- a world stays sound with another word in a page
word_sound : (g : Geometry) (os : List Object) (age n i w : ℕ) → IsSound g (record { objects = os; age = age }) → w < 2 ^ 64
    → IsSound g (record { objects = with_word os n i w; age = age })
word_sound g os age n i w sound fits =
    let us = with_word os n i w in
    let e = edited_word g (Waits os) os n i w (nearly_from g (record { objects = os; age = age }) sound) fits in
    nearly_to g us age (nearly_weaken g (Waits os) (Waits us) us (λ q waits. subst (λ s. IsTrue (is_waiting s)) (sym (e.states q)) waits)
    e.sound) sound.age

load_keeps : (g : Geometry) (inside : ℕ → Bool) (os : List Object) (s : Running) (address : ℕ) (found : Result (ℕ × Access) MemoryFault)
    → IsWithin g inside os s → IsWithin g inside os (loaded s address found).after
load_keeps g inside os s address found h = grind (arith, nat_tests)

store_keeps : (g : Geometry) (inside : ℕ → Bool) (os : List Object) (s : Running) (p address value : ℕ) (found : Result ℕ MemoryFault)
    → writable (reached s.now.objects p address) ≡ found → IsTrue (inside p) → value < 2 ^ 64
    → IsWithin g inside os s → IsWithin g inside os (written s address value found).after
store_keeps g inside os s p address value (Ok page) is in_p fits h =
    let now = s.now.objects in
    let us = with_word now page (address % 512) value in
    let in_page = writable_inside inside now p address page h.stays.encloses.closed in_p is in
    record {
      sound = word_sound g now s.now.age page (address % 512) value h.sound fits;
      stays = stays_trans inside os now us h.stays (stays_word inside now page (address % 512) value h.stays.encloses in_page);
    }
store_keeps g inside os s p address value (Err why) is in_p fits h = h

-- a turn whose line is no command, or a command of a member
abbrev IsTurnBy : (ℕ → Bool) → Turn → Type 0
IsTurnBy inside t = (l : Line) → Says t.line l → IsLineBy inside l

-- a and `after` are the answer and the machine after a command: refused for this reason or, if there is none, carried out
abbrev IsAnswer : Geometry → Running → Command → Answer → Machine → Option Refusal → Type 0
IsAnswer g s c a after refused = elim refused [
  | Some why ↦ (a ≡ answer.Refused why) × (after ≡ Up s)
  | None ↦ (a ≡ (carried_out g s c).answer) × (after ≡ Up (carried_out g s c).after)
]

-- a machine that is down stays down, because only `restart` and `cut` open it
down_keeps : (g : Geometry) (inside : ℕ → Bool) (os : List Object) (saved : List Saved) (c : Command) (a : Answer) (after : Machine)
    → IsBy inside c → Step g (Down saved) c a after → MachineWithin g inside os after
down_keeps g inside os saved c a after by is = grind (arith, nat_tests)

module _ (by_invocation : InvocationIsConfined) where
  invoke_keeps : (g : Geometry) (inside : ℕ → Bool) (os : List Object) (s : Running) (i : Invocation) (found : Option Effect)
      → invoke g s.now.objects i ≡ found → Fits (command.Invoke i) → IsTrue (inside i.process) →
      IsTrue (is_running_process s.now.objects i.process)
      → s.now.age < 2 ^ 62 → IsWithin g inside os s → IsWithin g inside os (invoked s found).after
  invoke_keeps g inside os s i None is fits in_p runs young h = h
  invoke_keeps g inside os s i (Some e) is fits in_p runs young h = record {
    sound = invocation_keeps g s.now i e h.sound fits runs young is;
    stays = stays_trans inside os s.now.objects e.objects h.stays
        (by_invocation g s.now i e inside h.sound fits runs h.stays.encloses in_p is);
  }

  -- a command that isn't refused keeps the world sound, and everything outside the set
  carried_keeps : (g : Geometry) (inside : ℕ → Bool) (os : List Object) (s : Running) (c : Command) → IsBy inside c → Fits c →
      refusal_of g s c ≡ None → IsWithin g inside os s → IsWithin g inside os (carried_out g s c).after
  unfolding carried_out refusal_of
  carried_keeps g inside os s (command.Invoke i) in_p fits e h =
      let first = unless_passes _ _ _ e in
      let second = unless_passes _ _ _ first.1 in
      let third = unless_passes _ _ _ second.1 in
      invoke_keeps g inside os s i (invoke g s.now.objects i) refl fits in_p second.0 (ltb-true s.now.age (2 ^ 62) third.0) h
  carried_keeps g inside os s (command.Load p address) in_p fits e h = load_keeps g inside os s address (reached s.now.objects p address) h
  carried_keeps g inside os s (command.Store p address value) in_p fits e h =
      store_keeps g inside os s p address value (writable (reached s.now.objects p address)) refl in_p fits.2 h
  carried_keeps g inside os s c in_p fits e h = absurd in_p

  answer_keeps : (g : Geometry) (inside : ℕ → Bool) (os : List Object) (s : Running) (c : Command) (a : Answer) (after : Machine) →
      IsBy inside c → Fits c → IsWithin g inside os s → Answers g s c a after → MachineWithin g inside os after
  answer_keeps g inside os s c a after by fits h answers = cases (refusal_of g s c) refl answers
    where
      cases : (refused : Option Refusal) → refusal_of g s c ≡ refused → IsAnswer g s c a after refused → MachineWithin g inside os after
      cases (Some why) is replying = subst (λ m. MachineWithin g inside os m) (sym replying.1) h
      cases None is replying = subst (λ m. MachineWithin g inside os m) (sym replying.1) (carried_keeps g inside os s c by fits is h)

  step_keeps : (g : Geometry) (inside : ℕ → Bool) (os : List Object) (m : Machine) (c : Command) (a : Answer) (after : Machine) →
      IsBy inside c → Fits c → MachineWithin g inside os m → Step g m c a after → MachineWithin g inside os after
  step_keeps g inside os (Up s) c a after by fits h (inl answers) = answer_keeps g inside os s c a after by fits h answers
  step_keeps g inside os (Up s) c a after by fits h (inr (inl wants)) = grind (arith, nat_tests)
  step_keeps g inside os (Up s) c a after by fits h (inr (inr fails)) = subst (λ m. MachineWithin g inside os m) (sym fails.2) tt
  step_keeps g inside os (Down saved) c a after by fits h step = down_keeps g inside os saved c a after by step

  turn_keeps : (g : Geometry) (inside : ℕ → Bool) (os : List Object) (t : Turn) → IsTurnBy inside t
      → MachineWithin g inside os t.before → IsTurn g t → MachineWithin g inside os t.after
  turn_keeps g inside os t by h turn = grind (arith, nat_tests, step_keeps)

  turns_keep : (g : Geometry) (inside : ℕ → Bool) (os : List Object) (m : Machine) (turns : List Turn) (last : Machine) → AreBy inside turns
      → MachineWithin g inside os m → IsRun g m turns last → MachineWithin g inside os last
  turns_keep g inside os m [] last by h run = subst (λ m. MachineWithin g inside os m) (sym run) h
  turns_keep g inside os m (t ∷ ts) last by h run =
      turns_keep g inside os t.after ts last (All-tail (IsTurnBy inside) t ts by)
      (turn_keeps g inside os t (All-head (IsTurnBy inside) t ts by) (subst (λ m. MachineWithin g inside os m) (sym run.0) h) run.1) run.2

  -- a run by members is confined, because each of its invocations is
  pub run_confined_by : RunIsConfined
  run_confined_by g inside s t turns sound closed run by n out =
      let os = s.now.objects in
      let all = with_free os inside in
      let start : IsWithin g all os s = record { sound = sound; stays = stays_refl all os (encloses_free inside os closed) } in
      let end = turns_keep g all os (Up s) turns (Up t) by start run in
      kept_inside g os s.now.age inside n (object_at t.now.objects n) sound (end.stays.kept n out)

-- the authority bound holds
pub run_confined : RunIsConfined
run_confined = run_confined_by invocation_confined
