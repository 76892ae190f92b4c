-- Runs by members of a closed set: each step stays within the set with the free numbers. A
-- capability stays inside a set if it names a member, is weak, names no object, or starts a trusted
-- process.
use Rattle.confinement.proofs.Names.{nat_tests, inl, inr, ℕ, suc, Bool, true, false, Option, None, Some, Result, Ok, Err, List, [], map, refl, sym, ap, subst}
use Rattle.confinement.proofs.Names.{arith, IsTrue, nat_lt, bit_or, slice_index_or, and_parts, ltb-true, All-head, All-tail, le_or_l, le_or_r, Access, Answer}
use Rattle.confinement.proofs.Names.{MemoryFault, ReadOnly, Refusal, Capability, Void, Page, Space, Command, Invocation, Geometry, Line, Content, Object}
use Rattle.confinement.proofs.Names.{named, Effect, invoke, Machine, Saved, Up, Down, renewing, is_waiting, map_content, root_in, slots_in, void_where, IsRun}
use Rattle.confinement.proofs.Names.{IsTurn, Turn, IsSound, NamesItsKind, Answers, Outcome, Step, carried_out, outcome, reached, refusal_of, writable, writing}
use Rattle.confinement.proofs.Names.{Fits, Says, below, path, walk, walk_along, content_at, is_running_process, object_at, owner_at, root_at, slot_at}
use Rattle.confinement.proofs.Names.{with_word, word_at, AreBy, InvocationIsConfinedBut, IsBy, IsKept, IsLineBy, NamesInside, World, annex_at, is_annex}
use Rattle.confinement.proofs.Names.{is_free, members_after, IsConfinedBut, IsStretch, RunIsConfinedBut, StaysBut}
use Rattle.confinement.proofs.Names.{Stretch, TurnsAreConfinedBut, IsClosedBut, IsInbox, not, with_free, unless_passes, edited_word, invocation_keeps, Waits}
use Rattle.confinement.proofs.Names.{nearly_from, nearly_to, nearly_weaken}
use Rattle.std.proofs.Common.{◌≡◌, ◌+◌, ◌%◌, ◌^◌, ◌==◌, ◌<◌, ◌≤◌, ◌&&◌, ◌||◌, if◌then◌else◌, ◌∷◌, ◌∙◌}
use Rattle.model.specs.Machine.{Running}
use Rattle.confinement.proofs.Zones.{Encloses, Stays, StaysWithin, Zone}
use Rattle.model.specs.declared.answer.Answer.TheVariants as answer
use Rattle.model.specs.declared.command.Command.TheVariants as command
use Rattle.model.specs.declared.object.Content.TheVariants as content
use Rattle.confinement.proofs.TrustedGates.{invoked_stays}
use Rattle.confinement.proofs.TrustedEdits.{stays_refl, stays_trans, stays_word}

-- whether a capability names a member of the set
abbrev names_inside : (ℕ → Bool) → Capability → Bool
names_inside inside c = elim (named c) [ None ↦ false | Some n ↦ inside n ]

names_from : (inside : ℕ → Bool) (c : Capability) → names_inside inside c ≡ true → NamesInside inside c
names_from inside c e = grind (arith, nat_tests)

map_alike : (f k : Capability → Capability) (cs : List Capability) → ((i : ℕ) → f (slice_index_or cs i Void) ≡ k (slice_index_or cs i Void))
    → map f cs ≡ map k cs
map_alike f k [] same = refl
map_alike f k (c ∷ cs) same = rw (same 0, map_alike f k cs (λ i. same (suc i))) refl

content_alike : (f k : Capability → Capability) (c : Content Capability)
    → ((i : ℕ) → f (slice_index_or (slots_in c) i Void) ≡ k (slice_index_or (slots_in c) i Void)) →
    f (root_in c).space ≡ k (root_in c).space
    → map_content f c ≡ map_content k c
content_alike f k (content.Node cs) slots space = ap content.Node (map_alike f k cs slots)
content_alike f k (content.Root r) slots space = grind (arith, nat_tests)
content_alike f k (content.Annex cs) slots space = ap content.Annex (map_alike f k cs slots)
content_alike f k c slots space = refl

-- if an object outside was kept with the free numbers as members, it was kept without them: in a sound world no capability names a free
-- number
kept_inside : (g : Geometry) (os : List Object) (age : ℕ) (inside : ℕ → Bool) (n : ℕ) (new : Object) →
    IsSound g (record { objects = os; age = age }) → IsKept (with_free os inside) (object_at os n) new → IsKept inside (object_at os n) new
kept_inside g os age inside n new sound k = (
  goes,
  λ c e. names_from inside c (and_parts (k.0 c) (names_inside inside c) e).1,
  k.2 ∙ ap (λ (c : Content Capability). record { owner = owner_at os n; content = c })
      (content_alike (void_where k.0) (void_where goes) (content_at os n) (λ i. alike (slot_at os n i) (sound.slots n i).1)
      (alike (root_at os n).space (sound.spaces n).0.1)),
)
  where
    goes : Capability → Bool
    goes c = k.0 c && names_inside inside c

    alike : (c : Capability) → NamesItsKind os c → void_where k.0 c ≡ void_where goes c
    alike c kind = grind (arith, nat_tests)

-- ---- the page that a store reaches

-- `found` is the page that the rest of the walk reached, with the restrictions `a` added
record IsBelow (a : Access) (rest : Result (ℕ × Access) MemoryFault) (found : ℕ × Access) : Type 0 where
  next : ℕ × Access
  is : rest ≡ Ok next
  same : found.0 ≡ next.0
  bits : found.1.0 ≡ bit_or a.0 next.1.0

below_ok : (height : ℕ) (a : Access) (c : Capability) (rest : Result (ℕ × Access) MemoryFault) (found : ℕ × Access)
    → below height a c rest ≡ Ok found → IsBelow a rest found
below_ok height a c rest found is = grind (arith, nat_tests)

full_space : (z : Zone) (o h : ℕ) (a : Access) → Stays z (Space o h a) → a.0 ≡ 0 → IsTrue (z.members o)
full_space z o h a is e = grind (arith, nat_tests)

along_inside : (z : Zone) (os : List Object) → IsClosedBut z.trusted os z.members → (c : Capability) (slots : List ℕ) (found : ℕ × Access)
    → Stays z c → walk_along os c slots ≡ Ok found → found.1.0 ≡ 0 → IsTrue (z.members found.0)
along_inside z os h (Page o a) [] found stays e full = grind (arith, nat_tests)
along_inside z os h (Space o k a) (slot ∷ slots) found stays e full =
    let c = slot_at os o slot in
    let b = below_ok k a c (walk_along os c slots) found e in
    let first : a.0 ≤ bit_or a.0 b.next.1.0 = le_or_l a.0 b.next.1.0 in
    let second : b.next.1.0 ≤ bit_or a.0 b.next.1.0 = le_or_r a.0 b.next.1.0 in
    let bits = b.bits in
    let full_here : a.0 ≡ 0 = omega (arith, first, bits, full) in
    let full_there : b.next.1.0 ≡ 0 = omega (arith, second, bits, full) in
    let stays_there = h.slots o slot (full_space z o k a stays full_here) in
    subst (λ n. IsTrue (z.members n)) (sym b.same) (along_inside z os h c slots b.next stays_there b.is full_there)
along_inside z os h c slots found stays e full = cc

-- if a walk that begins with a test found a page, the walk after the test found it
if_found : (b : Bool) (r : Result (ℕ × Access) MemoryFault) (why : MemoryFault) (found : ℕ × Access) →
    (if b then r else Err why) ≡ Ok found → r ≡ Ok found
if_found b r why found e = grind (arith, nat_tests)

-- if a walk begins at a capability that stays inside and finds a writable page, the page is a member
walk_inside : (z : Zone) (os : List Object) → IsClosedBut z.trusted os z.members → (c : Capability) (index : ℕ) (found : ℕ × Access)
    → Stays z c → walk os c index ≡ Ok found → found.1.0 ≡ 0 → IsTrue (z.members found.0)
unfolding walk
walk_inside z os h (Page o a) index found stays e full = grind (arith, nat_tests, along_inside, if_found)
walk_inside z os h (Space o k a) index found stays e full =
    along_inside z os h (Space o k a) (path k index) found stays (if_found (nat_lt index (32 ^ k)) _ _ found e) full
walk_inside z os h c index found stays e full = cc

writable_inside : (z : Zone) (os : List Object) (p address page : ℕ) → IsClosedBut z.trusted os z.members → IsTrue (z.members p)
    → writable (reached os p address) ≡ Ok page → IsTrue (z.members page)
writable_inside z os p address page h in_p e = cases (reached os p address) refl e
  where
    full : (found : ℕ × Access) (b : Bool) → (found.1.0 == 0) ≡ b → reached os p address ≡ Ok found
        → (if b then Ok found.0 else Err ReadOnly) ≡ Ok page → IsTrue (z.members page)
    full found b is at e = grind (arith, nat_tests, walk_inside)

    cases : (r : Result (ℕ × Access) MemoryFault) → reached os p address ≡ r → writable r ≡ Ok page → IsTrue (z.members page)
    cases r at e = grind (arith, nat_tests, full)

-- ---- steps of the machine

-- a machine that is up with a sound world, and whose objects stayed within the set since they were `os`
record IsWithin (g : Geometry) (z : Zone) (os : List Object) (s : Running) : Type 0 where
  sound : IsSound g s.now
  stays : StaysWithin z os s.now.objects

-- a machine that is up is as `IsWithin` says; nothing is required of one that is down
abbrev MachineWithin : Geometry → Zone → List Object → Machine → Type 0
MachineWithin g z os (Up s) = IsWithin g z os s
MachineWithin g z os (Down saved) = Unit {0}

-- the outcome of an invocation with this effect; it stalls if there is none
abbrev invoked : Running → Option Effect → Outcome
invoked s found = elim found [
  | None ↦ outcome answer.Done s
  | Some effect ↦ outcome answer.Done (writing s effect.objects (s.now.age + 1) effect.written
      (renewing s.renewed s.now.objects effect.objects))
]

abbrev loaded : Running → ℕ → Result (ℕ × Access) MemoryFault → Outcome
loaded s address found = elim found [
  | Ok at ↦ outcome (answer.Value (word_at s.now.objects at.0 (address % 512))) s
  | Err why ↦ outcome (answer.MemoryFault why) s
]

abbrev written : Running → ℕ → ℕ → Result ℕ MemoryFault → Outcome
written s address value found = elim found [
  | Ok page ↦ outcome answer.Done (writing s (with_word s.now.objects page (address % 512) value) s.now.age (page ∷ []) s.renewed)
  | Err why ↦ outcome (answer.MemoryFault why) s
]

-- if a world is sound, it stays sound when a page gets another word
word_sound : (g : Geometry) (os : List Object) (age n i w : ℕ) → IsSound g (record { objects = os; age = age }) → w < 2 ^ 64
    → IsSound g (record { objects = with_word os n i w; age = age })
word_sound g os age n i w sound fits =
    let us = with_word os n i w in
    let e = edited_word g (Waits os) os n i w (nearly_from g (record { objects = os; age = age }) sound) fits in
    nearly_to g us age (nearly_weaken g (Waits os) (Waits us) us (λ q waits. subst (λ s. IsTrue (is_waiting s)) (sym (e.states q)) waits)
    e.sound) sound.age

load_keeps : (g : Geometry) (z : Zone) (os : List Object) (s : Running) (address : ℕ) (found : Result (ℕ × Access) MemoryFault)
    → IsWithin g z os s → IsWithin g z os (loaded s address found).after
load_keeps g z os s address found h = grind (arith, nat_tests)

store_keeps : (g : Geometry) (z : Zone) (os : List Object) (s : Running) (p address value : ℕ) (found : Result ℕ MemoryFault)
    → writable (reached s.now.objects p address) ≡ found → IsTrue (z.members p) → value < 2 ^ 64
    → IsWithin g z os s → IsWithin g z os (written s address value found).after
store_keeps g z os s p address value (Ok page) is in_p fits h =
    let now = s.now.objects in
    let us = with_word now page (address % 512) value in
    let in_page = writable_inside z now p address page h.stays.encloses.closed in_p is in
    record {
      sound = word_sound g now s.now.age page (address % 512) value h.sound fits;
      stays = stays_trans z os now us h.stays (stays_word z now page (address % 512) value h.stays.encloses in_page);
    }
store_keeps g z os s p address value (Err why) is in_p fits h = h

-- a turn whose line has a command by a member, or no command
abbrev IsTurnBy : (ℕ → Bool) → Turn → Type 0
IsTurnBy inside t = (l : Line) → Says t.line l → IsLineBy inside l

-- the answer is the refusal if there is one; else the command is carried out
abbrev IsAnswer : Geometry → Running → Command → Answer → Machine → Option Refusal → Type 0
IsAnswer g s c a after refused = elim refused [
  | Some why ↦ (a ≡ answer.Refused why) × (after ≡ Up s)
  | None ↦ (a ≡ (carried_out g s c).answer) × (after ≡ Up (carried_out g s c).after)
]

-- a machine that is down stays down under the commands of members
down_keeps : (g : Geometry) (z : Zone) (os : List Object) (saved : List Saved) (c : Command) (a : Answer) (after : Machine)
    → IsBy z.members c → Step g (Down saved) c a after → MachineWithin g z os after
down_keeps g z os saved c a after by is = grind (arith, nat_tests)

invocation_stays : (g : Geometry) (w : World) (i : Invocation) (e : Effect) (z : Zone) → IsSound g w → Fits (command.Invoke i)
    → IsTrue (is_running_process w.objects i.process) → Encloses z w.objects → IsTrue (z.members i.process) → invoke g w.objects i ≡ Some e
    → StaysWithin z w.objects e.objects
invocation_stays g w i e z sound fits runs h is done = search (arith, nat_tests, invoked_stays, nearly_from)

invoke_keeps : (g : Geometry) (z : Zone) (os : List Object) (s : Running) (i : Invocation) (found : Option Effect)
    → invoke g s.now.objects i ≡ found → Fits (command.Invoke i) → IsTrue (z.members i.process) →
    IsTrue (is_running_process s.now.objects i.process)
    → s.now.age < 2 ^ 62 → IsWithin g z os s → IsWithin g z os (invoked s found).after
invoke_keeps g z os s i None is fits in_p runs young h = h
invoke_keeps g z os s i (Some e) is fits in_p runs young h = record {
  sound = invocation_keeps g s.now i e h.sound fits runs young is;
  stays = stays_trans z os s.now.objects e.objects h.stays
      (invocation_stays g s.now i e z h.sound fits runs h.stays.encloses in_p is);
}

-- a command that isn't refused keeps the machine within the set
carried_keeps : (g : Geometry) (z : Zone) (os : List Object) (s : Running) (c : Command) → IsBy z.members c → Fits c →
    refusal_of g s c ≡ None → IsWithin g z os s → IsWithin g z os (carried_out g s c).after
unfolding carried_out refusal_of
carried_keeps g z os s (command.Invoke i) in_p fits e h =
    let first = unless_passes _ _ _ e in
    let second = unless_passes _ _ _ first.1 in
    let third = unless_passes _ _ _ second.1 in
    invoke_keeps g z os s i (invoke g s.now.objects i) refl fits in_p second.0 (ltb-true s.now.age (2 ^ 62) third.0) h
carried_keeps g z os s (command.Load p address) in_p fits e h = load_keeps g z os s address (reached s.now.objects p address) h
carried_keeps g z os s (command.Store p address value) in_p fits e h =
    store_keeps g z os s p address value (writable (reached s.now.objects p address)) refl in_p fits.2 h
carried_keeps g z os s c in_p fits e h = absurd in_p

answer_keeps : (g : Geometry) (z : Zone) (os : List Object) (s : Running) (c : Command) (a : Answer) (after : Machine) → IsBy z.members c →
    Fits c → IsWithin g z os s → Answers g s c a after → MachineWithin g z os after
answer_keeps g z os s c a after by fits h answers = cases (refusal_of g s c) refl answers
  where
    cases : (refused : Option Refusal) → refusal_of g s c ≡ refused → IsAnswer g s c a after refused → MachineWithin g z os after
    cases (Some why) is replying = subst (λ m. MachineWithin g z os m) (sym replying.1) h
    cases None is replying = subst (λ m. MachineWithin g z os m) (sym replying.1) (carried_keeps g z os s c by fits is h)

step_keeps : (g : Geometry) (z : Zone) (os : List Object) (m : Machine) (c : Command) (a : Answer) (after : Machine) → IsBy z.members c →
    Fits c → MachineWithin g z os m → Step g m c a after → MachineWithin g z os after
step_keeps g z os (Up s) c a after by fits h (inl answers) = answer_keeps g z os s c a after by fits h answers
step_keeps g z os (Up s) c a after by fits h (inr (inl wants)) = grind (arith, nat_tests)
step_keeps g z os (Up s) c a after by fits h (inr (inr fails)) = subst (λ m. MachineWithin g z os m) (sym fails.2) tt
step_keeps g z os (Down saved) c a after by fits h step = down_keeps g z os saved c a after by step

turn_keeps : (g : Geometry) (z : Zone) (os : List Object) (t : Turn) → IsTurnBy z.members t
    → MachineWithin g z os t.before → IsTurn g t → MachineWithin g z os t.after
turn_keeps g z os t by h turn = grind (arith, nat_tests, step_keeps)

turns_keep : (g : Geometry) (z : Zone) (os : List Object) (m : Machine) (turns : List Turn) (last : Machine) → AreBy z.members turns
    → MachineWithin g z os m → IsRun g m turns last → MachineWithin g z os last
turns_keep g z os m [] last by h run = subst (λ m. MachineWithin g z os m) (sym run) h
turns_keep g z os m (t ∷ ts) last by h run =
    turns_keep g z os t.after ts last (All-tail (IsTurnBy z.members) t ts by)
    (turn_keeps g z os t (All-head (IsTurnBy z.members) t ts by) (subst (λ m. MachineWithin g z os m) (sym run.0) h) run.1) run.2

-- ---- closed sets, and the numbers that may receive messages

-- the set with its trusted processes; messages may be received anywhere
abbrev anywhere : (ℕ → Bool) → (ℕ → Bool) → Zone
anywhere trusted inside = record { members = inside; trusted = trusted; ports = λ m. true }

abbrev apart_from : ℕ → (ℕ → Bool) → (ℕ → Bool) → Zone
apart_from n trusted inside = record { members = inside; trusted = trusted; ports = λ m. not (m == n) }

-- the set contains every free number
abbrev HasFree : List Object → (ℕ → Bool) → Type 0
HasFree os inside = (n : ℕ) → is_free (content_at os n) ≡ true → IsTrue (inside n)

encloses_anywhere : (os : List Object) (trusted inside : ℕ → Bool) → IsClosedBut trusted os inside → HasFree os inside
    → Encloses (anywhere trusted inside) os
encloses_anywhere os trusted inside closed free = record { closed = closed; free = free; receives = λ p trusts is. inr (refl, refl) }

differs : (m n : ℕ) → (n ≡ m → ⊥) → IsTrue (not (m == n))
differs m n apart = grind (arith, nat_tests)

same_false : (n : ℕ) → not (n == n) ≡ false
same_false n = grind (arith, nat_tests)

encloses_apart : (n : ℕ) (os : List Object) (trusted inside : ℕ → Bool) → IsClosedBut trusted os inside → HasFree os inside
    → (IsInbox trusted os n → ⊥) → Encloses (apart_from n trusted inside) os
encloses_apart n os trusted inside closed free apart = record {
  closed = closed;
  free = free;
  receives = λ p trusts is. inr (
    differs p n (λ e. apart (p, trusts, is, inl e)),
    differs (annex_at os p) n (λ e. apart (p, trusts, is, inr e)),
  );
}

-- if a set is closed, so is the set with all free numbers added
with_free_closed : (os : List Object) (trusted inside : ℕ → Bool) → IsClosedBut trusted os inside →
    IsClosedBut trusted os (with_free os inside)
with_free_closed os trusted inside h = grind (arith, nat_tests)

has_free : (os : List Object) (inside : ℕ → Bool) → HasFree os (with_free os inside)
has_free os inside n e = grind (arith, nat_tests)

-- the parameters: a set that is closed in a sound world, and the objects after some steps
module _ (g : Geometry) (os us : List Object) (age : ℕ) (trusted inside : ℕ → Bool) (sound : IsSound g (record { objects = os; age = age }))
    (closed : IsClosedBut trusted os inside) where
  both : IsClosedBut trusted os (with_free os inside)
  both = with_free_closed os trusted inside closed

  confined_by : ((z : Zone) → z.members ≡ with_free os inside → Encloses z os → StaysWithin z os us) → IsConfinedBut trusted inside os us
  confined_by h = record {
    closed =
        (h (anywhere trusted (with_free os inside)) refl
        (encloses_anywhere os trusted (with_free os inside) both (has_free os inside))).encloses.closed;
    kept = λ n out apart. kept_inside g os age inside n (object_at us n) sound
        ((h (apart_from n trusted (with_free os inside)) refl
        (encloses_apart n os trusted (with_free os inside) both (has_free os inside) apart)).kept n out (same_false n));
  }

inside_free : (os : List Object) (inside : ℕ → Bool) (n : ℕ) → IsTrue (inside n) → IsTrue (with_free os inside n)
inside_free os inside n is = grind (arith, nat_tests)

-- the law about an invocation
pub invocation_confined : InvocationIsConfinedBut
invocation_confined g w i e trusted inside sound fits runs closed is done =
    confined_by g w.objects e.objects w.age trusted inside sound closed (λ z same h.
    invocation_stays g w i e z sound fits runs h
    (subst (λ (m : ℕ → Bool). IsTrue (m i.process)) (sym same) (inside_free w.objects inside i.process is)) done)

run_within : (g : Geometry) (z : Zone) (s t : Running) (turns : List Turn) → IsSound g s.now → Encloses z s.now.objects
    → IsRun g (Up s) turns (Up t) → AreBy z.members turns → IsWithin g z s.now.objects t
run_within g z s t turns sound h run by =
    turns_keep g z s.now.objects (Up s) turns (Up t) by (record { sound = sound; stays = stays_refl z s.now.objects h }) run

-- the law about a run: the authority bound
pub run_confined : RunIsConfinedBut
run_confined g trusted inside s t turns sound closed run by =
    confined_by g s.now.objects t.now.objects s.now.age trusted inside sound closed (λ z same h.
    (run_within g z s t turns sound h run (subst (λ m. AreBy m turns) (sym same) by)).stays)

run_sound : (g : Geometry) (trusted inside : ℕ → Bool) (s t : Running) (turns : List Turn) → IsSound g s.now →
    IsClosedBut trusted s.now.objects inside → IsRun g (Up s) turns (Up t) → AreBy (with_free s.now.objects inside) turns → IsSound g t.now
run_sound g trusted inside s t turns sound closed run by =
    let os = s.now.objects in
    let all = with_free os inside in
    (run_within g (anywhere trusted all) s t turns sound
    (encloses_anywhere os trusted all (with_free_closed os trusted inside closed) (has_free os inside)) run by).sound

-- ---- removing the free numbers from the set again

live_stays : (os : List Object) (trusted inside : ℕ → Bool) (c : Capability) → NamesItsKind os c → StaysBut trusted inside c
    → StaysBut trusted (λ n. inside n && not (is_free (content_at os n))) c
live_stays os trusted inside c names stays = grind (arith, nat_tests)

live_annex : (os : List Object) (inside : ℕ → Bool) (n : ℕ) → IsTrue (inside n) → IsTrue (is_annex (content_at os n))
    → IsTrue (inside n && not (is_free (content_at os n)))
live_annex os inside n is annex = grind (arith, nat_tests)

live_member : (os : List Object) (inside : ℕ → Bool) (n : ℕ) → IsTrue (inside n && not (is_free (content_at os n))) → IsTrue (inside n)
live_member os inside n is = grind (arith, nat_tests)

live_owned : (os : List Object) (inside : ℕ → Bool) (n : ℕ) → IsTrue (inside n) → is_free (content_at os n) ≡ false
    → IsTrue (inside n && not (is_free (content_at os n)))
live_owned os inside n is used = grind (arith, nat_tests)

live_closed : (g : Geometry) (w : World) (trusted inside : ℕ → Bool) → IsSound g w → IsClosedBut trusted w.objects inside
    → IsClosedBut trusted w.objects (λ n. inside n && not (is_free (content_at w.objects n)))
live_closed g w trusted inside sound h =
    let os = w.objects in
    record {
      annexes = λ p is root.
          live_annex os inside (annex_at os p) (h.annexes p (live_member os inside p is) root) (sound.annexes p root).0;
      owned = λ b n is bank used own. live_owned os inside n (h.owned b n (live_member os inside b is) bank used own) used;
      slots = λ n i is. live_stays os trusted inside (slot_at os n i) (sound.slots n i).1 (h.slots n i (live_member os inside n is));
      spaces = λ p is. live_stays os trusted inside (root_at os p).space (sound.spaces p).0.1 (h.spaces p (live_member os inside p is));
    }

-- ---- stretches of a run

-- the turns of a stretch are by members; or others leave the world sound and the set closed
abbrev IsAllowed : Geometry → (ℕ → Bool) → (ℕ → Bool) → Running → Stretch → Bool → Type 0
IsAllowed g trusted inside s x b = elim b [
  | true ↦ AreBy (with_free s.now.objects inside) x.turns
  | false ↦ IsSound g x.last.now × IsClosedBut trusted x.last.now.objects (members_after s inside x)
]

stretch_confined : (g : Geometry) (trusted inside : ℕ → Bool) (s : Running) (x : Stretch) → IsSound g s.now
    → IsClosedBut trusted s.now.objects inside → IsStretch g trusted s inside x
    → (IsTrue x.by_members → IsConfinedBut trusted inside s.now.objects x.last.now.objects)
    × IsSound g x.last.now × IsClosedBut trusted x.last.now.objects (members_after s inside x)
stretch_confined g trusted inside s x sound closed stretch = go x.by_members refl stretch.1
  where
    after : Bool → ℕ → Bool
    after b n = (inside n || (b && is_free (content_at s.now.objects n))) && not (is_free (content_at x.last.now.objects n))

    go : (b : Bool) → x.by_members ≡ b → IsAllowed g trusted inside s x b
        → (IsTrue x.by_members → IsConfinedBut trusted inside s.now.objects x.last.now.objects)
        × IsSound g x.last.now × IsClosedBut trusted x.last.now.objects (members_after s inside x)
    go true e by =
        let confined = run_confined g trusted inside s x.last x.turns sound closed stretch.0 by in
        let there = run_sound g trusted inside s x.last x.turns sound closed stretch.0 by in (
          (λ _. confined),
          there,
          subst (λ b. IsClosedBut trusted x.last.now.objects (after b)) (sym e)
              (live_closed g x.last.now trusted (with_free s.now.objects inside) there confined.closed),
        )
    go false e by = ((λ acts. absurd (let both : false ≡ true = sym e ∙ acts in cc)), by.0, by.1)

pub turns_confined : TurnsAreConfinedBut
turns_confined g trusted inside s [] sound closed are = tt
turns_confined g trusted inside s (x ∷ xs) sound closed are =
    let first = stretch_confined g trusted inside s x sound closed are.0 in
    (first.0, turns_confined g trusted (members_after s inside x) x.last xs first.1 first.2 are.1)
