-- Two runs with the same lines by members of a set that is closed for reading.
use Rattle.noninterference.proofs.Names.{nat_tests, inl, inr, ℕ, Bool, true, false, not, Option, None, Some, Result, Ok, Err, List, [], map, refl, sym, ap}
use Rattle.noninterference.proofs.Names.{subst, arith, IsTrue, nat_lt, slice_index, slice_index_or, All, All-head, All-tail, ltb-true}
use Rattle.noninterference.proofs.Names.{Access, Answer, MemoryFault, ReadOnly, Refusal, Capability, Void, Page, Space, Command, Invocation, Geometry}
use Rattle.noninterference.proofs.Names.{Line, Object, Effect, invoke, Machine, Saved, Up, Down, renewing, is_waiting, is_running, words_in, slots_in, root_in}
use Rattle.noninterference.proofs.Names.{IsRun, IsTurn, Turn, Replies, Reported, IsSound, Answers, Outcome, Step, carried_out, outcome, reached, refusal_of}
use Rattle.noninterference.proofs.Names.{writable, writing, Fits, Says, below, path, walk, walk_along, is_process, is_running_process, object_at}
use Rattle.noninterference.proofs.Names.{register_at, root_at, slot_at, with_word, word_at, AreBy, IsBy, IsLineBy, HaveSame, NamesBut, IsReadClosedBut}
use Rattle.noninterference.proofs.Names.{AreSameInside, HasRoom, LooksInside, looks_outside, RunsAreNoninterferent, InvocationIsNoninterferent, AreAlike}
use Rattle.noninterference.proofs.Names.{edited_word, invocation_keeps, Waits, nearly_from, nearly_to, nearly_weaken, unless, overfills, says_one}
use Rattle.noninterference.proofs.Names.{is_root, takes_memory, gives_way, Reply, World, get_or, drop, Beyond}
use Rattle.std.proofs.Common.{◌≡◌, ◌⊎◌, ◌+◌, ◌/◌, ◌%◌, ◌^◌, ◌==◌, ◌<◌, ◌&&◌, if◌then◌else◌, ◌∷◌, ◌∙◌}
use Rattle.model.specs.Machine.{Running}
use Rattle.model.specs.declared.answer.Answer.TheVariants as answer
use Rattle.model.specs.declared.answer.Refusal.TheVariants as refusal
use Rattle.model.specs.declared.command.Command.TheVariants as command
use Rattle.model.specs.declared.line.Line.TheVariants as line
use Rattle.noninterference.proofs.ReadEdits.{Link, link_word}
use Rattle.noninterference.proofs.ReadGates.{EffectsLink, invoked_link}
use Rattle.noninterference.proofs.ReadOrders.{member}

-- ---- the page that an address reaches

module _ (trusted inside : ℕ → Bool) (os us : List Object) (h : Link trusted inside os us) where
  slot_same : (o i : ℕ) → IsTrue (inside o) → slot_at us o i ≡ slot_at os o i
  slot_same o i in_o = ap (λ (x : Object). slice_index_or (slots_in x.content) i Void) (h.same o in_o)

  along_same : (c : Capability) (slots : List ℕ) → NamesBut trusted inside c → walk_along us c slots ≡ walk_along os c slots
  along_same (Space o k a) (slot ∷ slots) stays =
      let in_o = member trusted inside os us h o stays in
      ap (λ d. below k a d (walk_along us d slots)) (slot_same o slot in_o)
      ∙ ap (λ r. below k a (slot_at os o slot) r) (along_same (slot_at os o slot) slots (h.left.slots o slot in_o))
  along_same (Space o k a) [] stays = refl
  along_same (Page o a) [] stays = refl
  along_same (Page o a) (slot ∷ slots) stays = refl
  along_same c slots stays = refl

  walk_same : (c : Capability) (index : ℕ) → NamesBut trusted inside c → walk us c index ≡ walk os c index
  unfolding walk
  walk_same (Space o k a) index stays =
      ap (λ r. if nat_lt index (32 ^ k) then r else Err beyond) (along_same (Space o k a) (path k index) stays)
    where
      beyond : MemoryFault
      beyond = Beyond
  walk_same c index stays = refl

  -- a page that is found below a space is found from one of its slots
  below_ok : (height : ℕ) (a : Access) (c : Capability) (rest : Result (ℕ × Access) MemoryFault) (found : ℕ × Access)
      → below height a c rest ≡ Ok found → (next : ℕ × Access) × (rest ≡ Ok next) × (found.0 ≡ next.0)
  below_ok height a c rest found is = grind (arith, nat_tests)

  along_inside : (c : Capability) (slots : List ℕ) (found : ℕ × Access) → NamesBut trusted inside c → walk_along os c slots ≡ Ok found
      → IsTrue (inside found.0)
  along_inside (Page o a) [] found stays e = grind (arith, nat_tests)
  along_inside (Space o k a) (slot ∷ slots) found stays e =
      let c = slot_at os o slot in
      let b = below_ok k a c (walk_along os c slots) found e in
      subst (λ n. IsTrue (inside n)) (sym b.2)
      (along_inside c slots b.0 (h.left.slots o slot (member trusted inside os us h o stays)) b.1)
  along_inside c slots found stays e = cc

  -- if a result guarded by a test is a page, the result without the test is that page
  if_found : (b : Bool) (r : Result (ℕ × Access) MemoryFault) (why : MemoryFault) (found : ℕ × Access) →
      (if b then r else Err why) ≡ Ok found → r ≡ Ok found
  if_found b r why found e = grind (arith, nat_tests)

  walk_inside : (c : Capability) (index : ℕ) (found : ℕ × Access) → NamesBut trusted inside c → walk os c index ≡ Ok found →
      IsTrue (inside found.0)
  unfolding walk
  walk_inside (Page o a) index found stays e = grind (arith, nat_tests, along_inside, if_found)
  walk_inside (Space o k a) index found stays e =
      along_inside (Space o k a) (path k index) found stays (if_found (nat_lt index (32 ^ k)) _ _ found e)
  walk_inside c index found stays e = cc

  reached_same : (p address : ℕ) → IsTrue (inside p) → reached us p address ≡ reached os p address
  reached_same p address in_p =
      ap (λ (x : Object). walk us (root_in x.content).space (address / 512)) (h.same p in_p)
      ∙ walk_same (root_at os p).space (address / 512) (h.left.spaces p in_p)

  reached_inside : (p address : ℕ) (found : ℕ × Access) → IsTrue (inside p) → reached os p address ≡ Ok found → IsTrue (inside found.0)
  reached_inside p address found in_p e = walk_inside (root_at os p).space (address / 512) found (h.left.spaces p in_p) e

  writable_inside : (p address page : ℕ) → IsTrue (inside p) → writable (reached os p address) ≡ Ok page → IsTrue (inside page)
  writable_inside p address page in_p e = go (reached os p address) refl e
    where
      chosen : (found : ℕ × Access) (b : Bool) → reached os p address ≡ Ok found → (if b then Ok found.0 else Err ReadOnly) ≡ Ok page →
          IsTrue (inside page)
      chosen found true at e =
          let same : found.0 ≡ page = cc in
          subst (λ n. IsTrue (inside n)) same (reached_inside p address found in_p at)
      chosen found false at e = cc

      go : (r : Result (ℕ × Access) MemoryFault) → reached os p address ≡ r → writable r ≡ Ok page → IsTrue (inside page)
      go (Ok found) at e = chosen found (found.1.0 == 0) at e
      go (Err why) at e = cc

-- two machines that are up, with linked sound worlds
record IsLinked (g : Geometry) (trusted inside : ℕ → Bool) (s q : Running) : Type 0 where
  left : IsSound g s.now
  right : IsSound g q.now
  link : Link trusted inside s.now.objects q.now.objects

abbrev AreLinked : Geometry → (ℕ → Bool) → (ℕ → Bool) → Machine → Machine → Type 0
AreLinked g trusted inside m n = (s q : Running) × (m ≡ Up s) × (n ≡ Up q) × IsLinked g trusted inside s q

-- the answer is the refusal if there is one; else the command has this outcome
abbrev AnswerBy : Running → Answer → Machine → Option Refusal → Outcome → Type 0
AnswerBy s a after refused o = elim refused [
  | Some why ↦ (a ≡ answer.Refused why) × (after ≡ Up s)
  | None ↦ (a ≡ o.answer) × (after ≡ Up o.after)
]

abbrev HasRoomIn : Answer → Type 0
HasRoomIn a = (a ≡ answer.Refused refusal.Worn → ⊥) × (a ≡ answer.Refused refusal.LogFull → ⊥)

-- the answers are equal, and the machines linked
abbrev AreSame : Geometry → (ℕ → Bool) → (ℕ → Bool) → Answer → Answer → Machine → Machine → Type 0
AreSame g trusted inside a b m n = (b ≡ a) × AreLinked g trusted inside m n

-- the outcome of an invocation with this effect; it stalls if there is none
abbrev invoked : Running → Option Effect → Outcome
invoked s found = elim found [
  | None ↦ outcome answer.Done s
  | Some effect ↦ outcome answer.Done (writing s effect.objects (s.now.age + 1) effect.written
      (renewing s.renewed s.now.objects effect.objects))
]

abbrev loaded : Running → ℕ → Result (ℕ × Access) MemoryFault → Outcome
loaded s address found = elim found [
  | Ok at ↦ outcome (answer.Value (word_at s.now.objects at.0 (address % 512))) s
  | Err why ↦ outcome (answer.MemoryFault why) s
]

abbrev written : Running → ℕ → ℕ → Result ℕ MemoryFault → Outcome
written s address value found = elim found [
  | Ok page ↦ outcome answer.Done (writing s (with_word s.now.objects page (address % 512) value) s.now.age (page ∷ []) s.renewed)
  | Err why ↦ outcome (answer.MemoryFault why) s
]

-- if a world is sound, it stays sound when a page gets another word
word_sound : (g : Geometry) (os : List Object) (age n i w : ℕ) → IsSound g (record { objects = os; age = age }) → w < 2 ^ 64
    → IsSound g (record { objects = with_word os n i w; age = age })
word_sound g os age n i w sound fits =
    let us = with_word os n i w in
    let e = edited_word g (Waits os) os n i w (nearly_from g (record { objects = os; age = age }) sound) fits in
    nearly_to g us age (nearly_weaken g (Waits os) (Waits us) us (λ q waits. subst (λ s. IsTrue (is_waiting s)) (sym (e.states q)) waits)
    e.sound) sound.age

module _ (g : Geometry) (trusted inside : ℕ → Bool) (s q : Running) (h : IsLinked g trusted inside s q) (a b : Answer) (m n : Machine) where
  abbrev Same : Type 0
  Same = AreSame g trusted inside a b m n

  -- two commands that are refused for the same reason have the same answer
  refused_alike : (why : Refusal) → (a ≡ answer.Refused why) × (m ≡ Up s) → (b ≡ answer.Refused why) × (n ≡ Up q) → Same
  refused_alike why first second = (second.0 ∙ sym first.0, (s, q, first.1, second.1, h))

  -- two commands with equal answers and linked machines afterwards are alike
  carried_alike : (o p : Outcome) → (a ≡ o.answer) × (m ≡ Up o.after) → (b ≡ p.answer) × (n ≡ Up p.after) → p.answer ≡ o.answer
      → IsLinked g trusted inside o.after p.after → Same
  carried_alike o p first second same linked =
      (second.0 ∙ same ∙ sym first.0, (o.after, p.after, first.1, second.1, linked))

  -- two commands are alike if they are alike for a process that runs; if it doesn't run, both are refused
  running_alike : (root runs : Bool) (next after : Option Refusal) (o p : Outcome)
      → (runs ≡ true → AnswerBy s a m next o → AnswerBy q b n after p → Same)
      → AnswerBy s a m (unless root refusal.NoProcess (unless runs refusal.NotRunning next)) o
      → AnswerBy q b n (unless root refusal.NoProcess (unless runs refusal.NotRunning after)) p → Same
  running_alike false runs next after o p go first second = refused_alike refusal.NoProcess first second
  running_alike true false next after o p go first second = refused_alike refusal.NotRunning first second
  running_alike true true next after o p go first second = go refl first second

  -- why an invocation by a running process is refused: worn, stalled or a full log
  abbrev effect_refusal : Bool → Option Effect → (Effect → Bool) → Option Refusal
  effect_refusal young found fits =
      unless young refusal.Worn (elim found [ None ↦ Some refusal.Stalled | Some e ↦ unless (fits e) refusal.LogFull None ])

  module _ (room : HasRoomIn a) (rooms : HasRoomIn b) where
    effects_alike : (young youth : Bool) (found other : Option Effect) (fits fit : Effect → Bool) → EffectsLink trusted inside found other
        → ((e : Effect) → found ≡ Some e → young ≡ true → IsSound g (record { objects = e.objects; age = s.now.age + 1 }))
        → ((e : Effect) → other ≡ Some e → youth ≡ true → IsSound g (record { objects = e.objects; age = q.now.age + 1 }))
        → AnswerBy s a m (effect_refusal young found fits) (invoked s found) →
        AnswerBy q b n (effect_refusal youth other fit) (invoked q other) → Same
    effects_alike false youth found other fits fit linked sound sounds first second = absurd (room.0 first.0)
    effects_alike true false found other fits fit linked sound sounds first second = absurd (rooms.0 second.0)
    effects_alike true true None None fits fit linked sound sounds first second = refused_alike refusal.Stalled first second
    effects_alike true true None (Some f) fits fit linked sound sounds first second = absurd linked
    effects_alike true true (Some e) None fits fit linked sound sounds first second = absurd linked
    effects_alike true true (Some e) (Some f) fits fit linked sound sounds first second = go (fits e) (fit f) first second
      where
        go : (x y : Bool) → AnswerBy s a m (unless x refusal.LogFull None) (invoked s (Some e))
            → AnswerBy q b n (unless y refusal.LogFull None) (invoked q (Some f)) → Same
        go false y first second = absurd (room.1 first.0)
        go true false first second = absurd (rooms.1 second.0)
        go true true first second = carried_alike (invoked s (Some e)) (invoked q (Some f)) first second refl
            (record { left = sound e refl refl; right = sounds f refl refl; link = linked.1 })

    stores_alike : (address value : ℕ) (found : Result ℕ MemoryFault) (fits fit : ℕ → Bool) → value < 2 ^ 64
        → ((page : ℕ) → found ≡ Ok page → IsTrue (inside page))
        → AnswerBy s a m (elim found [ Ok page ↦ unless (fits page) refusal.LogFull None | Err why ↦ None ]) (written s address value found)
        → AnswerBy q b n (elim found [ Ok page ↦ unless (fit page) refusal.LogFull None | Err why ↦ None ]) (written q address value found)
        → Same
    stores_alike address value (Err why) fits fit small within first second =
        carried_alike (written s address value (Err why)) (written q address value (Err why)) first second refl h
    stores_alike address value (Ok page) fits fit small within first second = go (fits page) (fit page) first second
      where
        go : (x y : Bool) → AnswerBy s a m (unless x refusal.LogFull None) (written s address value (Ok page))
            → AnswerBy q b n (unless y refusal.LogFull None) (written q address value (Ok page)) → Same
        go false y first second = absurd (room.1 first.0)
        go true false first second = absurd (rooms.1 second.0)
        go true true first second = carried_alike (written s address value (Ok page)) (written q address value (Ok page)) first second refl
            (record {
              left = word_sound g s.now.objects s.now.age page (address % 512) value h.left small;
              right = word_sound g q.now.objects q.now.age page (address % 512) value h.right small;
              link = link_word trusted inside s.now.objects q.now.objects page h.link (within page refl) (address % 512) value;
            })

  loads_alike : (address : ℕ) (found : Result (ℕ × Access) MemoryFault) → ((at : ℕ × Access) → found ≡ Ok at → IsTrue (inside at.0))
      → AnswerBy s a m None (loaded s address found) → AnswerBy q b n None (loaded q address found) → Same
  loads_alike address (Err why) within first second = carried_alike (loaded s address (Err why)) (loaded q address (Err why)) first second
      refl h
  loads_alike address (Ok at) within first second = carried_alike (loaded s address (Ok at)) (loaded q address (Ok at)) first second
      (ap (λ (x : Object). answer.Value (slice_index (words_in x.content) (address % 512))) (h.link.same at.0 (within at refl))) h

-- whether an object is the root of a running process
abbrev is_running_object : Object → Bool
is_running_object o = is_root o.content && is_running (root_in o.content).state

-- ---- the answer to a member's command

module _ (g : Geometry) (trusted inside : ℕ → Bool) (s q : Running) (h : IsLinked g trusted inside s q) (a b : Answer) (m n : Machine)
    (room : HasRoomIn a) (rooms : HasRoomIn b) where
  -- a member process passes the same tests in both machines
  tests_alike : (p : ℕ) → IsTrue (inside p) → (next : Option Refusal) (o : Outcome)
      → AnswerBy q b n (unless (is_process q.now.objects p) refusal.NoProcess
      (unless (is_running_process q.now.objects p) refusal.NotRunning next)) o
      → AnswerBy q b n (unless (is_process s.now.objects p) refusal.NoProcess
      (unless (is_running_process s.now.objects p) refusal.NotRunning next)) o
  tests_alike p in_p next o second =
      subst (λ (x : Object). AnswerBy q b n (unless (is_root x.content) refusal.NoProcess
      (unless (is_running_object x) refusal.NotRunning next)) o)
      (h.link.same p in_p) second

  invocations_alike : (i : Invocation) → IsTrue (inside i.process) → Fits (command.Invoke i)
      → looks_outside inside (register_at s.now.objects i.process i.register) (slice_index i.words 0) ≡ false
      → Answers g s (command.Invoke i) a m → Answers g q (command.Invoke i) b n → AreSame g trusted inside a b m n
  unfolding refusal_of carried_out
  invocations_alike i in_p fits looks first second =
      running_alike g trusted inside s q h a b m n (is_process s.now.objects i.process) (is_running_process s.now.objects i.process) _ _
      (invoked s (invoke g s.now.objects i)) (invoked q (invoke g q.now.objects i))
      (λ runs one other.
      let runs_there : IsTrue (is_running_process q.now.objects i.process) =
      ap (λ (x : Object). is_running_object x) (h.link.same i.process in_p) ∙ runs in
      effects_alike g trusted inside s q h a b m n room rooms (nat_lt s.now.age (2 ^ 62)) (nat_lt q.now.age (2 ^ 62))
      (invoke g s.now.objects i)
      (invoke g q.now.objects i) (λ e. not (overfills g s.touched e.written)) (λ e. not (overfills g q.touched e.written))
      (invoked_link g trusted inside s.now.objects q.now.objects h.link (nearly_from g s.now h.left) (nearly_from g q.now h.right) i in_p
      runs looks)
      (λ e done young. invocation_keeps g s.now i e h.left fits runs (ltb-true s.now.age (2 ^ 62) young) done)
      (λ e done young. invocation_keeps g q.now i e h.right fits runs_there (ltb-true q.now.age (2 ^ 62) young) done)
      one other)
      first (tests_alike i.process in_p _ (invoked q (invoke g q.now.objects i)) second)

  loads_same : (p address : ℕ) → IsTrue (inside p) → Answers g s (command.Load p address) a m → Answers g q (command.Load p address) b n
      → AreSame g trusted inside a b m n
  unfolding refusal_of carried_out
  loads_same p address in_p first second =
      let found = reached s.now.objects p address in
      running_alike g trusted inside s q h a b m n (is_process s.now.objects p) (is_running_process s.now.objects p) None None
      (loaded s address found) (loaded q address found)
      (λ runs one other.
      loads_alike g trusted inside s q h a b m n address found
      (λ at e. reached_inside trusted inside s.now.objects q.now.objects h.link p address at in_p e) one other)
      first (tests_alike p in_p None (loaded q address found)
      (subst (λ r. AnswerBy q b n (unless (is_process q.now.objects p) refusal.NoProcess
      (unless (is_running_process q.now.objects p) refusal.NotRunning None))
      (loaded q address r)) (reached_same trusted inside s.now.objects q.now.objects h.link p address in_p) second))

  -- why a store by a running process is refused: a full log
  abbrev store_refusal : Running → Result ℕ MemoryFault → Option Refusal
  store_refusal x found = elim found [ Ok page ↦ unless (not (overfills g x.touched (page ∷ []))) refusal.LogFull None | Err why ↦ None ]

  stores_same : (p address value : ℕ) → IsTrue (inside p) → value < 2 ^ 64 → Answers g s (command.Store p address value) a m
      → Answers g q (command.Store p address value) b n → AreSame g trusted inside a b m n
  unfolding refusal_of carried_out
  stores_same p address value in_p small first second =
      let found = writable (reached s.now.objects p address) in
      running_alike g trusted inside s q h a b m n (is_process s.now.objects p) (is_running_process s.now.objects p) (store_refusal s found)
      (store_refusal q found) (written s address value found) (written q address value found)
      (λ runs one other.
      stores_alike g trusted inside s q h a b m n room rooms address value found (λ page. not (overfills g s.touched (page ∷ [])))
      (λ page. not (overfills g q.touched (page ∷ []))) small
      (λ page e. writable_inside trusted inside s.now.objects q.now.objects h.link p address page in_p e) one other)
      first (tests_alike p in_p (store_refusal q found) (written q address value found)
      (subst (λ r. AnswerBy q b n
      (unless (is_process q.now.objects p) refusal.NoProcess (unless (is_running_process q.now.objects p) refusal.NotRunning
      (store_refusal q (writable r))))
      (written q address value (writable r))) (reached_same trusted inside s.now.objects q.now.objects h.link p address in_p) second))

-- the command's invocation doesn't look outside the set
abbrev LooksIn : (ℕ → Bool) → Running → Command → Type 0
LooksIn inside s (command.Invoke i) = looks_outside inside (register_at s.now.objects i.process i.register) (slice_index i.words 0) ≡ false
LooksIn inside s _ = Unit {0}

answers_alike : (g : Geometry) (trusted inside : ℕ → Bool) (s q : Running) → IsLinked g trusted inside s q →
    (c : Command) (a b : Answer) (m n : Machine) → HasRoomIn a → HasRoomIn b → IsBy inside c → Fits c → LooksIn inside s c →
    Answers g s c a m → Answers g q c b n → AreSame g trusted inside a b m n
answers_alike g trusted inside s q h (command.Invoke i) a b m n room rooms by fits looks first second =
    invocations_alike g trusted inside s q h a b m n room rooms i by fits looks first second
answers_alike g trusted inside s q h (command.Load p address) a b m n room rooms by fits looks first second =
    loads_same g trusted inside s q h a b m n room rooms p address by first second
answers_alike g trusted inside s q h (command.Store p address value) a b m n room rooms by fits looks first second =
    stores_same g trusted inside s q h a b m n room rooms p address value by fits.2 first second
answers_alike g trusted inside s q h c a b m n room rooms by fits looks first second = absurd by

-- ---- a machine that is down stays down

abbrev IsDown : Machine → Type 0
IsDown (Up s) = ⊥
IsDown (Down saved) = Unit {0}

is_down : (m : Machine) (saved : List Saved) → m ≡ Down saved → IsDown m
is_down m saved e = subst IsDown (sym e) tt

-- a step either has the machine's answer, or takes it down
step_cases : (g : Geometry) (inside : ℕ → Bool) (s : Running) (c : Command) (a : Answer) (m : Machine) → IsBy inside c → Step g (Up s) c a m
    → Answers g s c a m ⊎ IsDown m
step_cases g inside s c a m by (inl answers) = inl answers
step_cases g inside s c a m by (inr (inl wants)) = absurd (wanting c by wants.0)
  where
    wanting : (c : Command) → IsBy inside c → IsTrue (takes_memory c && gives_way (refusal_of g s c)) → ⊥
    wanting (command.Invoke i) by e = cc
    wanting (command.Load p address) by e = cc
    wanting (command.Store p address value) by e = cc
    wanting c by e = by
step_cases g inside s c a m by (inr (inr fails)) = inr (is_down m _ fails.2)

down_step : (g : Geometry) (inside : ℕ → Bool) (saved : List Saved) (c : Command) (a : Answer) (m : Machine) → IsBy inside c
    → Step g (Down saved) c a m → IsDown m
down_step g inside saved c a m by step = grind (arith, nat_tests)

down_reply : (g : Geometry) (inside : ℕ → Bool) (l : Line) (m : Machine) (reply : Reply) (after : Machine) → IsDown m → IsLineBy inside l
    → Replies g l m reply after → IsDown after
down_reply g inside line.Skip m reply after down by replies = subst IsDown (sym replies.1) down
down_reply g inside line.Bad m reply after down by replies = subst IsDown (sym replies.1) down
down_reply g inside (line.Command c) (Up s) reply after down by replies = absurd down
down_reply g inside (line.Command c) (Down saved) reply after down by replies = down_step g inside saved c replies.0 after by replies.2

-- a turn whose line has a command by a member, or no command
abbrev IsTurnBy : (ℕ → Bool) → Turn → Type 0
IsTurnBy inside t = (l : Line) → Says t.line l → IsLineBy inside l

abbrev EachBy : (ℕ → Bool) → List Turn → Type 0
EachBy inside [] = Unit {0}
EachBy inside (t ∷ ts) = IsTurnBy inside t × EachBy inside ts

each_by : (inside : ℕ → Bool) (ts : List Turn) → AreBy inside ts → EachBy inside ts
each_by inside [] by = tt
each_by inside (t ∷ ts) by = (All-head (IsTurnBy inside) t ts by, each_by inside ts (All-tail (IsTurnBy inside) t ts by))

down_run : (g : Geometry) (inside : ℕ → Bool) (m : Machine) (turns : List Turn) (last : Machine) → IsDown m → EachBy inside turns →
    IsRun g m turns last → IsDown last
down_run g inside m [] last down by run = subst IsDown (sym run) down
down_run g inside m (t ∷ ts) last down by run =
    let turn = run.1 in
    down_run g inside t.after ts last
    (down_reply g inside turn.0 t.before t.reply t.after (subst IsDown (sym run.0) down) (by.0 turn.0 turn.1) turn.2) by.1 run.2

-- ---- equal lines have equal answers

abbrev lines : List Turn → List (List ℕ)
lines ts = map (λ t. t.line) ts

abbrev replies : List Turn → List Reply
replies ts = map (λ t. t.reply) ts

same_first : (x y : Turn) (xs ys : List Turn) → lines (y ∷ ys) ≡ lines (x ∷ xs) → y.line ≡ x.line
same_first x y xs ys e = ap (λ ls. get_or ls 0 []) e

same_rest : (x y : Turn) (xs ys : List Turn) → lines (y ∷ ys) ≡ lines (x ∷ xs) → lines ys ≡ lines xs
same_rest x y xs ys e = ap (λ ls. drop 1 ls) e

by_too : (inside : ℕ → Bool) (turns others : List Turn) → lines others ≡ lines turns → EachBy inside turns → EachBy inside others
by_too inside [] [] e by = tt
by_too inside [] (y ∷ ys) e by = cc
by_too inside (x ∷ xs) [] e by = cc
by_too inside (x ∷ xs) (y ∷ ys) e by = (
  λ l says. by.0 l (subst (λ text. Says text l) (same_first x y xs ys e) says),
  by_too inside xs ys (same_rest x y xs ys e) by.1,
)

-- ---- what a line with a command means

abbrev FitsLine : Line → Type 0
FitsLine (line.Command c) = Fits c
FitsLine _ = Unit {0}

abbrev LooksLine : (ℕ → Bool) → Running → Line → Type 0
LooksLine inside s (line.Command c) = LooksIn inside s c
LooksLine inside s _ = Unit {0}

fits_line : (text : List ℕ) (l : Line) → Says text l → FitsLine l
fits_line text (line.Command c) says = says.0
fits_line text line.Skip says = tt
fits_line text line.Bad says = tt

looks_line : (inside : ℕ → Bool) (t : Turn) (s : Running) (l : Line) → LooksInside inside t → t.before ≡ Up s → Says t.line l →
    LooksLine inside s l
looks_line inside t s (line.Command (command.Invoke i)) looks before says = looks s i before says
looks_line inside t s (line.Command c) looks before says = tt
looks_line inside t s line.Skip looks before says = tt
looks_line inside t s line.Bad looks before says = tt

abbrev HasRoomFor : Reply → Type 0
HasRoomFor x = (x ≡ Reported (answer.Refused refusal.Worn) → ⊥) × (x ≡ Reported (answer.Refused refusal.LogFull) → ⊥)

room_in : (x : Reply) (a : Answer) → HasRoomFor x → x ≡ Reported a → HasRoomIn a
room_in x a room e = ((λ worn. room.0 (e ∙ ap (λ k. Reported k) worn)), (λ full. room.1 (e ∙ ap (λ k. Reported k) full)))

module _ (g : Geometry) (trusted inside : ℕ → Bool) where
  replies_alike : (l : Line) (s q : Running) → IsLinked g trusted inside s q → (x y : Reply) (m n : Machine) → HasRoomFor x → HasRoomFor y
      → IsLineBy inside l → FitsLine l → LooksLine inside s l → Replies g l (Up s) x m → Replies g l (Up q) y n
      → (IsDown m → ⊥) → (IsDown n → ⊥) → (y ≡ x) × AreLinked g trusted inside m n
  replies_alike line.Skip s q h x y m n room rooms by fits looks first second up above =
      (second.0 ∙ sym first.0, (s, q, first.1, second.1, h))
  replies_alike line.Bad s q h x y m n room rooms by fits looks first second up above =
      (second.0 ∙ sym first.0, (s, q, first.1, second.1, h))
  replies_alike (line.Command c) s q h x y m n room rooms by fits looks first second up above =
      elim (step_cases g inside s c first.0 m by first.2) [
        | inr down ↦ absurd (up down)
        | inl one ↦ elim (step_cases g inside q c second.0 n by second.2) [
          | inr down ↦ absurd (above down)
          | inl other ↦
              let same = answers_alike g trusted inside s q h c first.0 second.0 m n (room_in x first.0 room first.1)
              (room_in y second.0 rooms second.1)
              by fits looks one other in
              (second.1 ∙ ap (λ k. Reported k) same.0 ∙ sym first.1, same.1)
        ]
      ]

  turn_alike : (x y : Turn) (s q : Running) → IsLinked g trusted inside s q → x.before ≡ Up s → y.before ≡ Up q → y.line ≡ x.line →
      IsTurn g x → IsTurn g y → IsTurnBy inside x → LooksInside inside x → HasRoom x → HasRoom y → (IsDown x.after → ⊥) →
      (IsDown y.after → ⊥)
      → (y.reply ≡ x.reply) × AreLinked g trusted inside x.after y.after
  turn_alike x y s q h at there same first second by looks room rooms up above =
      let l = first.0 in
      let one : second.0 ≡ l = says_one x.line second.0 l (subst (λ text. Says text second.0) same second.1) first.1 in
      replies_alike l s q h x.reply y.reply x.after y.after room rooms (by l first.1) (fits_line x.line l first.1)
      (looks_line inside x s l looks at first.1) (subst (λ m. Replies g l m x.reply x.after) at first.2)
      (subst (λ k. Replies g k (Up q) y.reply y.after) one (subst (λ m. Replies g second.0 m y.reply y.after) there second.2)) up above

  -- if both machines are up, they are linked
  abbrev AreLinkedIfUp : Machine → Machine → Type 0
  AreLinkedIfUp (Up s) (Up q) = IsLinked g trusted inside s q
  AreLinkedIfUp m n = Unit {0}

  runs_alike : (t r : Running) (turns others : List Turn) (s q : Running) → IsLinked g trusted inside s q → IsRun g (Up s) turns (Up t)
      → IsRun g (Up q) others (Up r) → lines others ≡ lines turns → EachBy inside turns → EachBy inside others →
      All (LooksInside inside) turns
      → All HasRoom turns → All HasRoom others → (replies others ≡ replies turns) × IsLinked g trusted inside t r
  runs_alike t r [] [] s q h run other e by too looks room rooms = (
    refl,
    subst (λ m. AreLinkedIfUp m (Up r)) (sym run) (subst (AreLinkedIfUp (Up s)) (sym other) h),
  )
  runs_alike t r [] (y ∷ ys) s q h run other e by too looks room rooms = cc
  runs_alike t r (x ∷ xs) [] s q h run other e by too looks room rooms = cc
  runs_alike t r (x ∷ xs) (y ∷ ys) s q h run other e by too looks room rooms =
      let one = turn_alike x y s q h run.0 other.0 (same_first x y xs ys e) run.1 other.1 by.0 (All-head (LooksInside inside) x xs looks)
      (All-head HasRoom x xs room) (All-head HasRoom y ys rooms) (λ down. down_run g inside x.after xs (Up t) down by.1 run.2)
      (λ down. down_run g inside y.after ys (Up r) down too.1 other.2) in
      let rest = runs_alike t r xs ys one.1.0 one.1.1 one.1.4 (subst (λ m. IsRun g m xs (Up t)) one.1.2 run.2)
      (subst (λ m. IsRun g m ys (Up r)) one.1.3 other.2) (same_rest x y xs ys e) by.1 too.1 (All-tail (LooksInside inside) x xs looks)
      (All-tail HasRoom x xs room) (All-tail HasRoom y ys rooms) in
      (ap (λ k. k ∷ replies ys) one.0 ∙ ap (λ ks. x.reply ∷ ks) rest.0, rest.1)

-- ---- the law about runs

linked : (g : Geometry) (trusted inside : ℕ → Bool) (w v : World) → AreSameInside g trusted inside w v →
    Link trusted inside w.objects v.objects
linked g trusted inside w v h = record {
  size = h.sound.1.size ∙ sym h.sound.0.size;
  same = h.same;
  left = h.closed.0;
  right = h.closed.1;
}

alike_of : (trusted inside : ℕ → Bool) (o p : Option Effect) → EffectsLink trusted inside o p → AreAlike inside o p
alike_of trusted inside None None h = tt
alike_of trusted inside (Some e) (Some f) h = (h.0, h.1.same)
alike_of trusted inside (Some e) None h = h
alike_of trusted inside None (Some f) h = h

closed_of : (trusted inside : ℕ → Bool) (o p : Option Effect) → EffectsLink trusted inside o p → (e : Effect) → o ≡ Some e
    → IsReadClosedBut trusted e.objects inside
closed_of trusted inside None p h e done = cc
closed_of trusted inside (Some f) None h e done = absurd h
closed_of trusted inside (Some f) (Some k) h e done =
    let same : f ≡ e = cc in
    subst (λ (d : Effect). IsReadClosedBut trusted d.objects inside) same h.1.left

pub invocation_noninterferent : InvocationIsNoninterferent
invocation_noninterferent g trusted inside w v i same fits runs in_p looks =
    let done = invoked_link g trusted inside w.objects v.objects (linked g trusted inside w v same) (nearly_from g w same.sound.0)
    (nearly_from g v same.sound.1) i in_p runs looks in (
      alike_of trusted inside (invoke g w.objects i) (invoke g v.objects i) done,
      closed_of trusted inside (invoke g w.objects i) (invoke g v.objects i) done,
    )

pub runs_noninterferent : RunsAreNoninterferent
runs_noninterferent g trusted inside s t q r turns others same run other e by looks room rooms =
    let each = each_by inside turns by in
    let done = runs_alike g trusted inside t r turns others s q
    (record { left = same.sound.0; right = same.sound.1; link = linked g trusted inside s.now q.now same }) run other e each
    (by_too inside turns others e each) looks room rooms in
    let last = done.1 in (
      done.0,
      record { sound = (last.left, last.right); closed = (last.link.left, last.link.right); same = last.link.same },
    )
