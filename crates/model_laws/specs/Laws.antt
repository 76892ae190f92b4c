-- Laws of the definitions of `model`.
use Rattle.model_laws.specs.Names.{ℕ, Bool, true, false, None, Some, Ok, Err, List, [], length, slice_get, slice_index}
use Rattle.model_laws.specs.Names.{IsTrue, Contains, Access, MemoryFault, Capability, Command, Invocation, Geometry}
use Rattle.model_laws.specs.Names.{Line, Object, Arguments, BankOrder, freed_by, on_bank, under, IsWeak, diminished}
use Rattle.model_laws.specs.Names.{is_bank, is_free, World, content_at, object_at, register_at, slot_at, root_at}
use Rattle.model_laws.specs.Names.{is_running_process, IsSound, MayBeHeld, rescind, consume, is_given_up, is_member}
use Rattle.model_laws.specs.Names.{names_member, resumes, without, IsNoBankOrder, fetched, Effect, invoke, touching}
use Rattle.model_laws.specs.Names.{touched_count, journaled, reached, refusal_of, unjournaled, writable, Fits, spelling}
use Rattle.model_laws.specs.Names.{Says, small, f0, i0, Option, MayFail, Proceeds, Step, opens, second, without_memory}
use Rattle.model_laws.specs.Names.{Machine, Up, Down, candidates, Answer, Refusal, takes_memory}
use Rattle.std.specs.Prelude.{◌≡◌, ◌⊎◌, ◌↔◌, ◌+◌, ◌^◌, ◌<◌, ◌∷◌, ◌++◌, ◌&&◌}
use Rattle.model.specs.Machine.{Running}
use Rattle.model.specs.declared.answer.Answer.TheVariants as answer
use Rattle.model.specs.declared.answer.Refusal.TheVariants as refusal
use Rattle.model.specs.declared.command.Command.TheVariants as command
use Rattle.model.specs.declared.order.BankOrder.TheVariants as bank
use Rattle.model.specs.declared.order.ResultCode.TheVariants as code

-- an invocation by a running process keeps a sound world sound
abbrev pub InvocationKeepsSound : Type 0
InvocationKeepsSound = (g : Geometry) (w : World) (i : Invocation) (e : Effect) →
    IsSound g w → Fits (command.Invoke i) → IsTrue (is_running_process w.objects i.process) → w.age < 2 ^ 62 →
    invoke g w.objects i ≡ Some e → IsSound g (record { objects = e.objects; age = w.age + 1 })

-- the saved world stays sound when one of its pages is journaled
abbrev pub JournalKeepsSound : Type 0
JournalKeepsSound = (g : Geometry) (s : Running) (n : ℕ) →
    IsSound g s.now → IsSound g s.saved.world → s.saved.world.age < 2 ^ 62 → unjournaled s n ≡ None →
    IsSound g (journaled s n).world

-- to diminish twice is to diminish once
abbrev pub DiminishesOnce : Type 0
DiminishesOnce = (c : Capability) → diminished (diminished c) ≡ diminished c

-- what is fetched through a weak capability is weak or names nothing
abbrev pub FetchesWeak : Type 0
FetchesWeak = (a : Access) (c : Capability) → a.0 ≡ 3 → IsWeak (fetched a c)

-- after a rescind the members are free, no slot or address space names one, and nothing else has changed, except that
-- capabilities to members are void
abbrev pub RescindsAll : Type 0
RescindsAll = (set : List ℕ) (os : List Object) →
    ((n : ℕ) → is_member set n ≡ true → is_free (content_at (rescind set os) n) ≡ true)
    × ((n : ℕ) → is_member set n ≡ false → object_at (rescind set os) n ≡ without (names_member set) (object_at os n))
    × ((n i : ℕ) → names_member set (slot_at (rescind set os) n i) ≡ false)
    × ((p : ℕ) → names_member set (root_at (rescind set os) p).space ≡ false)

-- a consume only makes capabilities void, and after it no slot or address space resumes the process
abbrev pub ConsumesAll : Type 0
ConsumesAll = (p : ℕ) (os : List Object) →
    ((n : ℕ) → object_at (consume p os) n ≡ without (resumes p) (object_at os n))
    × ((n i : ℕ) → resumes p (slot_at (consume p os) n i) ≡ false)
    × ((q : ℕ) → resumes p (root_at (consume p os) q).space ≡ false)

-- the numbers that an order of a bank rescinds if its code is `Done`
abbrev pub rescinded_by : List Object → ℕ → BankOrder → Arguments → List ℕ
rescinded_by os b bank.Free args = freed_by os args.capability
rescinded_by os b bank.Destroy args = under os b
rescinded_by os b bank.ReturnToParent args = b ∷ []
rescinded_by os b _ args = []

-- an order of a bank whose code is `Done` frees exactly the objects that it rescinds; any other frees none
abbrev pub GivesUpRescinded : Type 0
GivesUpRescinded = (g : Geometry) (w : World) (b : ℕ) (requested : BankOrder) (args : Arguments) (n : ℕ) →
    IsSound g w → IsTrue (is_bank (content_at w.objects b)) → MayBeHeld w.objects args.capability →
    ((on_bank g w.objects b requested args).code ≡ code.Done →
    is_given_up w.objects (on_bank g w.objects b requested args).objects n ≡ is_member
    (rescinded_by w.objects b requested args) n)
    × (((on_bank g w.objects b requested args).code ≡ code.Done → ⊥) →
    is_given_up w.objects (on_bank g w.objects b requested args).objects n ≡ false)

-- an invocation by a running process frees no object, unless it is an order of a bank
abbrev pub GivesUpNothing : Type 0
GivesUpNothing = (g : Geometry) (w : World) (i : Invocation) (e : Effect) (n : ℕ) →
    IsSound g w → Fits (command.Invoke i) → IsTrue (is_running_process w.objects i.process) →
    IsNoBankOrder (register_at w.objects i.process i.register) (slice_index i.words 0) → invoke g w.objects i ≡ Some e →
    is_given_up w.objects e.objects n ≡ false

-- the touched numbers after a write: those touched before it, and those written
abbrev pub TouchesWritten : Type 0
TouchesWritten = (touched : List Bool) (written : List ℕ) (n : ℕ) → n < length touched →
    (slice_get (touching touched written) n ≡ Some true) ↔ ((slice_get touched n ≡ Some true) ⊎ Contains written n)

-- an invocation that no earlier condition refuses is refused as log full exactly if the numbers touched before it
-- and those that it writes are together more than the slots of a log half
abbrev pub LogFullIsExact : Type 0
LogFullIsExact = (g : Geometry) (s : Running) (i : Invocation) (e : Effect) →
    IsTrue (is_running_process s.now.objects i.process) → s.now.age < 2 ^ 62 → invoke g s.now.objects i ≡ Some e →
    (refusal_of g s (command.Invoke i) ≡ Some refusal.LogFull) ↔ (g.log < touched_count (touching s.touched e.written))

-- a store to a writable page is refused as log full exactly if the numbers touched before it and that page are
-- together more than the slots of a log half; a store with a memory fault isn't refused
abbrev pub StoreLogFullIsExact : Type 0
StoreLogFullIsExact = (g : Geometry) (s : Running) (p address value : ℕ) → IsTrue (is_running_process s.now.objects p) →
    ((page : ℕ) → writable (reached s.now.objects p address) ≡ Ok page →
    (refusal_of g s (command.Store p address value) ≡ Some refusal.LogFull) ↔
    (g.log < touched_count (touching s.touched (page ∷ []))))
    × ((why : MemoryFault) → writable (reached s.now.objects p address) ≡ Err why →
    refusal_of g s (command.Store p address value) ≡ None)

-- whether the specification allows the answer `no memory` to a command
abbrev pub may_lack_memory : Command → Bool
may_lack_memory (command.Invoke i) = true
may_lack_memory (command.Load p address) = true
may_lack_memory (command.Store p address value) = true
may_lack_memory (command.Show n) = true
may_lack_memory c = opens c

-- whether the specification allows `no memory` in place of this refusal or, for `None`, of any other answer
abbrev pub may_give_way : Option Refusal → Bool
may_give_way (Some refusal.NoProcess) = false
may_give_way (Some refusal.BadNumber) = false
may_give_way _ = true

abbrev pub MayLackMemory : Geometry → Machine → Command → Type 0
MayLackMemory g (Up s) c = IsTrue (may_lack_memory c && may_give_way (refusal_of g s c))
MayLackMemory g (Down saved) c = IsTrue (opens c)

-- a step that the specification allows: the command's own answer, lack of memory, or a failure of the device
abbrev pub StepAllowed : Geometry → Machine → Command → Answer → Machine → Type 0
StepAllowed g m c a after =
    Proceeds g m c a after
    ⊎ (MayLackMemory g m c × (a ≡ answer.Refused refusal.NoMemory) × (after ≡ without_memory m c))
    ⊎ (MayFail m c × (a ≡ answer.Refused refusal.Fault) × (after ≡ Down (candidates m ++ second m c)))

-- the machine takes only steps that are allowed
abbrev pub StepsAllowed : Type 0
StepsAllowed = (g : Geometry) (m : Machine) (c : Command) (a : Answer) (after : Machine) →
    Step g m c a after → StepAllowed g m c a after

-- only commands that show an object or open the device may be answered `no memory`
abbrev pub WantsMemoryToShow : Type 0
WantsMemoryToShow = (g : Geometry) (m : Machine) (c : Command) (after : Machine) →
    Step g m c (answer.Refused refusal.NoMemory) after → takes_memory c ≡ true

-- no two commands share a spelling
abbrev pub SpellsOne : Type 0
SpellsOne = (c d : Command) → Fits c → Fits d → spelling c ≡ spelling d → c ≡ d

-- a line has at most one meaning
abbrev pub SaysOne : Type 0
SaysOne = (text : List ℕ) (l m : Line) → Says text l → Says text m → l ≡ m

-- the worlds that scripts begin with are sound
abbrev pub BeginsSound : Type 0
BeginsSound = IsSound small f0 × IsSound small i0
