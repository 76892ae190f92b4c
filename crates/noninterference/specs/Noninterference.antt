-- Noninterference: objects outside a set determine neither the answers to its processes nor its objects.
use Rattle.noninterference.specs.Names.{ℕ, Bool, true, false, Option, None, Some, List, All, IsTrue, map, not}
use Rattle.noninterference.specs.Names.{slice_index, Capability, Bank, Start, Invocation, Geometry, BankOrder, Effect}
use Rattle.noninterference.specs.Names.{invoke, Running, Up, bank_order, IsRun, Reported, Turn, IsSound, Fits, Says}
use Rattle.noninterference.specs.Names.{World, AreBy, is_running_process, register_at}
use Rattle.std.specs.Prelude.{◌≡◌}
use Rattle.model.specs.declared.answer.Answer.TheVariants as answer
use Rattle.model.specs.declared.answer.Refusal.TheVariants as refusal
use Rattle.model.specs.declared.command.Command.TheVariants as command
use Rattle.model.specs.declared.line.Line.TheVariants as line
use Rattle.model.specs.declared.order.BankOrder.TheVariants as bank
use Rattle.noninterference.specs.Reads.{HaveSame, IsReadClosedBut}

-- a bank's orders whose results depend on free numbers, or on the banks above it
abbrev pub depends_on_supply : BankOrder → Bool
depends_on_supply bank.NewPage = true
depends_on_supply bank.NewNode = true
depends_on_supply bank.NewProcess = true
depends_on_supply bank.NewBank = true
depends_on_supply bank.Remaining = true
depends_on_supply _ = false

-- whether invoking this capability with this first word looks outside: its order depends on free numbers or on the
-- banks above, or it starts a process that is no member
abbrev pub looks_outside : (ℕ → Bool) → Capability → ℕ → Bool
looks_outside inside (Bank b) w = elim (bank_order w) [ None ↦ false | Some requested ↦ depends_on_supply requested ]
looks_outside inside (Start p key) w = not (inside p)
looks_outside inside _ w = false

-- two invocations both stall; or they write the same numbers, and leave the set's objects equal
abbrev pub AreAlike : (ℕ → Bool) → Option Effect → Option Effect → Type 0
AreAlike inside None None = Unit {0}
AreAlike inside (Some e) (Some f) = (f.written ≡ e.written) × HaveSame inside e.objects f.objects
AreAlike inside _ _ = ⊥

-- two sound worlds have the same objects in a set that is closed for reading in both
pub record AreSameInside (g : Geometry) (trusted inside : ℕ → Bool) (w v : World) : Type 0 where
  pub sound : IsSound g w × IsSound g v
  pub closed : IsReadClosedBut trusted w.objects inside × IsReadClosedBut trusted v.objects inside
  pub same : HaveSame inside w.objects v.objects

-- if an invocation by a running member doesn't look outside, it does the same in both worlds, and keeps the set
-- closed for reading
abbrev pub InvocationIsNoninterferent : Type 0
InvocationIsNoninterferent = (g : Geometry) (trusted inside : ℕ → Bool) (w v : World) (i : Invocation) →
    AreSameInside g trusted inside w v → Fits (command.Invoke i) → IsTrue (is_running_process w.objects i.process) →
    IsTrue (inside i.process) →
    looks_outside inside (register_at w.objects i.process i.register) (slice_index i.words 0) ≡ false →
    AreAlike inside (invoke g w.objects i) (invoke g v.objects i)
    × ((e : Effect) → invoke g w.objects i ≡ Some e → IsReadClosedBut trusted e.objects inside)

-- a turn doesn't look outside
abbrev pub LooksInside : (ℕ → Bool) → Turn → Type 0
LooksInside inside t = (s : Running) (i : Invocation) → t.before ≡ Up s →
    Says t.line (line.Command (command.Invoke i)) →
    looks_outside inside (register_at s.now.objects i.process i.register) (slice_index i.words 0) ≡ false

-- a turn isn't refused because of the age or a full log
abbrev pub HasRoom : Turn → Type 0
HasRoom t = (t.reply ≡ Reported (answer.Refused refusal.Worn) → ⊥)
    × (t.reply ≡ Reported (answer.Refused refusal.LogFull) → ⊥)

-- noninterference. Two runs have the same lines, all by members, and begin with the same objects in the set. No turn
-- looks outside, or is refused for the age or a full log. Then both runs have the same answers and end with the same
-- objects in the set
abbrev pub RunsAreNoninterferent : Type 0
RunsAreNoninterferent = (g : Geometry) (trusted inside : ℕ → Bool) (s t q r : Running) (turns others : List Turn) →
    AreSameInside g trusted inside s.now q.now →
    IsRun g (Up s) turns (Up t) → IsRun g (Up q) others (Up r) →
    map (λ x. x.line) others ≡ map (λ x. x.line) turns → AreBy inside turns →
    All (LooksInside inside) turns → All HasRoom turns → All HasRoom others →
    (map (λ x. x.reply) others ≡ map (λ x. x.reply) turns) × AreSameInside g trusted inside t.now r.now
