-- The effect of an invocation.
use Rattle.std.specs.Prelude.{ℕ, ◌==◌, Bool, true, false, ◌&&◌, ◌||◌, if◌then◌else◌, Option, None, Some, List, [], ◌∷◌}
use Rattle.std.specs.Prelude.{◌++◌, map, slice_index, slice_index_or, slice_set}
use Rattle.model.specs.declared.capability.Capability.{Capability}
use Rattle.model.specs.declared.capability.Capability.TheVariants.{Void, Start, Resume}
use Rattle.model.specs.declared.command.Invocation.{Invocation}
use Rattle.model.specs.declared.command.Message.{Message}
use Rattle.model.specs.declared.command.Operation.{Operation}
use Rattle.model.specs.declared.command.Operation.TheVariants.{Call, Return, Send}
use Rattle.model.specs.declared.geometry.Geometry.{Geometry}
use Rattle.model.specs.declared.object.Object.{Object}
use Rattle.model.specs.declared.object.State.TheVariants.{Available, Running, Waiting}
use Rattle.model.specs.Object.{is_available}
use Rattle.model.specs.World.{root_at, annex_at, register_at, with_root, with_state, with_slots_from}
use Rattle.model.specs.World.{is_running_process}
use Rattle.model.specs.OrderOutcome.{OrderOutcome, code_number}
use Rattle.model.specs.Order.{order}
use Rattle.model.specs.Revoke.{consume}

-- the objects after process p gets a message: p has its words and key, has its capabilities from register 28 on, and
-- runs
unfoldable pub deliver : List Object → ℕ → Message → List Object
deliver os p m =
    let r = root_at os p in
    with_slots_from (with_root os p (record r { state = Running; words = m.words; key = m.key })) r.annex 28
    m.capabilities

-- the effect of an invocation: the objects after it, and the numbers of those written
pub record Effect : Type 0 where
  pub objects : List Object
  pub written : List ℕ

-- the capabilities that an invocation sends, read before anything changes
abbrev pub sent_by : List Object → Invocation → List Capability
sent_by os i = map (register_at os i.process) i.sent

abbrev pub is_return : Operation → Bool
is_return Return = true
is_return _ = false

-- the capabilities that a gate receives: with a call, the last one is the right to resume the caller
abbrev pub sent_to_gate : List Object → Invocation → List Capability
sent_to_gate os i = elim i.operation [ Call ↦ slice_set (sent_by os i) 3 (Resume i.process) | _ ↦ sent_by os i ]

-- the objects after the invoker's state changes: through a gate a caller waits; a return makes it available
abbrev pub after_gate : List Object → Invocation → List Object
after_gate os i = elim i.operation
    [ Call ↦ with_state os i.process Waiting | Return ↦ with_state os i.process Available | Send ↦ os ]

abbrev pub after_order : List Object → Invocation → List Object
after_order os i = elim i.operation [ Return ↦ with_state os i.process Available | _ ↦ os ]

-- an invocation of process q through a gate (EROS: start and resume capabilities)
unfoldable pub through_gate : List Object → Invocation → ℕ → ℕ → Effect
through_gate os i q key = record {
  objects = deliver (after_gate os i) q (record { words = i.words; key = key; capabilities = sent_to_gate os i });
  written = q ∷ annex_at os q ∷ (elim i.operation [ Send ↦ [] | _ ↦ i.process ∷ [] ]);
}

-- the reply of a kernel object: the code and the words, key 0, and the capability
abbrev pub reply_of : OrderOutcome → Message
reply_of outcome = record {
  words = code_number outcome.code ∷ outcome.words;
  key = 0;
  capabilities = outcome.capability ∷ Void ∷ Void ∷ Void ∷ [];
}

-- the objects after the reply, which is dropped unless the process called and still runs
abbrev pub replied : List Object → Invocation → OrderOutcome → List Object
replied os i outcome = elim i.operation [
  | Call ↦ if is_running_process os i.process then deliver os i.process (reply_of outcome) else os
  | _ ↦ os
]

-- the outcome of the order that an invocation sends to a kernel object
abbrev pub ordered : Geometry → List Object → Invocation → OrderOutcome
ordered g os i = order g (after_order os i) (register_at os i.process i.register) (slice_index i.words 0)
    (record {
      first = slice_index i.words 1;
      second = slice_index i.words 2;
      capability = slice_index_or (sent_by os i) 0 Void;
    })

-- an invocation of a kernel object
unfoldable pub on_kernel_object : Geometry → List Object → Invocation → Effect
on_kernel_object g os i =
    let outcome = ordered g os i in
    record {
      objects = replied outcome.objects i outcome;
      written = (elim i.operation
          [ Call ↦ i.process ∷ annex_at os i.process ∷ [] | Return ↦ i.process ∷ [] | Send ↦ [] ]) ++ outcome.written;
    }

-- whether process q can be started by an invocation: it is available, or returns to itself
abbrev pub can_start : List Object → Invocation → ℕ → Bool
can_start os i q = is_available (root_at os q).state || (is_return i.operation && (i.process == q))

-- An invocation's effect, or `None` if it stalls. The capabilities sent are read first, then the invoker's state
-- changes, then comes the order or the delivery; a resume capability is consumed last.
unfoldable pub invoke : Geometry → List Object → Invocation → Option Effect
invoke g os i = elim (register_at os i.process i.register) [
  | Start q key ↦ if can_start os i q then Some (through_gate os i q key) else None
  | Resume q ↦ let effect = through_gate os i q 0 in Some
      (record { objects = consume q effect.objects; written = effect.written })
  | _ ↦ Some (on_kernel_object g os i)
]
