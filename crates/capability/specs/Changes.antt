-- The changes that orders plan, and their outcomes.
use Rattle.capability.specs.Names.{ℕ, Option, None, Some, List, [], option_to_list, Void, Message, Object, ResultCode}
use Rattle.capability.specs.Names.{inherited, new_annex, new_root, with_new, with_root_word, with_space, OrderOutcome}
use Rattle.capability.specs.Names.{code_number, consume, rescind, root_at, with_root, with_slot, with_state, with_word}
use Rattle.std.specs.Prelude.{◌∷◌}
use Rattle.capability.specs.declared.order.BankChange.{BankChange}
use Rattle.capability.specs.declared.order.BankChange.TheVariants as bank
use Rattle.capability.specs.declared.order.Change.{Change}
use Rattle.capability.specs.declared.order.Change.TheVariants as change
use Rattle.capability.specs.declared.order.OrderPlan.{OrderPlan}
use Rattle.capability.specs.declared.order.Reply.{Reply}
use Rattle.capability.specs.Parts.{fresh_content}

-- the reply that has a code alone
abbrev pub reply_of_code : ResultCode → Reply
reply_of_code code = record { code = code; words = 0 ∷ 0 ∷ 0 ∷ []; capability = Void }

-- the objects after a bank's change; `list` has the numbers that the order writes
abbrev pub bank_changed : List Object → List ℕ → BankChange → List Object
bank_changed os list (bank.Make n f b) = with_new os n b (fresh_content Void f)
bank_changed os list (bank.MakeProcess r a b) = with_new (with_new os r b (new_root a)) a b new_annex
bank_changed os list (bank.GiveUp above) = rescind list os
bank_changed os list (bank.Transfer b) = rescind (b ∷ []) (inherited os b)

-- the objects after a change; `list` has the numbers that the order writes
abbrev pub changed : List Object → List ℕ → Change → List Object
changed os list change.Nothing = os
changed os list (change.Word page index word) = with_word os page index word
changed os list (change.Slot node slot held) = with_slot os node slot held
changed os list (change.Register process annex register held) = with_slot os annex register held
changed os list (change.RootWord process index word) = with_root os process
    (with_root_word (root_at os process) index word)
changed os list (change.SetState process state) = consume process (with_state os process state)
changed os list (change.Space process held) = with_root os process (with_space (root_at os process) held)
changed os list (change.Bank made) = bank_changed os list made

-- the message of a reply: the code and the words, key 0, and the capability
abbrev pub message_of : Reply → Message
message_of reply = record {
  words = code_number reply.code ∷ reply.words;
  key = 0;
  capabilities = reply.capability ∷ Void ∷ Void ∷ Void ∷ [];
}

-- the one object that a change writes, if it writes just one
abbrev pub target_of : Change → Option ℕ
target_of change.Nothing = None
target_of (change.Word page index word) = Some page
target_of (change.Slot node slot held) = Some node
target_of (change.Register process annex register held) = Some annex
target_of (change.RootWord process index word) = Some process
target_of (change.SetState process state) = Some process
target_of (change.Space process held) = Some process
target_of (change.Bank made) = None

abbrev pub written_of : Change → List ℕ
written_of c = option_to_list (target_of c)

-- the outcome of a planned order that writes the listed numbers
abbrev pub outcome_by : List Object → List ℕ → OrderPlan → OrderOutcome
outcome_by os list plan = record {
  code = plan.reply.code;
  words = plan.reply.words;
  capability = plan.reply.capability;
  objects = changed os list plan.change;
  written = list;
}
