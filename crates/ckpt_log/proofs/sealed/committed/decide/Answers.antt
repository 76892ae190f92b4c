use Rattle.std.proofs.Common.{ℕ, List, subst}
use Rattle.std.specs.Prelude.{IfErr, IfOk}
use Rattle.header_slots.specs.Committed.{IsRefused, slots_of}
use Rattle.header_slots.specs.Slots.{IsCommitted}
use Rattle.header_slots.specs.declared.deciding.NotCommitted.{NotCommitted}
use Rattle.header_slots.specs.declared.deciding.SlotNumbers.{SlotNumbers}
use Rattle.ckpt_log.proofs.sealed.committed.decide.Goals as goal

pub returns-clause-ok : goal.returns-clause-ok
returns-clause-ok c =
    subst (λ (xs : List SlotNumbers). IfOk c.committed.result (λ (s : ℕ). IsCommitted (slots_of xs) s)) c.numbers_of.ensures
    c.committed.ensures.ok

pub returns-clause-err : goal.returns-clause-err
returns-clause-err c =
    subst (λ (xs : List SlotNumbers). IfErr c.committed.result (λ (why : NotCommitted). IsRefused (slots_of xs) why)) c.numbers_of.ensures
    c.committed.ensures.err
