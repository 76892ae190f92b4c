use Rattle.migrator.proofs.Names.{rules, row, sym, refl, true, false, IfOk-weaker, false≢true}
use Rattle.std.proofs.Common.{◌≡◌, ◌∙◌}
use Rattle.migrator.proofs.Opening.{reads_none}
use Rattle.migrator.proofs.next_root.next_root.Goals as goal

pub returns-then-sealed-clause-root : goal.returns-then-sealed-clause-root
returns-then-sealed-clause-root g c =
    let sealed : (row c.args.plan.now.version).sealed ≡ true = search rules in
    IfOk-weaker c.with_entries.result _ _
    (λ new is. record { sealed = λ _. is; plain = λ plain. absurd (false≢true (sym plain ∙ sealed)) }) c.with_entries.ensures.root

pub returns-else-sealed-clause-root : goal.returns-else-sealed-clause-root
returns-else-sealed-clause-root g c =
    let plain : (row c.args.plan.now.version).sealed ≡ false = search rules in
    record { sealed = λ sealed. absurd (false≢true (sym plain ∙ sealed)); plain = λ _. refl }

pub returns-else-sealed-clause-reads : goal.returns-else-sealed-clause-reads
returns-else-sealed-clause-reads g c = reads_none (g.met.D.Device.only_now c.args.device.now)
