use Rattle.kernel.proofs.Names.{ℕ, List, length, refl, ap, subst, arith, ObjectHeader, objects_in}
use Rattle.std.proofs.Common.{◌≡◌, ◌≤◌, ◌<◌, ◌∙◌}
use Rattle.kernel.proofs.MemoryServing.{shows, shows_fine}
use Rattle.kernel.proofs.Performing.{bad_number_serves}
use Rattle.kernel.proofs.processes.showing.show.Goals as goal

pub returns-then-number-count-clause-serves : goal.returns-then-number-count-clause-serves
returns-then-number-count-clause-serves g c age sound =
    let old = g.F.Frames.parts c.args.store.now in
    let counted : c.count.result ≡ length old.headers = c.count.ensures ∙ ap (λ (hs : List ObjectHeader). length hs) c.table.ensures in
    bad_number_serves age old old c.args.number (λ stayed. refl) sound (omega arith)
    (subst (λ (m : ℕ). m ≤ c.args.number) counted c.if-number-count.true) (λ rose. omega arith)

pub returns-clause-serves : goal.returns-clause-serves
returns-clause-serves g c age sound =
    let old = g.F.Frames.parts c.args.store.now in
    let counted : c.count.result ≡ length old.headers = c.count.ensures ∙ ap (λ (hs : List ObjectHeader). length hs) c.table.ensures in
    shows c.args.store.now c.shown.new.store c.args.number age c.shown.result
    (subst (λ (m : ℕ). c.args.number < m) counted c.if-number-count.false) sound c.shown.ensures.answer c.shown.ensures.only_reads

pub returns-clause-no_fault : goal.returns-clause-no_fault
returns-clause-no_fault g c =
    shows_fine (objects_in (g.F.Frames.parts c.args.store.now)) c.args.number c.shown.result c.shown.ensures.answer
