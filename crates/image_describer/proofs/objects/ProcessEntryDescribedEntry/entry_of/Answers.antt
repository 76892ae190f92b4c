use Rattle.image_describer.proofs.Names.{AreSound, Object, Parts, ap, content_at, objects_in, subst, sym}
use Rattle.std.proofs.Common.{◌∙◌, ◌≡◌}
use Rattle.model.specs.declared.object.Content.TheVariants as content
use Rattle.image_describer.proofs.ReadOnly.{looked_once, read_failed, looked_well, reads_after, root_annex}
use Rattle.image_describer.proofs.objects.ProcessEntryDescribedEntry.entry_of.Goals as goal

pub returns-in_err-owner-clause-only_reads : goal.returns-in_err-owner-clause-only_reads
returns-in_err-owner-clause-only_reads g c = read_failed c.from_residual.result c.from_residual.ensures.1 c.in_err-owner.ensures.only_reads

pub registers-requires-clause-sound : goal.registers-requires-clause-sound
registers-requires-clause-sound g c = subst AreSound (sym c.in_ok-owner.ensures.only_reads.same) c.requires.sound

pub registers-requires-clause-annex : goal.registers-requires-clause-annex
registers-requires-clause-annex g c =
    let os = objects_in (g.F.Frames.parts c.args.store.now) in
    let at : content_at os c.args.number ≡ content.Root c.in-Root.root = sym (ap (λ (o : Object). o.content) c.in_ok-owner.ensures.object)
    ∙ c.in-Root.is in
    root_annex os _ c.args.number c.in-Root.root (ap (λ (p : Parts). objects_in p) c.in_ok-owner.ensures.only_reads.same) at
    (λ process. (c.requires.sound.1.sound.annexes c.args.number process).0)

pub returns-in_err-registers-clause-only_reads : goal.returns-in_err-registers-clause-only_reads
returns-in_err-registers-clause-only_reads g c =
    read_failed c.from_residual-in_err-registers.result c.from_residual-in_err-registers.ensures.1
    (reads_after g.met.F.Frames.continues_twice c.in_ok-owner.ensures.only_reads c.in_err-registers.ensures.only_reads)

pub returns-clause-only_reads : goal.returns-clause-only_reads
returns-clause-only_reads g c =
    looked_well (looked_once (reads_after g.met.F.Frames.continues_twice c.in_ok-owner.ensures.only_reads
    c.in_ok-registers.ensures.only_reads))
