use Rattle.image_describer.proofs.Names.{AreSound, Parts, objects_in, on_ok_weaker, subst, sym, TellAll, TellsNode, TellsPage, TellsProcess}
use Rattle.std.proofs.Common.{◌∙◌}
use Rattle.model.specs.declared.object.Role.TheVariants as role
use Rattle.image_describer.proofs.ReadOnly.{read_failed, reads_after}
use Rattle.image_describer.proofs.describing.tell_objects.Goals as goal

pub tell_all-requires-2-clause-sound : goal.tell_all-requires-2-clause-sound
tell_all-requires-2-clause-sound g c = subst AreSound (sym c.in_ok-tell_all.ensures.only_reads.same) c.requires.sound

pub tell_all-requires-3-clause-sound : goal.tell_all-requires-3-clause-sound
tell_all-requires-3-clause-sound g c =
    subst AreSound (sym (c.in_ok-tell_all-2.ensures.only_reads.same ∙ c.in_ok-tell_all.ensures.only_reads.same)) c.requires.sound

pub tell_all-requires-4-clause-sound : goal.tell_all-requires-4-clause-sound
tell_all-requires-4-clause-sound g c =
    subst AreSound (sym (c.in_ok-tell_all-3.ensures.only_reads.same ∙ c.in_ok-tell_all-2.ensures.only_reads.same
    ∙ c.in_ok-tell_all.ensures.only_reads.same)) c.requires.sound

pub returns-in_err-tell_all-clause-only_reads : goal.returns-in_err-tell_all-clause-only_reads
returns-in_err-tell_all-clause-only_reads g c = read_failed c.from_residual.result c.from_residual.ensures.1
    c.in_err-tell_all.ensures.only_reads

pub returns-in_err-tell_all-2-clause-only_reads : goal.returns-in_err-tell_all-2-clause-only_reads
returns-in_err-tell_all-2-clause-only_reads g c =
    read_failed c.from_residual-in_err-tell_all-2.result c.from_residual-in_err-tell_all-2.ensures.1
    (reads_after g.met.F.Frames.continues_twice c.in_ok-tell_all.ensures.only_reads c.in_err-tell_all-2.ensures.only_reads)

pub returns-in_err-tell_all-3-clause-only_reads : goal.returns-in_err-tell_all-3-clause-only_reads
returns-in_err-tell_all-3-clause-only_reads g c =
    read_failed c.from_residual-in_err-tell_all-3.result c.from_residual-in_err-tell_all-3.ensures.1
    (reads_after g.met.F.Frames.continues_twice c.in_ok-tell_all.ensures.only_reads
    (reads_after g.met.F.Frames.continues_twice c.in_ok-tell_all-2.ensures.only_reads c.in_err-tell_all-3.ensures.only_reads))

pub returns-clause-only_reads : goal.returns-clause-only_reads
returns-clause-only_reads g c =
    reads_after g.met.F.Frames.continues_twice c.in_ok-tell_all.ensures.only_reads
    (reads_after g.met.F.Frames.continues_twice c.in_ok-tell_all-2.ensures.only_reads
    (reads_after g.met.F.Frames.continues_twice c.in_ok-tell_all-3.ensures.only_reads c.tell_all-4.ensures.only_reads))

pub returns-clause-entry_of : goal.returns-clause-entry_of
returns-clause-entry_of g c =
    let one = c.in_ok-tell_all.ensures.only_reads.same in
    let two = c.in_ok-tell_all-2.ensures.only_reads.same ∙ one in
    let three = c.in_ok-tell_all-3.ensures.only_reads.same ∙ two in
    on_ok_weaker c.tell_all-4.result (λ last. record {
      banks = c.in_ok-tell_all.ensures.entry_of;
      processes = subst (λ (q : Parts). TellAll (λ p. p.root) (TellsProcess (objects_in q)) role.Root (objects_in q)
          c.tell_all-2.new.entries.items) one
          c.in_ok-tell_all-2.ensures.entry_of;
      nodes = subst (λ (q : Parts). TellAll (λ n. n.number) (TellsNode (objects_in q)) role.Node (objects_in q)
          c.tell_all-3.new.entries.items) two
          c.in_ok-tell_all-3.ensures.entry_of;
      pages = subst (λ (q : Parts). TellAll (λ p. p.number) (TellsPage (objects_in q)) role.Page (objects_in q)
          c.tell_all-4.new.entries.items) three last;
    }) c.tell_all-4.ensures.entry_of
