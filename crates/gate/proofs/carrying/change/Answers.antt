use Rattle.gate.proofs.Names.{List, ap, drop, subst, sym, ℕ, All, Object, is_free, content_at, tests_at, target_of, objects_in, AreCounted, snapshots_alone}
use Rattle.gate.proofs.Names.{MayEdit}
use Rattle.std.proofs.Common.{◌∙◌}
use Rattle.gate.proofs.BankStates.{counted_on}
use Rattle.gate.proofs.Plans.{change_edit, edit_fetched, target_all, changed_any, changed_frame}
use Rattle.gate.proofs.Standing.{calls_below}
use Rattle.gate.proofs.carrying.change.Goals as goal

pub make-requires : goal.make-requires
make-requires g c =
    let p = g.F.Frames.parts c.args.store.now in
    let x = c.args.change in
    let edit : MayEdit p.geometry (objects_in p) (drop c.args.skip c.args.banks.now.listed) x =
    change_edit _ _ _ x c.in_default.not-Bank c.requires.may in
    let announced = target_all (g.F.PresentFrames.IsAnnounced c.args.store.now) (target_of x)
    (subst (λ (ns : List ℕ). All (g.F.PresentFrames.IsAnnounced c.args.store.now) ns) edit.listed c.requires.announced) in
    record {
      within = edit.within;
      process = edit.process;
      calls = λ n is. calls_below p c.requires.sound n (g.met.F.PresentFrames.known_announced c.args.store.now n (announced n is)).0;
      current = c.requires.sound.1.current;
      fetched = target_all (g.F.Frames.IsFetched c.args.store.now) (target_of x)
          (subst (λ (ns : List ℕ). All (g.F.Frames.IsFetched c.args.store.now) ns) (edit_fetched x c.in_default.not-Bank)
          c.requires.fetched);
      announced = announced;
    }

pub returns-in_default : goal.returns-in_default
returns-in_default g c =
    let p = g.F.Frames.parts c.args.store.now in
    let list = drop c.args.skip c.args.banks.now.listed in
    let edit : MayEdit p.geometry (objects_in p) list c.args.change = change_edit _ _ _ c.args.change c.in_default.not-Bank c.requires.may
    in
    let frame = changed_frame (objects_in p) c.args.change edit.within edit.process in
    record {
      objects = c.make.ensures.objects ∙ changed_any (objects_in p) list c.args.change edit.within;
      counted = subst (λ (us : List Object). AreCounted p.geometry us c.args.banks.now) (sym c.make.ensures.objects)
          (counted_on frame c.requires.counted);
      current = c.make.ensures.current;
      keepable = λ age young k. c.make.ensures.keepable age young edit.holds k;
      snapshots = snapshots_alone g.F.Frames.parts g.F.Frames.IsFetched g.F.PresentFrames.IsAnnounced g.F.Frames.ContinuesTo
          c.args.store.now c.make.new.store
          c.make.ensures.snapshots
          (λ n used. ap (λ (us : List Object). is_free (content_at us n)) c.make.ensures.objects ∙ (tests_at (objects_in p) _ frame n).free
          ∙ used);
    }
