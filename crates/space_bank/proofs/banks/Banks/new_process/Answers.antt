use Rattle.space_bank.proofs.Names.{List, ap, subst, sym, slice_set, Geometry, Object, new_annex, new_root, with_new, AreKeepable, BanksState, frames_of}
use Rattle.space_bank.proofs.Names.{keeps_twice}
use Rattle.std.proofs.Common.{◌∙◌}
use Rattle.space_bank.proofs.Tallies.{free_role, process_carried, still_free, taken_one, taken_two}
use Rattle.space_bank.proofs.banks.Banks.new_process.Goals as goal

pub make-requires-clause-free : goal.make-requires-clause-free
make-requires-clause-free g c =
    let known = (g.met.F.PresentFrames.known_announced c.args.store.now c.args.root c.requires.announced).0 in
    free_role c.requires.asks c.args.root known c.requires.may.unused

pub make-requires-2-clause-free : goal.make-requires-2-clause-free
make-requires-2-clause-free g c =
    let p = g.F.Frames.parts c.args.store.now in
    let at = g.met.F.PresentFrames.known_announced c.args.store.now c.args.annex c.requires.annex_announced in
    let sound = c.requires.asks.sound in
    still_free p.geometry sound.0 p (g.F.Frames.parts c.make.new.store) c.args.root c.args.annex c.args.bank (new_root c.args.annex)
    (c.make.ensures.keepable sound.0 c.ranges.annex.fits sound.1.keepable) c.make.ensures.snapshots.count c.make.ensures.objects at.0
    c.requires.may.two
    c.requires.may.annex_unused

pub returns-clause-objects : goal.returns-clause-objects
returns-clause-objects g c =
    c.make-2.ensures.objects ∙ ap (λ (os : List Object). with_new os c.args.annex c.args.bank new_annex) c.make.ensures.objects

pub returns-clause-snapshots : goal.returns-clause-snapshots
returns-clause-snapshots g c =
    keeps_twice g.F.Frames.parts g.F.Frames.IsFetched g.F.PresentFrames.IsAnnounced g.F.Frames.ContinuesTo g.met.F.Frames.continues_twice
    c.args.store.now
    c.make.new.store c.make-2.new.store c.make.ensures.snapshots c.make-2.ensures.snapshots

pub returns-clause-carried : goal.returns-clause-carried
returns-clause-carried g c =
    let q = g.F.Frames.parts c.make.new.store in
    let r = g.F.Frames.parts c.make-2.new.store in
    process_carried c.requires.asks (λ current. c.make-2.ensures.current (c.make.ensures.current current))
    (g.met.F.PresentFrames.known_announced c.args.store.now c.args.root c.requires.announced).0 _ c.requires.may
    (c.make-2.ensures.objects ∙ ap (λ (os : List Object). with_new os c.args.annex c.args.bank new_annex) c.make.ensures.objects)
    (λ age k. subst (λ (g : Geometry). AreKeepable g age (frames_of r)) c.make.ensures.snapshots.geometry (c.make-2.ensures.keepable age tt
    (subst (λ (g : Geometry). AreKeepable g age (frames_of q)) (sym c.make.ensures.snapshots.geometry)
    (c.make.ensures.keepable age c.ranges.annex.fits k))))
    (g.met.F.PresentFrames.known_announced c.args.store.now c.args.annex c.requires.annex_announced).0
    (taken_two (taken_one c.account.ensures.usages c.account.ensures.kept c.make.ensures.made) c.make-2.ensures.made)
    (ap (λ (k : BanksState). let u : BanksState = record k { annexes = slice_set k.annexes c.args.root c.args.annex } in u) c.self.view_is)
