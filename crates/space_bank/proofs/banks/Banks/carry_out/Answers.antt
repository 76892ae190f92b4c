use Rattle.space_bank.proofs.Names.{rules, List, arith, drop, refl, subst, ℕ, All, new_annex, new_root, with_new, BankChange, objects_in, numbers_of, MayMake}
use Rattle.space_bank.proofs.Names.{MakesOne, MakesTwo}
use Rattle.space_bank.proofs.Tallies.{fresh_used}
use Rattle.space_bank.proofs.Renewing.{snapshots_alone, new_stays}
use Rattle.space_bank.proofs.banks.Banks.carry_out.Goals as goal

pub allocate-requires : goal.allocate-requires
allocate-requires g c =
    let p = g.F.Frames.parts c.args.store.now in
    let m = subst (λ (x : BankChange). MayMake p.geometry (objects_in p) (drop c.args.skip c.args.self.now.listed) x) c.in-Make.is
    c.requires.may in
    let announced = subst (λ (ns : List ℕ). All (g.F.PresentFrames.IsAnnounced c.args.store.now) ns) m.listed c.requires.announced in
    record {
      asks = record { sound = c.requires.sound; counted = c.requires.counted; bank = m.bank };
      may = subst (λ (ns : List ℕ). MakesOne p.geometry (objects_in p) ns c.in-Make.number c.in-Make.fresh c.in-Make.bank) m.listed m;
      fetched = (subst (λ (x : BankChange). All (g.F.Frames.IsFetched c.args.store.now) (numbers_of x)) c.in-Make.is c.requires.fetched) 0 0
          (omega arith);
      announced = announced 0 0 (omega arith);
    }

pub returns-in-Make-clause-snapshots : goal.returns-in-Make-clause-snapshots
returns-in-Make-clause-snapshots g c = search (rules, snapshots_alone, new_stays, fresh_used)

pub new_process-requires : goal.new_process-requires
new_process-requires g c =
    let p = g.F.Frames.parts c.args.store.now in
    let m = subst (λ (x : BankChange). MayMake p.geometry (objects_in p) (drop c.args.skip c.args.self.now.listed) x) c.in-MakeProcess.is
    c.requires.may in
    let fetched = subst (λ (x : BankChange). All (g.F.Frames.IsFetched c.args.store.now) (numbers_of x)) c.in-MakeProcess.is
    c.requires.fetched in
    let announced = subst (λ (ns : List ℕ). All (g.F.PresentFrames.IsAnnounced c.args.store.now) ns) m.listed c.requires.announced in
    record {
      asks = record { sound = c.requires.sound; counted = c.requires.counted; bank = m.bank };
      may = subst (λ (ns : List ℕ). MakesTwo p.geometry (objects_in p) ns c.in-MakeProcess.root c.in-MakeProcess.annex
          c.in-MakeProcess.bank) m.listed m;
      fetched = fetched 0 0 (omega arith);
      annex_fetched = fetched 1 0 (omega arith);
      announced = announced 0 0 (omega arith);
      annex_announced = announced 1 0 (omega arith);
    }

pub returns-in-MakeProcess-clause-snapshots : goal.returns-in-MakeProcess-clause-snapshots
returns-in-MakeProcess-clause-snapshots g c =
    let os = objects_in (g.F.Frames.parts c.args.store.now) in
    let us = objects_in (g.F.Frames.parts c.new_process.new.store) in
    let root = c.in-MakeProcess.root in
    let annex = c.in-MakeProcess.annex in
    let bank = c.in-MakeProcess.bank in
    let mid = with_new os root bank (new_root annex) in
    snapshots_alone g.F.Frames.parts g.F.Frames.IsFetched g.F.PresentFrames.IsAnnounced g.F.Frames.ContinuesTo c.args.store.now
    c.new_process.new.store
    c.new_process.ensures.snapshots
    (λ n used. new_stays mid us annex bank new_annex refl c.new_process.ensures.objects n
    (new_stays os mid root bank (new_root annex) refl refl n used))
