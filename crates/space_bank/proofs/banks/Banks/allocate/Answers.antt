use Rattle.space_bank.proofs.Names.{ap, arith, length, BanksState}
use Rattle.std.proofs.Common.{◌≡◌}
use Rattle.space_bank.proofs.Tallies.{bank_carried, free_role, plain_carried, plain_under, taken_one, serve_count}
use Rattle.space_bank.proofs.banks.Banks.allocate.Goals as goal

pub make-requires-clause-known : goal.make-requires-clause-known
make-requires-clause-known g c =
    let at = g.met.F.PresentFrames.known_announced c.args.store.now c.args.number c.requires.announced in
    let nodes : length c.account.new.self.free_nodes ≡ length c.args.self.now.free_nodes =
    ap (λ (s : BanksState). length s.free_nodes) c.account.ensures.kept
    in
    let pages : length c.account.new.self.free_pages ≡ length c.args.self.now.free_pages =
    ap (λ (s : BanksState). length s.free_pages) c.account.ensures.kept
    in
    omega (arith, at.0, serve_count c.requires.asks, nodes, pages, c.requires.asks.counted.nodes, c.requires.asks.counted.pages)

pub make-requires-clause-free : goal.make-requires-clause-free
make-requires-clause-free g c =
    let known = (g.met.F.PresentFrames.known_announced c.args.store.now c.args.number c.requires.announced).0 in
    free_role c.requires.asks c.args.number known c.requires.may.unused

pub returns-in-Bank-clause-carried : goal.returns-in-Bank-clause-carried
returns-in-Bank-clause-carried g c =
    bank_carried c.requires.asks c.make.ensures.current (g.met.F.PresentFrames.known_announced c.args.store.now c.args.number
    c.requires.announced).0
    c.requires.may c.make.ensures.objects c.make.ensures.keepable (taken_one c.account.ensures.usages c.account.ensures.kept
    c.make.ensures.made)
    c.in-Bank.limit _ c.in-Bank.is c.keep_limit.ensures.fits c.keep_limit.ensures.kept

pub returns-in_default-clause-carried : goal.returns-in_default-clause-carried
returns-in_default-clause-carried g c =
    plain_carried c.requires.asks c.make.ensures.current (g.met.F.PresentFrames.known_announced c.args.store.now c.args.number
    c.requires.announced).0
    c.requires.may c.make.ensures.objects c.make.ensures.keepable (taken_one c.account.ensures.usages c.account.ensures.kept
    c.make.ensures.made)
    (plain_under _ c.args.bank c.args.fresh c.in_default.not-Bank c.requires.may.kind)
