use Rattle.space_bank.proofs.Names.{[], ℕ, List, ap, arith, drop, length, subst, sym, take, length-append, Capability, Geometry, Content, chain, owned_by}
use Rattle.space_bank.proofs.Names.{is_member, true, rescind, header_at, AreKeepable, is_free, owner_at, frames_of, objects_in, BanksState}
use Rattle.space_bank.proofs.Names.{AreTransferred, IsRaised, rules}
use Rattle.std.proofs.Common.{◌≡◌, ◌<◌, ◌+◌, ◌-◌, ◌^◌, ◌∙◌, ◌++◌, ◌∷◌}
use Rattle.space_bank.proofs.Renewing.{snapshots_then_ended, ended_snapshots, listed_rest, released_then, SameFree, drop_next, transferred_allocations}
use Rattle.space_bank.proofs.Renewing.{transferred_calls, inherited_by, mark_one, one_all, one_enough, only_used, owned_used, rest_all, returned_carried}
use Rattle.space_bank.proofs.Plans.{owner_is_bank}
use Rattle.space_bank.proofs.Tallies.{transferred_same, serve_count}
use Rattle.space_bank.proofs.banks.Banks.return_to_parent.Goals as goal

pub release-requires-clause-asks : goal.release-requires-clause-asks
release-requires-clause-asks g c = owner_is_bank c.requires.asks c.owner-parent.ensures

pub release-requires-clause-enough : goal.release-requires-clause-enough
release-requires-clause-enough g c = λ x member.
    one_enough c.requires.asks c.requires.other x
    (subst (λ (n : ℕ). is_member (chain (objects_in (g.F.Frames.parts c.args.store.now)) n) x ≡ true) c.owner-parent.ensures member)

pub transfer-requires : goal.transfer-requires
transfer-requires g c =
    let own = owned_by (objects_in (g.F.Frames.parts c.args.store.now)) c.args.bank in
    let s = c.args.self.now in
    rw (listed_rest s (c.args.skip + 1) c.deref.ensures.value c.self.view_is c.release.ensures.kept
    ∙ drop_next s.listed c.args.skip c.args.bank own c.requires.listed) (record {
      announced = rest_all (g.F.PresentFrames.IsAnnounced c.args.store.now) c.args.bank own (rw c.requires.listed at c.requires.announced);
      used = owned_used (objects_in (g.F.Frames.parts c.args.store.now)) c.args.bank;
    })

pub rescind-requires : goal.rescind-requires
rescind-requires g c =
    let q = g.F.Frames.parts c.transfer.new.store in
    let announced = c.transfer.ensures.snapshots.announced c.args.bank ((rw c.requires.listed at c.requires.announced) 0 0 (omega arith)) in
    let known = g.met.F.PresentFrames.known_announced c.transfer.new.store c.args.bank announced in
    record {
      announced = one_all (g.F.PresentFrames.IsAnnounced c.transfer.new.store) c.args.bank announced;
      once = search rules;
      allocations = one_all (λ n. (header_at q.headers n).allocations < 2 ^ 64 - 1) c.args.bank
          (transferred_allocations c.requires.asks c.requires.other q c.transfer.ensures.keepable known.0);
      calls = one_all (λ n. (header_at q.headers n).calls < 2 ^ 64 - 1) c.args.bank
          (transferred_calls c.requires.asks c.requires.other q c.transfer.ensures.keepable known.0);
      current = c.transfer.ensures.current c.requires.asks.sound.1.current;
    }

pub returns-clause-objects : goal.returns-clause-objects
returns-clause-objects g c =
    let os = objects_in (g.F.Frames.parts c.args.store.now) in
    let us = objects_in (g.F.Frames.parts c.transfer.new.store) in
    let b = c.args.bank in
    let part = listed_rest c.args.self.now (c.args.skip + 1) c.deref.ensures.value c.self.view_is c.release.ensures.kept
    ∙ drop_next c.args.self.now.listed c.args.skip b (owned_by os b) c.requires.listed in
    c.rescind.ensures.objects ∙ ap (rescind (b ∷ [])) (inherited_by os us b
    (subst (λ (n : ℕ). AreTransferred (owned_by os b) n os us) c.owner-parent.ensures
    (subst (λ (list : List ℕ). AreTransferred list c.owner-parent.result os us) part c.transfer.ensures.objects)))

pub returns-clause-carried : goal.returns-clause-carried
returns-clause-carried g c =
    let p = g.F.Frames.parts c.args.store.now in
    let q = g.F.Frames.parts c.transfer.new.store in
    let r = g.F.Frames.parts c.rescind.new.store in
    let os = objects_in p in
    let us = objects_in q in
    let s = c.args.self.now in
    let b = c.args.bank in
    let part = listed_rest s (c.args.skip + 1) c.deref.ensures.value c.self.view_is c.release.ensures.kept
    ∙ drop_next s.listed c.args.skip b (owned_by os b) c.requires.listed in
    let transferred : AreTransferred (owned_by os b) (owner_at os b) os us =
    subst (λ (n : ℕ). AreTransferred (owned_by os b) n os us) c.owner-parent.ensures
    (subst (λ (list : List ℕ). AreTransferred list c.owner-parent.result os us) part c.transfer.ensures.objects) in
    let raised : IsRaised (chain os (owner_at os b)) 1 c.release.new.self.usages s.usages =
    subst (λ (n : ℕ). IsRaised (chain os n) 1 c.release.new.self.usages s.usages) c.owner-parent.ensures c.release.ensures.usages in
    let first = (rw c.requires.listed at c.requires.announced) 0 0 (omega arith) in
    let known = (g.met.F.PresentFrames.known_announced c.args.store.now b first).0 in
    let marks : length (c.self.inside.nodes ++ c.self.inside.pages) ≡ length (s.free_nodes ++ s.free_pages) =
    ap (λ (k : BanksState). length (k.free_nodes ++ k.free_pages)) c.self.view_is ∙
    ap (λ (k : BanksState). length (k.free_nodes ++ k.free_pages)) c.release.ensures.kept in
    let inside : b < length (c.self.inside.nodes ++ c.self.inside.pages) =
    omega (
      arith,
      known,
      marks,
      length-append s.free_nodes s.free_pages,
      serve_count c.requires.asks,
      c.requires.asks.counted.nodes,
      c.requires.asks.counted.pages,
    ) in
    returned_carried c.requires.asks c.requires.other transferred (released_then (b ∷ []) raised c.release.ensures.kept c.self.view_is
    c.mark.ensures.nodes c.mark.ensures.pages
    (mark_one (c.self.inside.nodes ++ c.self.inside.pages) (c.mark.new.nodes ++ c.mark.new.pages) b inside c.mark.ensures.marks))
    c.rescind.ensures.objects c.rescind.ensures.current
    (λ age few k. subst (λ (h : Geometry). AreKeepable h (age + 1) (frames_of r)) c.transfer.ensures.snapshots.geometry
    (c.rescind.ensures.keepable age few
    (subst (λ (h : Geometry). AreKeepable h age (frames_of q)) (sym c.transfer.ensures.snapshots.geometry)
    (c.transfer.ensures.keepable age k))))

pub returns-clause-snapshots : goal.returns-clause-snapshots
returns-clause-snapshots g c =
    let q = g.F.Frames.parts c.transfer.new.store in
    let os = objects_in (g.F.Frames.parts c.args.store.now) in
    let list = take (length c.deref.result.now - (c.args.skip + 1)) (drop (c.args.skip + 1) c.deref.result.now) in
    let free : SameFree (g.F.Frames.parts c.args.store.now) q =
    λ n. ap (λ (k : Content Capability). is_free k) (transferred_same list c.owner-parent.result os (objects_in q)
    c.transfer.ensures.objects n) in
    snapshots_then_ended g.F.Frames.parts g.F.Frames.IsFetched g.F.PresentFrames.IsAnnounced g.F.Frames.ContinuesTo
    g.met.F.Frames.continues_twice
    c.args.store.now c.transfer.new.store c.rescind.new.store c.transfer.ensures.snapshots free
    (ended_snapshots g.F.Frames.parts g.F.Frames.IsFetched g.F.PresentFrames.IsAnnounced g.F.Frames.ContinuesTo c.transfer.new.store
    c.rescind.new.store
    (c.args.bank ∷ []) c.rescind.ensures.given_up c.rescind.ensures.objects
    (λ n member. free n ∙ only_used os c.args.bank c.requires.asks.bank n member)
    c.rescind.ensures.fetched c.rescind.ensures.announced c.rescind.ensures.continues)
