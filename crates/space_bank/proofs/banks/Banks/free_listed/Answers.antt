use Rattle.space_bank.proofs.Names.{true, false, ℕ, List, ap, arith, drop, length, subst, sym, take, length-drop, chain, is_free, is_member, rescind}
use Rattle.space_bank.proofs.Names.{content_at, objects_in, BanksState, IsRaised, is_marked}
use Rattle.std.proofs.Common.{◌≡◌, ◌+◌, ◌-◌, ◌∙◌, ◌++◌}
use Rattle.std.specs.Prelude.{if◌then◌else◌}
use Rattle.space_bank.proofs.Renewing.{AreKnown, ended_snapshots, ended_carried, enough_used, list_allocations, list_calls, list_marks, listed_rest}
use Rattle.space_bank.proofs.Renewing.{released_then}
use Rattle.space_bank.proofs.banks.Banks.free_listed.Goals as goal

pub release-requires-clause-enough : goal.release-requires-clause-enough
release-requires-clause-enough g c =
    let s = c.args.self.now in
    let count : c.len.result - c.args.skip ≡ length (drop c.args.skip s.listed) =
    omega (
      arith,
      length-drop c.args.skip s.listed,
      c.len.ensures,
      ap (λ (k : BanksState). length k.listed) c.self.view_is,
      c.self.inside.listed.ok.0,
    ) in
    rw count (enough_used c.requires.asks c.requires.may)

pub rescind-requires : goal.rescind-requires
rescind-requires g c =
    let s = c.args.self.now in
    let known : AreKnown (g.F.Frames.parts c.args.store.now) (drop c.args.skip s.listed) = λ k d inside.
    (g.met.F.PresentFrames.known_announced c.args.store.now _ (c.requires.announced k d inside)).0 in
    rw (listed_rest s c.args.skip c.deref.ensures.value c.self-2.view_is c.release.ensures.kept) (record {
      announced = c.requires.announced;
      once = c.requires.may.once;
      allocations = list_allocations c.requires.asks (drop c.args.skip s.listed) known;
      calls = list_calls c.requires.asks (drop c.args.skip s.listed) known;
      current = c.requires.asks.sound.1.current;
    })

pub mark_free-requires-clause-known : goal.mark_free-requires-clause-known
mark_free-requires-clause-known g c =
    let s = c.args.self.now in
    let known : AreKnown (g.F.Frames.parts c.args.store.now) (drop c.args.skip s.listed) = λ k d inside.
    (g.met.F.PresentFrames.known_announced c.args.store.now _ (c.requires.announced k d inside)).0 in
    let part = listed_rest s c.args.skip c.deref-2.ensures.value c.self-2.view_is c.release.ensures.kept in
    let marks : length c.self-2.inside.nodes + length c.self-2.inside.pages ≡ length s.free_nodes + length s.free_pages =
    ap (λ (k : BanksState). length k.free_nodes + length k.free_pages) c.self-2.view_is
    ∙ ap (λ (k : BanksState). length k.free_nodes + length k.free_pages)
    c.release.ensures.kept in
    rw (part, marks) (list_marks c.requires.asks (drop c.args.skip s.listed) known)

pub returns-clause-carried : goal.returns-clause-carried
returns-clause-carried g c =
    let p = g.F.Frames.parts c.args.store.now in
    let s = c.args.self.now in
    let list = drop c.args.skip s.listed in
    let banks = chain (objects_in p) c.args.above in
    let part = listed_rest s c.args.skip c.deref.ensures.value c.self-2.view_is c.release.ensures.kept in
    let part_too = listed_rest s c.args.skip c.deref-2.ensures.value c.self-2.view_is c.release.ensures.kept in
    let count : c.len.result - c.args.skip ≡ length list =
    omega (
      arith,
      length-drop c.args.skip s.listed,
      c.len.ensures,
      ap (λ (k : BanksState). length k.listed) c.self.view_is,
      c.self.inside.listed.ok.0,
    ) in
    let raised : IsRaised banks (length list) c.release.new.self.usages s.usages =
    subst (λ (n : ℕ). IsRaised banks n c.release.new.self.usages s.usages) count c.release.ensures.usages in
    let marks = subst (λ (xs : List ℕ). (n : ℕ) → is_marked (c.mark_free.new.nodes ++ c.mark_free.new.pages) n
    ≡ (if is_member xs n then true else is_marked (c.self-2.inside.nodes ++ c.self-2.inside.pages) n)) part_too c.mark_free.ensures.marks in
    ended_carried c.requires.asks c.requires.may
    (released_then list raised c.release.ensures.kept c.self-2.view_is c.mark_free.ensures.nodes c.mark_free.ensures.pages marks)
    (c.rescind.ensures.objects ∙ ap (λ (xs : List ℕ). rescind xs (objects_in p)) part) c.rescind.ensures.current c.rescind.ensures.keepable

pub returns-clause-snapshots : goal.returns-clause-snapshots
returns-clause-snapshots g c =
    let os = objects_in (g.F.Frames.parts c.args.store.now) in
    let part = listed_rest c.args.self.now c.args.skip c.deref.ensures.value c.self-2.view_is c.release.ensures.kept in
    ended_snapshots g.F.Frames.parts g.F.Frames.IsFetched g.F.PresentFrames.IsAnnounced g.F.Frames.ContinuesTo c.args.store.now
    c.rescind.new.store
    (take (length c.deref.result.now - c.args.skip) (drop c.args.skip c.deref.result.now))
    c.rescind.ensures.given_up c.rescind.ensures.objects
    (subst (λ (xs : List ℕ). (n : ℕ) → is_member xs n ≡ true → is_free (content_at os n) ≡ false) (sym part) c.requires.may.used)
    c.rescind.ensures.fetched c.rescind.ensures.announced c.rescind.ensures.continues
