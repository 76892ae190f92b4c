use Rattle.layout.proofs.Names.{nat_tests, ℕ, List, length, drop, refl, sym, subst, arith, All, false≢true, Geometry, HomeRange, unused}
use Rattle.std.proofs.Common.{◌≡◌, ◌/◌, ◌∙◌}
use Rattle.layout.proofs.Superblocks.{magic, magic_read, version_from, plan_reported, others_are, plan_found, plan_read, none_read_of, eight_read, last_ranges}
use Rattle.layout.proofs.Superblocks.{plan_same}
use Rattle.layout.proofs.superblock.read_plan.Goals as goal
use Rattle.layout.proofs.superblock.read_plan.Goals.{then-used-gt-MAX_RANGES-via-then-used-gt-MAX_RANGES}
use Rattle.layout.proofs.superblock.read_plan.Goals.{then-used-gt-MAX_RANGES-via-else-used-gt-MAX_RANGES+then-not-are_unused}

pub returns-then-used-gt-MAX_RANGES-clause-none : goal.returns-then-used-gt-MAX_RANGES-clause-none
returns-then-used-gt-MAX_RANGES-clause-none c = λ p is e.
    let g : Geometry = record { nodes = c.number_at.result; pages = c.number_at-2.result; log = c.number_at-3.result } in
    let all : List HomeRange = c.read_ranges.new.into in
    let second : ℕ = c.number_at-second.result in
    let eight : length all ≡ 8 = omega arith in
    let version = version_from c.args.bytes.now second c.args.version c.number_at-second.ensures (omega arith) c.requires.version in
    let read = eight_read _ magic second _ _ _ _ _ _ all (magic_read c.args.bytes.now c.requires.magic) c.number_at-second.ensures
    c.number_at.ensures
    c.number_at-2.ensures c.number_at-3.ensures c.number_at-half_0.ensures c.number_at-half_1.ensures c.number_at-total.ensures
    c.read_ranges.ensures.bytes in
    let reported = plan_reported p c.args.version _ magic second g all _ _ _ (omega arith) c.read_ranges.ensures.fits eight read version is
    e in
    elim c.then-used-gt-MAX_RANGES.branch [
      | then-used-gt-MAX_RANGES-via-then-used-gt-MAX_RANGES w ↦ omega (arith, reported.used_is, reported.few)
      | then-used-gt-MAX_RANGES-via-else-used-gt-MAX_RANGES+then-not-are_unused w ↦
          false≢true (sym w.if-not-are_unused.true ∙ w.are_unused.ensures.1
          (subst (All (λ r. r ≡ unused)) (sym (last_ranges all (second / 4294967296) eight))
          (others_are p c.args.version second g all _ _ _ reported)))
    ]

pub returns-clause-found : goal.returns-clause-found
returns-clause-found c =
    let g : Geometry = record { nodes = c.number_at.result; pages = c.number_at-2.result; log = c.number_at-3.result } in
    let all : List HomeRange = c.read_ranges.new.into in
    let second : ℕ = c.number_at-second.result in
    let eight : length all ≡ 8 = omega arith in
    let version = version_from c.args.bytes.now second c.args.version c.number_at-second.ensures (omega arith) c.requires.version in
    let read = eight_read _ magic second _ _ _ _ _ _ all (magic_read c.args.bytes.now c.requires.magic) c.number_at-second.ensures
    c.number_at.ensures
    c.number_at-2.ensures c.number_at-3.ensures c.number_at-half_0.ensures c.number_at-half_1.ensures c.number_at-total.ensures
    c.read_ranges.ensures.bytes in
    let used : ℕ = second / 4294967296 in
    let others : All (λ r. r ≡ unused) (drop used all) = grind (arith, nat_tests, last_ranges) in
    plan_read c.args.bytes.now _ c.new.result
    (plan_found c.args.version _ second g all _ _ _ used read version refl (omega arith) eight others c.requires.size c.requires.blank)
    c.new.ensures.some

pub returns-clause-none : goal.returns-clause-none
returns-clause-none c =
    let g : Geometry = record { nodes = c.number_at.result; pages = c.number_at-2.result; log = c.number_at-3.result } in
    let all : List HomeRange = c.read_ranges.new.into in
    let second : ℕ = c.number_at-second.result in
    let eight : length all ≡ 8 = omega arith in
    let version = version_from c.args.bytes.now second c.args.version c.number_at-second.ensures (omega arith) c.requires.version in
    let read = eight_read _ magic second _ _ _ _ _ _ all (magic_read c.args.bytes.now c.requires.magic) c.number_at-second.ensures
    c.number_at.ensures
    c.number_at-2.ensures c.number_at-3.ensures c.number_at-half_0.ensures c.number_at-half_1.ensures c.number_at-total.ensures
    c.read_ranges.ensures.bytes in
    none_read_of c.args.bytes.now _ c.new.result
    (λ p is e. plan_same p c.args.version second g all _ _ _
    (plan_reported p c.args.version _ magic second g all _ _ _ (omega arith) c.read_ranges.ensures.fits eight read version is e))
    c.new.ensures.none
