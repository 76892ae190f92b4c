use Rattle.layout.proofs.Names.{nat_tests, ℕ, List, length, ap, subst, arith, Geometry, zeros, Plan, IsPlan, version_number, ranges_bytes}
use Rattle.std.proofs.Common.{◌≡◌, ◌+◌, ◌-◌, ◌*◌, ◌∙◌}
use borrow.Rule.Slice.PartMut.{put_mid}
use Rattle.layout.proofs.Numbers.{IsWritten, written_none, written_more}
use Rattle.layout.proofs.Superblocks.{front_same, plan_written, second_of}
use Rattle.layout.proofs.superblock.encode_front.Goals as goal

pub returns : goal.returns
returns c =
    let old : List ℕ = c.blank.new.bytes in
    let p : Plan = c.args.superblock.now in
    let is : IsPlan p = c.ranges-ranges.ensures.fits in
    let count : length c.ranges-ranges.result.now ≡ length p.ranges = ap length c.ranges-ranges.ensures.value in
    let version : c.number-version.result ≡ version_number p.version = c.number-version.ensures.value
    ∙ ap version_number c.version.ensures.value in
    let second : c.number-version.result + 4294967296 * length c.ranges-ranges.result.now ≡ second_of p = grind (arith, nat_tests) in
    let was = (written_more old _ _ _ 56 _ (written_more old _ _ _ 48 _ (written_more old _ _ _ 40 _
    (written_more old _ _ _ 32 _ (written_more old _ _ _ 24 _
    (written_more old _ _ _ 16 _ (written_more old _ _ _ 8 _ (written_more old _ _ _ 0 _ (written_none old)
    c.put_number.ensures.before c.put_number.ensures.after)
    c.put_number-2.ensures.before c.put_number-2.ensures.after)
    c.put_number-3.ensures.before c.put_number-3.ensures.after)
    c.put_number-4.ensures.before c.put_number-4.ensures.after)
    c.put_number-5.ensures.before c.put_number-5.ensures.after)
    c.put_number-6.ensures.before c.put_number-6.ensures.after)
    c.put_number-7.ensures.before c.put_number-7.ensures.after)
    c.put_number-8.ensures.before c.put_number-8.ensures.after) in
    let same = front_same (c.number-version.result + 4294967296 * length c.ranges-ranges.result.now) c.geometry-geometry.result.nodes
    c.geometry-geometry.result.pages c.geometry-geometry.result.log c.half.result c.half-2.result c.total.result
    (second_of p) p.geometry.nodes p.geometry.pages p.geometry.log p.half_0 p.half_1 p.total
    second (ap (λ (g : Geometry). g.nodes) c.geometry-geometry.ensures.value)
    (ap (λ (g : Geometry). g.pages) c.geometry-geometry.ensures.value)
    (ap (λ (g : Geometry). g.log) c.geometry-geometry.ensures.value)
    c.half.ensures.value c.half-2.ensures.value c.total.ensures.value in
    plan_written p old c.put_number-8.new.bytes _ (64 + 24 * length c.ranges-ranges.result.now - 64) is.few
    (c.blank.ensures ∙ ap zeros c.requires)
    (subst (λ (f : List ℕ). IsWritten old f c.put_number-8.new.bytes 64) same was) (omega (arith, count))
    (ap (put_mid 64 (64 + 24 * length c.ranges-ranges.result.now - 64) c.put_number-8.new.bytes)
    (c.write_ranges.ensures ∙ ap ranges_bytes c.ranges-ranges.ensures.value))
