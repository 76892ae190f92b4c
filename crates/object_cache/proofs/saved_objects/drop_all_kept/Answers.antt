use Rattle.object_cache.proofs.Names.{true, arith, length, length-set, is_some, entry_at, option_map, rules}
use Rattle.std.proofs.Common.{◌≡◌, ◌<◌, ◌∙◌}
use Rattle.object_cache.proofs.Opening.{dropped_one}
use Rattle.object_cache.proofs.PutsOut.{dropping}
use Rattle.object_cache.proofs.saved_objects.drop_all_kept.Goals as goal

pub loop-number-preserved : goal.loop-number-preserved
loop-number-preserved c =
    let e = c.loop-number.entries in
    let k = c.loop-number.number in
    let before = c.loop-number.invariant in
    let within : k < length e.at = omega (arith, c.loop-number-test.true, before.each) in
    let held : is_some (entry_at e.at k) ≡ true = search rules in
    rw c.drop_kept.ensures (record {
      each = length-set e.at k (option_map dropping (entry_at e.at k)) ∙ before.each;
      most = before.most;
      unkept = dropped_one e k held within before.unkept;
    })
