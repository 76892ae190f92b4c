use Rattle.object_cache.proofs.Names.{ℕ, [], None, ap, replicate, EntriesState}
use Rattle.std.proofs.Common.{◌∙◌}
use Rattle.object_cache.proofs.Opening.{none_inserted}
use Rattle.object_cache.proofs.saved_objects.all_entries.Goals as goal

pub insert_all-requires : goal.insert_all-requires
insert_all-requires c =
    let none = λ (most : ℕ). let s : EntriesState = record { at = replicate c.args.count None; order = []; most = most } in s in
    none_inserted c.args.count c.in_ok-entries.entries (c.in_ok-entries.ensures.none ∙ ap none c.capacity_for_all-capacity.ensures.all)
    c.capacity_for_all-capacity.ensures.whole
