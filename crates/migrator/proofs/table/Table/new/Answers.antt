use Rattle.std.proofs.Common.{sym, ap, ◌∙◌, map}
use Rattle.migrator.specs.Table.{is_held}
use Rattle.migrator.proofs.Tables.{blank_is, unheld_all}
use Rattle.migrator.proofs.table.Table.new.Goals as goal

pub invariant_of-result : goal.invariant_of-result
invariant_of-result c =
    blank_is c.args.count c.in_ok-places.ensures (c.in_ok-held.ensures ∙ unheld_all c.args.count
    ∙ sym (ap (map is_held) c.in_ok-places.ensures))
