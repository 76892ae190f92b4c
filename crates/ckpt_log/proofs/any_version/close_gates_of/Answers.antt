use Rattle.std.proofs.Common.{◌≡◌, true, false, ap, sym, ◌∙◌, arith}
use Rattle.layout.specs.Version.{row}
use Rattle.layout.specs.declared.version.Row.{Row}
use Rattle.ckpt_log.proofs.AnyVersions.{keeps_from, plain_first, plain_keeps, plain_was_kept, was_kept_from}
use Rattle.ckpt_log.proofs.any_version.close_gates_of.Goals as goal

pub returns-then-row-clause-seen : goal.returns-then-row-clause-seen
returns-then-row-clause-seen g c =
    let is : (row c.args.version).sealed ≡ true = ap (λ (r : Row). r.sealed) (sym c.row.ensures.value) ∙ c.if-row.true in
    keeps_from c.args.version is (g.D.Device.disk c.args.device.now).seen (g.D.Device.disk c.close_gates.new.device).seen
    c.close_gates.ensures.seen

pub returns-then-row-clause-any_moment : goal.returns-then-row-clause-any_moment
returns-then-row-clause-any_moment g c =
    let is : (row c.args.version).sealed ≡ true = ap (λ (r : Row). r.sealed) (sym c.row.ensures.value) ∙ c.if-row.true in
    was_kept_from c.args.version is (g.D.Device.disk c.args.device.now) (g.D.Device.disk c.close_gates.new.device)
    c.close_gates.ensures.any_moment

pub close_gates-requires-2 : goal.close_gates-requires-2
close_gates-requires-2 g c =
    let is : (row c.args.version).sealed ≡ false = ap (λ (r : Row). r.sealed) (sym c.row.ensures.value) ∙ c.if-row.false in
    let first = plain_first c.args.version is in
    record { inside = omega (arith, first, c.requires.inside) }

pub returns-clause-seen : goal.returns-clause-seen
returns-clause-seen g c =
    let is : (row c.args.version).sealed ≡ false = ap (λ (r : Row). r.sealed) (sym c.row.ensures.value) ∙ c.if-row.false in
    plain_keeps c.args.version is (g.D.Device.disk c.args.device.now).seen (g.D.Device.disk c.close_gates-2.new.device).seen
    c.close_gates-2.ensures.seen

pub returns-clause-any_moment : goal.returns-clause-any_moment
returns-clause-any_moment g c =
    let is : (row c.args.version).sealed ≡ false = ap (λ (r : Row). r.sealed) (sym c.row.ensures.value) ∙ c.if-row.false in
    plain_was_kept c.args.version is (g.D.Device.disk c.args.device.now) (g.D.Device.disk c.close_gates-2.new.device)
    c.close_gates-2.ensures.any_moment
