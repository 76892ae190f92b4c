use Rattle.image_writer.proofs.Names.{sym, row, true, false, ap, Row}
use Rattle.std.proofs.Common.{◌≡◌, ◌∙◌}
use Rattle.image_writer.proofs.OldGates.{other_plain, other_sealed, others_closed, others_elsewhere, others_run}
use Rattle.image_writer.proofs.closing.close_others.Goals as goal

pub returns-then-row-clause-closed : goal.returns-then-row-clause-closed
returns-then-row-clause-closed g c =
    let sealed : (row c.args.version).sealed ≡ true = sym (ap (λ (r : Row). r.sealed) c.row.ensures.value) ∙ c.if-row.true in
    others_closed c.args.version false (other_plain c.args.version sealed) c.clear_plain.result (g.D.Device.disk c.args.device.now).seen
    (g.D.Device.disk c.clear_plain.new.device).seen c.clear_plain.ensures.spares c.requires.closed c.clear_plain.ensures.closed

pub returns-then-row-clause-elsewhere : goal.returns-then-row-clause-elsewhere
returns-then-row-clause-elsewhere g c =
    let sealed : (row c.args.version).sealed ≡ true = sym (ap (λ (r : Row). r.sealed) c.row.ensures.value) ∙ c.if-row.true in
    others_elsewhere c.args.version false (other_plain c.args.version sealed) (g.D.Device.disk c.args.device.now).seen
    (g.D.Device.disk c.clear_plain.new.device).seen c.clear_plain.ensures.spares

pub returns-then-row-clause-any_moment : goal.returns-then-row-clause-any_moment
returns-then-row-clause-any_moment g c =
    let sealed : (row c.args.version).sealed ≡ true = sym (ap (λ (r : Row). r.sealed) c.row.ensures.value) ∙ c.if-row.true in
    others_run c.args.version false (other_plain c.args.version sealed) (g.D.Device.disk c.args.device.now)
    (g.D.Device.disk c.clear_plain.new.device) c.requires.named c.requires.closed c.clear_plain.ensures.any_moment

pub returns-else-row-clause-closed : goal.returns-else-row-clause-closed
returns-else-row-clause-closed g c =
    let plain : (row c.args.version).sealed ≡ false = sym (ap (λ (r : Row). r.sealed) c.row.ensures.value) ∙ c.if-row.false in
    others_closed c.args.version true (other_sealed c.args.version plain) c.clear_sealed.result (g.D.Device.disk c.args.device.now).seen
    (g.D.Device.disk c.clear_sealed.new.device).seen c.clear_sealed.ensures.spares c.requires.closed c.clear_sealed.ensures.closed

pub returns-else-row-clause-elsewhere : goal.returns-else-row-clause-elsewhere
returns-else-row-clause-elsewhere g c =
    let plain : (row c.args.version).sealed ≡ false = sym (ap (λ (r : Row). r.sealed) c.row.ensures.value) ∙ c.if-row.false in
    others_elsewhere c.args.version true (other_sealed c.args.version plain) (g.D.Device.disk c.args.device.now).seen
    (g.D.Device.disk c.clear_sealed.new.device).seen c.clear_sealed.ensures.spares

pub returns-else-row-clause-any_moment : goal.returns-else-row-clause-any_moment
returns-else-row-clause-any_moment g c =
    let plain : (row c.args.version).sealed ≡ false = sym (ap (λ (r : Row). r.sealed) c.row.ensures.value) ∙ c.if-row.false in
    others_run c.args.version true (other_sealed c.args.version plain) (g.D.Device.disk c.args.device.now)
    (g.D.Device.disk c.clear_sealed.new.device) c.requires.named c.requires.closed c.clear_sealed.ensures.any_moment
